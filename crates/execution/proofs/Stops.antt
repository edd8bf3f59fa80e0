-- A step's stops: their numbers and bytes, and that a stop is known by the two.
use Rattle.std.proofs.Common.{◌≡◌, ℕ, ◌≤◌, ◌≢◌, cond, eqb, refl, sym, ap, ◌∙◌, arith}
use Rattle.execution.specs.declared.Opcode.TheVariants.{First, AfterFd}
use Rattle.execution.specs.declared.Stop.{Stop}
use Rattle.execution.specs.declared.Stop.TheVariants.{Unlisted, Halted, AtAddress}
use Rattle.execution.specs.Stops.{stop_number, stop_byte}

-- the number of a step's stop is 5, 6, 7 or 12
pub stop_least : (s : Stop) → 5 ≤ stop_number s
stop_least (Unlisted (First b)) = omega arith
stop_least (Unlisted (AfterFd b)) = omega arith
stop_least Halted = omega arith
stop_least AtAddress = omega arith

pub stop_most : (s : Stop) → stop_number s ≤ 12
stop_most (Unlisted (First b)) = omega arith
stop_most (Unlisted (AfterFd b)) = omega arith
stop_most Halted = omega arith
stop_most AtAddress = omega arith

pub stop_not_11 : (s : Stop) → stop_number s ≢ 11
stop_not_11 (Unlisted (First b)) e = omega arith
stop_not_11 (Unlisted (AfterFd b)) e = omega arith
stop_not_11 Halted e = omega arith
stop_not_11 AtAddress e = omega arith

-- "The byte returned is 0 unless the number is 5 or 6"
pub stop_byte_0 : (s : Stop) → ¬ (stop_number s ≡ 5) → ¬ (stop_number s ≡ 6) → stop_byte s ≡ 0
stop_byte_0 (Unlisted (First b)) i j = absurd (i refl)
stop_byte_0 (Unlisted (AfterFd b)) i j = absurd (j refl)
stop_byte_0 Halted i j = refl
stop_byte_0 AtAddress i j = refl

-- a stop is known by its number and its byte
stop_of : ℕ → ℕ → Stop
stop_of n b = cond (eqb n 5) (Unlisted (First b)) (cond (eqb n 6) (Unlisted (AfterFd b)) (cond (eqb n 7) Halted AtAddress))

stop_back : (s : Stop) → stop_of (stop_number s) (stop_byte s) ≡ s
unfolding stop_of
stop_back (Unlisted (First b)) = refl
stop_back (Unlisted (AfterFd b)) = refl
stop_back Halted = refl
stop_back AtAddress = refl

pub stop_same : (x y : Stop) → stop_number x ≡ stop_number y → stop_byte x ≡ stop_byte y → x ≡ y
stop_same x y i j = sym (stop_back x) ∙ ap (stop_of (stop_number x)) j ∙ ap (λ (n : ℕ). stop_of n (stop_byte y)) i ∙ stop_back y
