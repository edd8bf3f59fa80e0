-- The test for an instruction is document 01's condition, and the one for a stop before it document 02's.
use Rattle.std.proofs.Common.{◌≡◌, Bool, true, false, not, ◌&&◌, ◌||◌, ◌↔◌, refl}
use mathlib.Core.Bool.{false≢true}
use Rattle.arithmetic.specs.declared.record.Lh5801.{Lh5801}
use Rattle.execution.specs.declared.Inputs.{Inputs}
use Rattle.execution.specs.Conditions.{Due, AddressStop}
use Rattle.execution.specs.Code.Due.{due_of, stops_before_of}
use Rattle.execution.proofs.Choices.{none_left, none_right}
use Rattle.execution.proofs.Accepted.{none_accepted}
use Rattle.execution.proofs.StopAddress.{stops_at_is}

-- the three parts of the test: BF, an interrupt, halted
parts : (bf r h : Bool) → bf && not (r || h) ≡ true → (bf ≡ true) × (r ≡ false) × (h ≡ false)
parts false r h t = absurd (false≢true t)
parts true true h t = absurd (false≢true t)
parts true false true t = absurd (false≢true t)
parts true false false t = (refl, refl, refl)

both_true : (a b : Bool) → a && b ≡ true → (a ≡ true) × (b ≡ true)
both_true true b e = (refl, e)
both_true false b e = absurd (false≢true e)

-- neither of two truth values
neither : (a b : Bool) → a || b ≡ false → (a ≡ false) × (b ≡ false)
neither a b e = (none_left a b e, none_right a b e)

module _ (m : Lh5801) where
  due_holds : due_of m ≡ true → Due m
  due_holds t =
      let p = parts m.bf _ m.is_halted t in
      record { on = p.0; none = (none_accepted m).1 (neither m.ir0 _ p.1); running = p.2 }

  -- the test passes exactly where an instruction is due
  pub due_is : (due_of m ≡ true) ↔ Due m
  due_is = (due_holds, λ d. let n = (none_accepted m).0 d.none in rw (d.on, n.0, n.1, d.running))

  -- the test before it passes exactly where the step stops with 12
  pub stops_before_is : (inputs : Inputs) → (stops_before_of m inputs ≡ true) ↔ AddressStop inputs m
  stops_before_is inputs =
      let at = stops_at_is inputs m.p in (
        λ t. record { due = due_is.0 (both_true _ _ t).1; address = at.0 (both_true _ _ t).0 },
        λ s. rw (at.1 s.address) (due_is.1 s.due),
      )
