-- The numbers of a run call: each number under its condition and no other, and what a refused call leaves.
use Rattle.std.proofs.Common.{◌≡◌, ℕ, ◌≤◌, ◌⊎◌, ◌↔◌, refl, inl, inr, ⊎_elim, arith}
use Rattle.std.specs.Prelude.{Option}
use Rattle.arithmetic.specs.declared.record.Lh5801.{Lh5801}
use Rattle.execution.specs.declared.Inputs.{Inputs}
use Rattle.pages.specs.Pages.{Pages}
use Rattle.execution.proofs.Stops.{stop_least, stop_most, stop_byte_0}
use Rattle.run.specs.declared.Settings.{Settings}
use Rattle.run.specs.declared.End.{End}
use Rattle.run.specs.declared.End.TheVariants.{Step}
use Rattle.run.specs.Acceptance.{end_number, end_byte, Page0TooLong, Page1TooLong, TimerTooLarge, LimitOut, Accepted}
use Rattle.run.specs.Run.{no_step, completed, run_of, call_of, call_number, Refused}
use Rattle.run.proofs.Steps.{run_each}
use Rattle.run.proofs.Acceptance.{Acceptance, page0, page1, timer, limit, accepted, acceptance_case, acceptance_page0, acceptance_page1, acceptance_timer, acceptance_limit, call_run, call_end, call_each}

-- "The byte returned is 0 unless the number is 5 or 6"
pub byte_0 : (e : End) → ¬ (end_number e ≡ 5) → ¬ (end_number e ≡ 6) → end_byte e ≡ 0
byte_0 (Step s) a b = stop_byte_0 s a b
byte_0 e a b = refl

-- there is no number above 12
pub number_most : (e : End) → end_number e ≤ 12
number_most (Step s) = omega (arith, stop_most s)
number_most e = omega arith

run_number : (n : ℕ) (inputs : Inputs) (free : Option ℕ) (m : Lh5801) (p : Pages)
    → (end_number (run_of n inputs free m p).answer.end ≡ 0) ⊎ (5 ≤ end_number (run_of n inputs free m p).answer.end)
unfolding no_step completed
run_number n inputs =
    run_each inputs (λ n free m p o. (end_number o.answer.end ≡ 0) ⊎ (5 ≤ end_number o.answer.end))
    (λ free m p. inl refl)
    (λ n free m p f. inr (omega arith))
    (λ n free m p s f e. inr (stop_least s))
    (λ n free m p k t kind f e h. h)
    n

none_refused : (e : End) (m : Lh5801) (p : Pages) → end_byte e ≡ 0 → Refused m p (no_step e m p)
unfolding no_step
none_refused e m p h = record { cpu = refl; steps = refl; states = refl; byte = h; pages = refl; bus = refl }

-- the number of every call
module _ (s : Settings) (free : Option ℕ) (m : Lh5801) (p : Pages) where
  is_1 : Page0TooLong p → call_number s free m p ≡ 1
  unfolding no_step
  is_1 a = rw (call_end s free m p (acceptance_page0 s m p a))

  is_2 : ¬ Page0TooLong p → Page1TooLong p → call_number s free m p ≡ 2
  unfolding no_step
  is_2 a b = rw (call_end s free m p (acceptance_page1 s m p a b))

  is_3 : ¬ Page0TooLong p → ¬ Page1TooLong p → TimerTooLarge m → call_number s free m p ≡ 3
  unfolding no_step
  is_3 a b c = rw (call_end s free m p (acceptance_timer s m p a b c))

  is_4 : ¬ Page0TooLong p → ¬ Page1TooLong p → ¬ TimerTooLarge m → LimitOut s → call_number s free m p ≡ 4
  unfolding no_step
  is_4 a b c d = rw (call_end s free m p (acceptance_limit s m p a b c d))

  is_none : Accepted s m p → (call_number s free m p ≡ 0) ⊎ (5 ≤ call_number s free m p)
  is_none h = rw (call_run s free m p h) (run_number s.limit s.inputs free m p)

  to_three : Acceptance s m p
      → ((call_number s free m p ≡ 1) ↔ Page0TooLong p)
      × ((call_number s free m p ≡ 2) ↔ (¬ Page0TooLong p × Page1TooLong p))
      × ((call_number s free m p ≡ 3) ↔ (¬ Page0TooLong p × ¬ Page1TooLong p × TimerTooLarge m))
  to_three (page0 a) = omega (arith, is_1 a)
  to_three (page1 a b) = omega (arith, is_2 a b)
  to_three (timer a b c) = omega (arith, is_3 a b c)
  to_three (limit a b c d) = omega (arith, is_4 a b c d)
  to_three (accepted h) = ⊎_elim (λ z. omega arith) (λ z. omega arith) (is_none h)

  to_four : Acceptance s m p → (call_number s free m p ≡ 4) ↔ (¬ Page0TooLong p × ¬ Page1TooLong p × ¬ TimerTooLarge m × LimitOut s)
  to_four (page0 a) = (λ e. absurd (omega (arith, is_1 a)), λ h. absurd (h.0 a))
  to_four (page1 a b) = (λ e. absurd (omega (arith, is_2 a b)), λ h. absurd (h.1 b))
  to_four (timer a b c) = (λ e. absurd (omega (arith, is_3 a b c)), λ h. absurd (h.2 c))
  to_four (limit a b c d) = (λ e. (a, b, c, d), λ h. is_4 a b c d)
  to_four (accepted h) = (λ e. absurd (⊎_elim (λ z. omega arith) (λ z. omega arith) (is_none h)), λ x. absurd (h.limit x.3))

  -- each number from 1 to 4 under its condition and no other, in document 01's order
  pub number_1 : (call_number s free m p ≡ 1) ↔ Page0TooLong p
  number_1 = (to_three (acceptance_case s m p)).0

  pub number_2 : (call_number s free m p ≡ 2) ↔ (¬ Page0TooLong p × Page1TooLong p)
  number_2 = (to_three (acceptance_case s m p)).1

  pub number_3 : (call_number s free m p ≡ 3) ↔ (¬ Page0TooLong p × ¬ Page1TooLong p × TimerTooLarge m)
  number_3 = (to_three (acceptance_case s m p)).2

  pub number_4 : (call_number s free m p ≡ 4) ↔ (¬ Page0TooLong p × ¬ Page1TooLong p × ¬ TimerTooLarge m × LimitOut s)
  number_4 = to_four (acceptance_case s m p)

  -- on 1 to 4
  pub call_refused : 1 ≤ call_number s free m p → call_number s free m p ≤ 4 → Refused m p (call_of s free m p)
  unfolding no_step
  call_refused =
      call_each s free m p (λ o. 1 ≤ end_number o.answer.end → end_number o.answer.end ≤ 4 → Refused m p o)
      (λ e i j. none_refused e m p (byte_0 e (λ z. omega arith) (λ z. omega arith)))
      (λ h i j. absurd (⊎_elim (λ z. omega arith) (λ z. omega arith) (run_number s.limit s.inputs free m p)))
