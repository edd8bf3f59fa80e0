-- Whether a call is accepted: which condition gives which end.
use Rattle.std.proofs.Common.{◌≡◌, ℕ, ◌<◌, ◌≤◌, cond, ◌||◌, eqb, ltb, length, inl, inr, ⊎_elim, true≢false, arith, le-ltb, lt-ltb, eq-eqb, ne_eqb}
use Rattle.std.specs.Prelude.{Option, None, Some}
use native.Mathlib.Decide.{dec_lt, ℕ_discrete}
use Rattle.arithmetic.specs.declared.record.Lh5801.{Lh5801}
use Rattle.pages.specs.Pages.{Pages}
use Rattle.run.specs.declared.Settings.{Settings}
use Rattle.run.specs.declared.End.{End}
use Rattle.run.specs.declared.End.TheVariants.{Page0Length, Page1Length, TimerValue, Limit}
use Rattle.run.specs.Acceptance.{Page0TooLong, Page1TooLong, TimerTooLarge, LimitOut, Accepted, not_accepted}
use Rattle.run.specs.Run.{CallResult, no_step, run_of, call_unless, call_of}

-- the bounds of an accepted call's limit
pub limit_some : {s : Settings} {m : Lh5801} {p : Pages} → Accepted s m p → 1 ≤ s.limit
limit_some {s} h = let z : ¬ (s.limit ≡ 0) = λ e. h.limit (inl e) in omega arith

pub limit_most : {s : Settings} {m : Lh5801} {p : Pages} → Accepted s m p → s.limit ≤ 1_000_000
limit_most {s} h = let z : ¬ (1_000_000 < s.limit) = λ l. h.limit (inr l) in omega arith

module _ (s : Settings) (m : Lh5801) (p : Pages) where
  -- a call is refused by the first condition that holds, or accepted
  pub data Acceptance : Type 0 where
    page0 : Page0TooLong p → Acceptance
    page1 : ¬ Page0TooLong p → Page1TooLong p → Acceptance
    timer : ¬ Page0TooLong p → ¬ Page1TooLong p → TimerTooLarge m → Acceptance
    limit : ¬ Page0TooLong p → ¬ Page1TooLong p → ¬ TimerTooLarge m → LimitOut s → Acceptance
    accepted : Accepted s m p → Acceptance

  pub acceptance_case : Acceptance
  acceptance_case =
      go (dec_lt 65_536 (length p.page0)) (dec_lt 65_536 (length p.page1)) (dec_lt 511 m.tm) (ℕ_discrete s.limit 0)
      (dec_lt 1_000_000 s.limit)
    where
      go : Dec (Page0TooLong p) → Dec (Page1TooLong p) → Dec (TimerTooLarge m) → Dec (s.limit ≡ 0) → Dec (1_000_000 < s.limit) → Acceptance
      go (yes a) b c d e = page0 a
      go (no a) (yes b) c d e = page1 a b
      go (no a) (no b) (yes c) d e = timer a b c
      go (no a) (no b) (no c) (yes d) e = limit a b c (inl d)
      go (no a) (no b) (no c) (no d) (yes e) = limit a b c (inr e)
      go (no a) (no b) (no c) (no d) (no e) = accepted (record { page0 = a; page1 = b; timer = c; limit = ⊎_elim d e })

  pub acceptance_page0 : Page0TooLong p → not_accepted s m p ≡ Some Page0Length
  unfolding not_accepted
  acceptance_page0 h = rw (lt-ltb 65_536 (length p.page0) h)

  pub acceptance_page1 : ¬ Page0TooLong p → Page1TooLong p → not_accepted s m p ≡ Some Page1Length
  unfolding not_accepted
  acceptance_page1 a h = rw (le-ltb 65_536 (length p.page0) (omega arith), lt-ltb 65_536 (length p.page1) h)

  pub acceptance_timer : ¬ Page0TooLong p → ¬ Page1TooLong p → TimerTooLarge m → not_accepted s m p ≡ Some TimerValue
  unfolding not_accepted
  acceptance_timer a b h =
      rw (le-ltb 65_536 (length p.page0) (omega arith), le-ltb 65_536 (length p.page1) (omega arith), lt-ltb 511 m.tm h)

  -- the first three conditions do not hold
  past_three : ¬ Page0TooLong p → ¬ Page1TooLong p → ¬ TimerTooLarge m
      → not_accepted s m p ≡ cond (eqb s.limit 0 || ltb 1_000_000 s.limit) (Some Limit) None
  unfolding not_accepted
  past_three a b c =
      rw (le-ltb 65_536 (length p.page0) (omega arith), le-ltb 65_536 (length p.page1) (omega arith), le-ltb 511 m.tm (omega arith))

  pub acceptance_limit : ¬ Page0TooLong p → ¬ Page1TooLong p → ¬ TimerTooLarge m → LimitOut s → not_accepted s m p ≡ Some Limit
  acceptance_limit a b c (inl h) = rw (past_three a b c, eq-eqb s.limit 0 h)
  acceptance_limit a b c (inr h) = rw (past_three a b c, ne_eqb s.limit 0 (λ e. omega arith), lt-ltb 1_000_000 s.limit h)

  pub acceptance_accepted : Accepted s m p → not_accepted s m p ≡ None
  acceptance_accepted h =
      rw (
        past_three h.page0 h.page1 h.timer,
        ne_eqb s.limit 0 (λ e. h.limit (inl e)),
        le-ltb 1_000_000 s.limit (limit_most h),
      )

  -- and the other way round
  pub accepted_by : not_accepted s m p ≡ None → Accepted s m p
  accepted_by e = go acceptance_case
    where
      never : {x : End} → not_accepted s m p ≡ Some x → Accepted s m p
      never f = absurd (true≢false cc)

      go : Acceptance → Accepted s m p
      go (page0 a) = never (acceptance_page0 a)
      go (page1 a b) = never (acceptance_page1 a b)
      go (timer a b c) = never (acceptance_timer a b c)
      go (limit a b c d) = never (acceptance_limit a b c d)
      go (accepted h) = h

-- what a call does, with so many free entries or without a log
module _ (s : Settings) (free : Option ℕ) (m : Lh5801) (p : Pages) where
  -- an accepted call does its steps
  pub call_run : Accepted s m p → call_of s free m p ≡ run_of s.limit s.inputs free m p
  unfolding call_of call_unless
  call_run h = rw (acceptance_accepted s m p h)

  -- a refused call does nothing
  pub call_end : {e : End} → not_accepted s m p ≡ Some e → call_of s free m p ≡ no_step e m p
  unfolding call_of call_unless
  call_end h = rw h

  -- what holds of a refused call, and of the steps of an accepted one, holds of every call
  pub call_each : (P : CallResult → Type 0)
      → ((e : End) → P (no_step e m p))
      → (Accepted s m p → P (run_of s.limit s.inputs free m p))
      → P (call_of s free m p)
  call_each P a b = go (acceptance_case s m p)
    where
      go : Acceptance s m p → P (call_of s free m p)
      go (page0 x) = rw (call_end (acceptance_page0 s m p x)) (a _)
      go (page1 x y) = rw (call_end (acceptance_page1 s m p x y)) (a _)
      go (timer x y z) = rw (call_end (acceptance_timer s m p x y z)) (a _)
      go (limit x y z o) = rw (call_end (acceptance_limit s m p x y z o)) (a _)
      go (accepted h) = rw (call_run h) (b h)
