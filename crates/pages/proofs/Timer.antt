-- The laws of the timer.
use Rattle.std.proofs.Common.{◌≡◌, ℕ, ◌+◌, ◌-◌, ◌/◌, ◌%◌, ◌^◌, ◌<◌, ◌≤◌, Bool, true, false, cond, T, eqb, leb, sym, refl, ap, ◌∙◌, subst, arith, eqb→eq, le-leb}
use lib.Bits.{bit_xor}
use borrow.Author.Tests.{lt-leb}
use Rattle.arithmetic.specs.declared.record.Lh5801.{Lh5801}
use Rattle.arithmetic.specs.Record.{with_tm, with_is_timer_reached, with_timer_state, with_step_previous_state, with_ticks}
use Rattle.arithmetic.proofs.Status.{Status, status_of, with_timer, status_with_ticks, keeps_previous, keeps_states, status_tm, status_reached, status_ticks}
use Rattle.arithmetic.proofs.Compute.{both, both_left, both_right, every, test_at}
use Rattle.pages.specs.Timer.{shift_of, timer_inc_of, add_state_of, passed_of, timer_part_of}

halves : ℕ → Bool
halves tm = eqb (shift_of tm % 256) (tm / 2)

xors : ℕ → Bool
xors tm = eqb (shift_of tm / 256) (bit_xor (tm % 2) (tm / 16 % 2))

all_shift : T (every (λ tm. both (halves tm) (xors tm)) 0 512)
unfolding halves xors shift_of
all_shift = tt

-- the shift in document 01's words: TM halved, and bit 8 is bit 0 xor bit 4. By computation over the 512 values
pub shift_bits : (tm : ℕ) → tm < 512 → (shift_of tm % 256 ≡ tm / 2) × (shift_of tm / 256 ≡ bit_xor (tm % 2) (tm / 16 % 2))
unfolding halves xors
shift_bits tm h =
    let t : T (both (halves tm) (xors tm)) = test_at (λ tm. both (halves tm) (xors tm)) 512 all_shift tm h in
    (eqb→eq _ _ (both_left (halves tm) (xors tm) t), eqb→eq _ _ (both_right (halves tm) (xors tm) t))

-- a shift keeps TM at most 511
pub shift_small : (tm : ℕ) → tm < 512 → shift_of tm < 512
unfolding shift_of
shift_small tm h = omega arith

-- the states passed are the difference that wraps: the one number of 64 bits that, added to previous, gives the current count
pub passed_is : (m : Lh5801) → m.timer_state < 2 ^ 64 → m.step_previous_state < 2 ^ 64
    → (passed_of m < 2 ^ 64) × ((passed_of m + m.step_previous_state) % 2 ^ 64 ≡ m.timer_state)
unfolding passed_of
passed_is m h k = (omega arith, omega arith)

pub passed_only : (m : Lh5801) (d : ℕ) → d < 2 ^ 64 → m.step_previous_state < 2 ^ 64
    → (d + m.step_previous_state) % 2 ^ 64 ≡ m.timer_state
    → d ≡ passed_of m
unfolding passed_of
passed_only m d h k e = omega arith

-- the timer part before 42 states have passed, and from then on
pub timer_part_early : (m : Lh5801) → passed_of m < 42 → timer_part_of m ≡ m
unfolding timer_part_of
timer_part_early m h = rw (lt-leb 42 (passed_of m) h)

pub timer_part_due : (m : Lh5801) → 42 ≤ passed_of m → timer_part_of m ≡ with_step_previous_state (timer_inc_of m) m.timer_state
unfolding timer_part_of
timer_part_due m h = rw (le-leb 42 (passed_of m) h)

-- a shift with previous set: TM and timer reached change, and nothing else of the status
shifted_status : (m : Lh5801)
    → status_of (with_step_previous_state (timer_inc_of m) m.timer_state) ≡ with_timer (status_of m) (shift_of m.tm) (eqb (shift_of m.tm) 0x1FF)
unfolding timer_inc_of
shifted_status m =
    keeps_previous _ _
    ∙ status_reached (with_tm m _) _
    ∙ ap (λ (s : Status). with_timer s s.tm (eqb (shift_of m.tm) 0x1FF)) (status_tm m _)

-- the timer part keeps TM at most 511
pub timer_part_small : (m : Lh5801) → m.tm < 512 → (timer_part_of m).tm < 512
unfolding timer_part_of
timer_part_small m h = go (leb 42 (passed_of m))
  where
    go : (t : Bool) → (cond t (with_step_previous_state (timer_inc_of m) m.timer_state) m).tm < 512
    go true = subst (λ (n : ℕ). n < 512) (sym (ap (λ (s : Status). s.tm) (shifted_status m))) (shift_small m.tm h)
    go false = h

-- of the status it changes TM and timer reached only, and states that pass change the ticks only
pub timer_part_status : (m : Lh5801) → status_of (timer_part_of m) ≡ with_timer (status_of m) (timer_part_of m).tm (timer_part_of m).is_timer_reached
unfolding timer_part_of
timer_part_status m = go (leb 42 (passed_of m))
  where
    after : Bool → Lh5801
    after t = cond t (with_step_previous_state (timer_inc_of m) m.timer_state) m

    go : (t : Bool) → status_of (after t) ≡ with_timer (status_of m) (after t).tm (after t).is_timer_reached
    go true = shifted_status m ∙ ap (λ (s : Status). with_timer (status_of m) s.tm s.reached) (sym (shifted_status m))
    go false = refl

pub states_status : (m : Lh5801) (n : ℕ) → status_of (add_state_of m n) ≡ status_with_ticks (status_of m) ((m.ticks + n) % 2 ^ 64)
unfolding add_state_of
states_status m n = status_ticks (with_timer_state m _) _ ∙ ap (λ (s : Status). status_with_ticks s ((m.ticks + n) % 2 ^ 64)) (keeps_states m _)

-- states that pass keep TM
pub states_tm : (m : Lh5801) (n : ℕ) → (add_state_of m n).tm ≡ m.tm
states_tm m n = ap (λ (s : Status). s.tm) (states_status m n)

-- states that pass, and then the timer part: the counters, and with 42 states or more since previous one shift
module _ (m : Lh5801) (n : ℕ) where
  abbrev now : ℕ
  now = (m.timer_state + n) % 2 ^ 64

  abbrev later : ℕ
  later = (m.ticks + n) % 2 ^ 64

  abbrev counted : Lh5801
  counted = record m { timer_state = now; ticks = later }

  abbrev shifted : Lh5801
  shifted = record counted { tm = shift_of m.tm; is_timer_reached = eqb (shift_of m.tm) 0x1FF; step_previous_state = now }

  pub elapsed : timer_part_of (add_state_of m n) ≡ cond (leb 42 ((now + (2 ^ 64 - m.step_previous_state)) % 2 ^ 64)) shifted counted
  unfolding add_state_of timer_part_of timer_inc_of passed_of with_tm with_is_timer_reached with_timer_state with_step_previous_state with_ticks
  elapsed = refl
