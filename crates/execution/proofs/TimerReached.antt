-- The record after "Timer reached moves to IR1", and what stays as it was.
use Rattle.std.proofs.Common.{◌≡◌, Bool, true, false, cond, ◌||◌, sym, refl, ap, ◌∙◌}
use mathlib.Core.Bool.{or-true, or-false}
use Rattle.arithmetic.specs.declared.record.Lh5801.{Lh5801}
use Rattle.arithmetic.specs.Record.{with_ir1, with_is_timer_reached}
use Rattle.execution.specs.Interrupts.{accepted}
use Rattle.execution.specs.Step.{reached_of}
use Rattle.execution.specs.Code.Due.{due_of, Ready}
use Rattle.execution.proofs.Choices.{cond_false}

module _ (m : Lh5801) where
  -- with timer reached clear nothing moves
  pub reached_stays : m.is_timer_reached ≡ false → reached_of m ≡ m
  unfolding reached_of
  reached_stays e = cond_false _ _ _ e

  -- IR1 and timer reached as given, every other field as it was
  abbrev pub with_ir1_reached : Bool → Bool → Lh5801
  with_ir1_reached ir1 reached = record m { ir1 = ir1; is_timer_reached = reached }

  pub reached_fields : reached_of m ≡ with_ir1_reached (m.ir1 || m.is_timer_reached) false
  unfolding reached_of with_ir1 with_is_timer_reached
  reached_fields = go m.is_timer_reached refl
    where
      go : (b : Bool) → m.is_timer_reached ≡ b → cond b (with_ir1_reached true false) m ≡ with_ir1_reached (m.ir1 || b) false
      go true e = ap (λ (i : Bool). with_ir1_reached i false) (sym (or-true m.ir1))
      go false e = ap (with_ir1_reached m.ir1) e ∙ ap (λ (i : Bool). with_ir1_reached i false) (sym (or-false m.ir1))

  pub reached_p : (reached_of m).p ≡ m.p
  reached_p = ap (λ (k : Lh5801). k.p) reached_fields

  pub reached_halted : (reached_of m).is_halted ≡ m.is_halted
  reached_halted = ap (λ (k : Lh5801). k.is_halted) reached_fields

  -- the same interrupt is accepted before and after it
  pub reached_accepted : accepted (reached_of m) ≡ accepted m
  reached_accepted = ap accepted reached_fields ∙ rw (or-false (m.ir1 || m.is_timer_reached))

  -- an instruction is due or not as before, and then timer reached is clear
  reached_due : due_of (reached_of m) ≡ due_of m
  reached_due = ap due_of reached_fields ∙ rw (or-false (m.ir1 || m.is_timer_reached))

  pub reached_ready : due_of m ≡ true → Ready (reached_of m)
  reached_ready h = record { due = reached_due ∙ h; clear = ap (λ (k : Lh5801). k.is_timer_reached) reached_fields }

  -- IR1 and timer reached set back: the record that it was
  pub reached_back : with_is_timer_reached (with_ir1 (reached_of m) m.ir1) m.is_timer_reached ≡ m
  unfolding with_ir1 with_is_timer_reached
  reached_back = ap (λ (k : Lh5801). with_is_timer_reached (with_ir1 k m.ir1) m.is_timer_reached) reached_fields
