-- After a settled instruction and a timer part that does not reach 1FF an instruction is due again.
use Rattle.std.proofs.Common.{◌≡◌, ℕ, true, false, sym, ap, ◌∙◌, subst}
use Rattle.arithmetic.specs.declared.record.Lh5801.{Lh5801}
use Rattle.arithmetic.specs.Record.{with_p}
use Rattle.arithmetic.proofs.Status.{Status, status_of, with_timer, keeps_p}
use Rattle.pages.specs.Timer.{add_state_of, timer_part_of}
use Rattle.pages.specs.Pages.{Pages}
use Rattle.pages.specs.Prog.{Prog, exec}
use Rattle.pages.proofs.Always.{Always, always_exec}
use Rattle.pages.proofs.Timer.{timer_part_status, states_status}
use Rattle.execution.specs.declared.Inputs.{Inputs}
use Rattle.execution.specs.declared.instructions.Instruction.{Instruction}
use Rattle.execution.specs.Instructions.{execute_of}
use Rattle.execution.specs.States.{added_of}
use Rattle.execution.specs.Code.Due.{Ready, settled_of}
use Rattle.execution.proofs.Effects.{Effect, due_in, executed}

-- what always holds of a program's answer holds of what it answers
does_always : (P : Lh5801 → Type 0) {k : Lh5801} (l : Pages) (p : Prog Lh5801) → Always P p → k ≡ (exec p l).answer → P k
does_always P l p h d = subst P (sym d) (always_exec P p h l)

module _ (m : Lh5801) (p : ℕ) (inputs : Inputs) (i : Instruction) (n : ℕ) (l : Pages) {k : Lh5801} (d : k ≡ (exec (execute_of (with_p m p) inputs i) l).answer) where
  after : Effect (with_p m p) (added_of (with_p m p) i) (settled_of i) k
  after = does_always _ l (execute_of (with_p m p) inputs i) (executed (with_p m p) inputs i) d

  states_ready : settled_of i ≡ true → Ready m → Ready (add_state_of k n)
  states_ready s h =
      record {
        due = ap due_in (states_status k n) ∙ after.due s ∙ ap due_in (keeps_p m p) ∙ h.due;
        clear = ap (λ (x : Status). x.reached) (states_status k n) ∙ after.reached s ∙ ap (λ (x : Status). x.reached) (keeps_p m p) ∙ h.clear;
      }

-- the timer part, where it does not reach 1FF
timer_ready : (m : Lh5801) → Ready m → (timer_part_of m).is_timer_reached ≡ false → Ready (timer_part_of m)
timer_ready m h e =
    record {
      due = ap due_in (timer_part_status m ∙ ap (with_timer (status_of m) (timer_part_of m).tm) (e ∙ sym h.clear)) ∙ h.due;
      clear = e;
    }

-- what code knows: after a settled instruction and a timer part that did not reach 1FF an instruction is due again
pub again : (m : Lh5801) (p : ℕ) (inputs : Inputs) (i : Instruction) (n : ℕ) (l : Pages) {k now r : Lh5801}
    → settled_of i ≡ true
    → Ready m
    → k ≡ (exec (execute_of (with_p m p) inputs i) l).answer
    → now ≡ add_state_of k n
    → r ≡ timer_part_of now
    → r.is_timer_reached ≡ false
    → Ready r
again m p inputs i n l {k = k} {r = r} s h d e f c =
    let z : r ≡ timer_part_of (add_state_of k n) = f ∙ ap timer_part_of e in
    subst Ready (sym z) (timer_ready (add_state_of k n) (states_ready m p inputs i n l d s h) (subst (λ (x : Lh5801). x.is_timer_reached ≡ false) z c))
