-- What a waiting step leaves, field by field, and that only a waiting step does.
use Rattle.std.proofs.Common.{◌≡◌, ℕ, ◌+◌, ◌%◌, ◌^◌, Bool, true, false, cond, ◌&&◌, ◌||◌, eqb, ◌↔◌, sym, refl, ap, ◌∙◌}
use Rattle.arithmetic.specs.declared.record.Lh5801.{Lh5801}
use Rattle.execution.specs.declared.Inputs.{Inputs}
use Rattle.pages.specs.Pages.{Pages}
use Rattle.pages.specs.Prog.{done, exec}
use Rattle.pages.specs.Timer.{shift_of, add_state_of, timer_part_of}
use Rattle.pages.proofs.Exec.{done_answer, done_none}
use Rattle.pages.proofs.Timer.{elapsed}
use Rattle.execution.specs.Step.{waiting, did, reached_of, step_of}
use Rattle.execution.specs.Conditions.{Waits}
use Rattle.execution.specs.Waiting.{states_after, shifts, waited_of, Waited}
use Rattle.execution.proofs.TimerReached.{with_ir1_reached, reached_fields}
use Rattle.execution.proofs.Tests.{halting_step, halted_waits}
use Rattle.execution.proofs.StopConditions.{waiting_only}

module _ (m : Lh5801) where
  -- the states and the timer part after it, field by field
  waited_fields : (idle : ℕ) → timer_part_of (add_state_of (reached_of m) idle) ≡ waited_of m idle
  unfolding waited_of
  waited_fields idle =
      ap (λ (k : Lh5801). timer_part_of (add_state_of k idle)) (reached_fields m) ∙ elapsed (with_ir1_reached m request false) idle ∙ go (shifts m idle)
    where
      request : Bool
      request = m.ir1 || m.is_timer_reached

      after : Bool → ℕ → ℕ → Lh5801
      after reached tm previous =
          record (with_ir1_reached m request reached) { tm = tm; timer_state = states_after m idle; step_previous_state = previous; ticks = (m.ticks + idle) % 2 ^ 64 }

      full : Bool
      full = eqb (shift_of m.tm) 0x1FF

      go : (b : Bool)
          → cond b (after full (shift_of m.tm) (states_after m idle)) (after false m.tm m.step_previous_state)
          ≡ after (b && full) (cond b (shift_of m.tm) m.tm) (cond b (states_after m idle) m.step_previous_state)
      go true = refl
      go false = refl

module _ (m : Lh5801) (inputs : Inputs) (pages : Pages) where
  -- what a waiting step comes to
  pub waits : Waits inputs m → Waited inputs m pages (exec (step_of m inputs) pages)
  waits w =
      let e = halting_step m inputs w.halting ∙ ap done (halted_waits (reached_of m) inputs w.idle) in
      rw e
      (record {
        answer = done_answer _ pages ∙ ap (λ (k : Lh5801). did k inputs.idle waiting) (waited_fields m inputs.idle);
        pages_are = (done_none _ pages).0;
        accesses = (done_none _ pages).1;
      })

  -- a step is of the waiting kind, with this record and these states, exactly where it waits and they are those
  pub waiting_kind : (k : Lh5801) (s : ℕ)
      → ((exec (step_of m inputs) pages).answer ≡ did k s waiting) ↔ (Waits inputs m × (k ≡ waited_of m inputs.idle) × (s ≡ inputs.idle))
  waiting_kind k s = (
    λ e.
        let w = waiting_only m inputs pages k s e in
        let same : did (waited_of m inputs.idle) inputs.idle waiting ≡ did k s waiting = sym (waits w).answer ∙ e in
        let record_is : k ≡ waited_of m inputs.idle = cc in
        let states_are : s ≡ inputs.idle = cc in
        (w, record_is, states_are),
    λ r. (waits r.0).answer ∙ sym (ap (λ (l : Lh5801). did l s waiting) r.1 ∙ ap (λ (n : ℕ). did (waited_of m inputs.idle) n waiting) r.2),
  )
