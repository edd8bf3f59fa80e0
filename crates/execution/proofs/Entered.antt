-- Which interrupt a step enters, and what the entry leaves, field by field; and that no step sets IR0.
use Rattle.std.proofs.Common.{◌≡◌, ℕ, Bool, true, false, ◌||◌, ◌↔◌, sym, refl, ap, ◌∙◌, true≢false}
use Rattle.std.specs.Prelude.{Option, Some, None}
use Rattle.arithmetic.specs.declared.record.Lh5801.{Lh5801}
use Rattle.arithmetic.specs.Record.{with_t, with_s, with_p, with_is_halted, with_ir0, with_ir1, with_ir2}
use Rattle.arithmetic.proofs.Status.{Status}
use Rattle.pages.specs.Pages.{Pages}
use Rattle.pages.specs.Prog.{Prog, ◌>>=◌, read, write, after, exec}
use Rattle.pages.specs.Stack.{mem16_of, push_of, push_word_of, push_state_of, accept_of}
use Rattle.pages.specs.Timer.{add_state_of, timer_part_of}
use Rattle.pages.proofs.Always.{Always, always_then}
use Rattle.pages.proofs.Exec.{done_answer}
use Rattle.pages.proofs.Timer.{timer_part_status, states_status}
use Rattle.execution.specs.declared.Inputs.{Inputs}
use Rattle.execution.specs.declared.instructions.Listed.{Listed}
use Rattle.execution.specs.declared.Opcode.{Opcode}
use Rattle.pages.specs.declared.Code.{Code}
use Rattle.execution.specs.declared.interrupts.Interrupt.{Interrupt}
use Rattle.execution.specs.declared.interrupts.Interrupt.TheVariants.{Ir0, Ir1, Ir2}
use Rattle.execution.specs.Instructions.{execute_of}
use Rattle.execution.specs.Interrupts.{accepted, cleared, vector_address}
use Rattle.execution.specs.Step.{Kind, off, interrupt, waiting, instruction, StepEnd, did, decoded_by, fetch_of, decoded_step_of, instruction_of, interrupt_of, reached_of, step_of}
use Rattle.execution.specs.Entered.{Enters, entered_of, Entered}
use Rattle.execution.proofs.Accepted.{accepted_is}
use Rattle.execution.proofs.StepKeeps.{step_ir0}
use Rattle.execution.proofs.Tests.{interrupt_step}
use Rattle.execution.proofs.TimerReached.{with_ir1_reached, reached_fields}
use Rattle.execution.proofs.Ways.{Did, did_exec, step_is_off, powered_ways, step_ways}

module _ (m : Lh5801) where
  -- what a step's kind says of the record before it: an interrupt's, that it is entered from there
  abbrev FromRecord : Kind → Type 0
  FromRecord off = Unit {0}
  FromRecord (interrupt i) = Enters m i
  FromRecord waiting = Unit {0}
  FromRecord (instruction opcode) = Unit {0}

  abbrev EntersOnly : StepEnd → Type 0
  EntersOnly = Did (λ k n kind. FromRecord kind)

  module _ (inputs : Inputs) where
    only_decoded : (k : Lh5801) (o : Code Opcode) (d : Option Listed) → Always EntersOnly (decoded_step_of k inputs o d)
    unfolding decoded_step_of
    only_decoded k o (Some l) = always_then EntersOnly (execute_of (with_p k o.p) inputs l.instruction) _ (λ r. tt)
    only_decoded k o None = tt

    only_instruction : (k : Lh5801) → Always EntersOnly (instruction_of k inputs)
    unfolding instruction_of
    only_instruction k = always_then EntersOnly (fetch_of k.p) _ (λ o. only_decoded k o (decoded_by o.value))

    only_interrupt : (k : Lh5801) (i : Interrupt) → Enters m i → Always EntersOnly (interrupt_of k i)
    unfolding interrupt_of
    only_interrupt k i e = always_then EntersOnly (accept_of (cleared k i) (vector_address i)) _ (λ r. e)

    enters_only : Always EntersOnly (step_of m inputs)
    enters_only =
        step_ways (Always EntersOnly) m inputs (λ _. tt)
        (λ b. powered_ways (Always EntersOnly) (reached_of m) inputs (accepted m)
        (λ i e. only_interrupt (reached_of m) i (record { on = b; selected = (accepted_is m i).0 e })) tt tt tt (only_instruction (reached_of m)))

  module _ (pages : Pages) where
    entry : (i : Interrupt) → Entered i m pages (exec (interrupt_of (with_ir1_reached m (m.ir1 || m.is_timer_reached) false) i) pages)
    unfolding interrupt_of accept_of push_state_of push_word_of push_of mem16_of read write ◌>>=◌ exec after with_t with_s with_p with_is_halted with_ir0 with_ir1 with_ir2 entered_of
    entry Ir0 = record { answer = refl; pages_are = refl; accesses = refl }
    entry Ir1 = record { answer = refl; pages_are = refl; accesses = refl }
    entry Ir2 = record { answer = refl; pages_are = refl; accesses = refl }

    module _ (inputs : Inputs) where
      -- with BF clear
      off_answer : m.bf ≡ false → (exec (step_of m inputs) pages).answer ≡ did (add_state_of m 8) 8 off
      off_answer b = ap (λ (p : Prog StepEnd). (exec p pages).answer) (step_is_off m inputs b) ∙ done_answer _ pages

      -- what the entry leaves
      pub enters : (i : Interrupt) → Enters m i → Entered i m pages (exec (step_of m inputs) pages)
      enters i e = rw (interrupt_step m inputs e.on i ((accepted_is m i).1 e.selected), reached_fields m) (entry i)

      -- a step ends as the entry of i, with the record k and s states, exactly where m is one of the records that enter i, k is what the entry leaves, and s
      -- is 0
      pub interrupt_kind : (i : Interrupt) (k : Lh5801) (s : ℕ)
          → ((exec (step_of m inputs) pages).answer ≡ did k s (interrupt i)) ↔ (Enters m i × (k ≡ timer_part_of (entered_of m pages i)) × (s ≡ 0))
      interrupt_kind i k s = (
        λ e.
            let l : Enters m i = did_exec (λ k n kind. FromRecord kind) (step_of m inputs) (enters_only inputs) pages k s (interrupt i) e in
            let same : did (timer_part_of (entered_of m pages i)) 0 (interrupt i) ≡ did k s (interrupt i) = sym (enters i l).answer ∙ e in
            let record_is : k ≡ timer_part_of (entered_of m pages i) = cc in
            let states_are : s ≡ 0 = cc in
            (l, record_is, states_are),
        λ r. (enters i r.0).answer ∙ sym (ap (λ (l : Lh5801). did l s (interrupt i)) r.1 ∙ ap (λ (n : ℕ). did (timer_part_of (entered_of m pages i)) n (interrupt i)) r.2),
      )

      -- no step sets IR0: after a completed one it is set only where BF is clear, as it was, and IR0 was set
      pub ir0_left : (k : Lh5801) (s : ℕ) (kind : Kind) → (exec (step_of m inputs) pages).answer ≡ did k s kind → k.ir0 ≡ true
          → (m.ir0 ≡ true) × (m.bf ≡ false) × (k.bf ≡ false)
      unfolding entered_of with_ir0
      ir0_left k s kind e z = let o = go m.bf refl in (before, o.0, o.1)
        where
          before : m.ir0 ≡ true
          before = step_ir0 m inputs pages k s kind e z

          clear : (timer_part_of (entered_of m pages Ir0)).ir0 ≡ false
          clear = ap (λ (x : Status). x.ir0) (timer_part_status (entered_of m pages Ir0))

          go : (b : Bool) → m.bf ≡ b → (m.bf ≡ false) × (k.bf ≡ false)
          go false b =
              let same : did (add_state_of m 8) 8 off ≡ did k s kind = sym (off_answer b) ∙ e in
              let record_is : add_state_of m 8 ≡ k = cc in
              (b, sym (ap (λ (l : Lh5801). l.bf) record_is) ∙ ap (λ (x : Status). x.bf) (states_status m 8) ∙ b)
          go true b =
              let same : did (timer_part_of (entered_of m pages Ir0)) 0 (interrupt Ir0) ≡ did k s kind =
              sym (enters Ir0 (record { on = b; selected = before })).answer ∙ e in
              let record_is : timer_part_of (entered_of m pages Ir0) ≡ k = cc in
              absurd (true≢false (sym (ap (λ (l : Lh5801). l.ir0) record_is ∙ z) ∙ clear))
