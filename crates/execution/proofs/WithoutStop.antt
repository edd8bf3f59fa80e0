-- A step that does not stop before the stop address is the step without one.
use Rattle.std.proofs.Common.{◌≡◌, ◌+◌, Bool, true, false, sym, refl, ap, ◌∙◌}
use Rattle.std.proofs.Math.Path.{fun_ext}
use Rattle.std.specs.Prelude.{Option, Some, None}
use Rattle.arithmetic.specs.declared.record.Lh5801.{Lh5801}
use Rattle.arithmetic.specs.Record.{with_p}
use Rattle.pages.specs.declared.Code.{Code}
use Rattle.pages.specs.Prog.{Prog, done, ◌>>=◌}
use Rattle.pages.specs.Timer.{add_state_of, timer_part_of}
use Rattle.execution.specs.declared.Inputs.{Inputs}
use Rattle.execution.specs.declared.Opcode.{Opcode}
use Rattle.execution.specs.declared.instructions.Instruction.{Instruction}
use Rattle.execution.specs.declared.instructions.Listed.{Listed}
use Rattle.execution.specs.declared.interrupts.Interrupt.{Interrupt}
use Rattle.execution.specs.Interrupts.{accepted}
use Rattle.execution.specs.Inputs.{without_stop}
use Rattle.execution.specs.Instructions.{execute_of}
use Rattle.execution.specs.States.{added_of}
use Rattle.execution.specs.Step.{StepEnd, did, instruction, fetch_of, decoded_by, decoded_step_of, instruction_of, reached_of, halted_of, step_of}
use Rattle.execution.specs.Conditions.{Halting, Due, AddressStop, Fetches}
use Rattle.execution.proofs.Ways.{step_is_off}
use Rattle.execution.proofs.Tests.{interrupt_step, halting_step, fetching_step}

module _ (inputs : Inputs) where
  -- no instruction looks at it
  execute_same : (m : Lh5801) (i : Instruction) → execute_of m (without_stop inputs) i ≡ execute_of m inputs i
  unfolding execute_of
  execute_same m i = refl

  decoded_same : (m : Lh5801) (o : Code Opcode) (d : Option Listed) → decoded_step_of m (without_stop inputs) o d ≡ decoded_step_of m inputs o d
  unfolding decoded_step_of
  decoded_same m o (Some l) =
      ap (λ (p : Prog Lh5801). p >>= (λ k. done (did (timer_part_of (add_state_of k l.states)) (l.states + added_of m l.instruction) (instruction o.value))))
      (execute_same (with_p m o.p) l.instruction)
  decoded_same m o None = refl

  instruction_same : (m : Lh5801) → instruction_of m (without_stop inputs) ≡ instruction_of m inputs
  unfolding instruction_of
  instruction_same m =
      ap (λ (f : Code Opcode → Prog StepEnd). fetch_of m.p >>= f) (fun_ext (λ o. decoded_same m o (decoded_by o.value)))

  module _ (m : Lh5801) where
    -- with BF clear, where an interrupt is accepted and where it is halted, the step does not look at it either
    off_same : m.bf ≡ false → step_of m (without_stop inputs) ≡ step_of m inputs
    off_same b = step_is_off m (without_stop inputs) b ∙ sym (step_is_off m inputs b)

    interrupt_same : m.bf ≡ true → (i : Interrupt) → accepted m ≡ Some i → step_of m (without_stop inputs) ≡ step_of m inputs
    interrupt_same b i e = interrupt_step m (without_stop inputs) b i e ∙ sym (interrupt_step m inputs b i e)

    halted_same : Halting m → step_of m (without_stop inputs) ≡ step_of m inputs
    unfolding halted_of
    halted_same h = halting_step m (without_stop inputs) h ∙ sym (halting_step m inputs h)

    due_same : Fetches (without_stop inputs) m → Fetches inputs m → step_of m (without_stop inputs) ≡ step_of m inputs
    due_same g f = fetching_step m (without_stop inputs) g ∙ instruction_same (reached_of m) ∙ sym (fetching_step m inputs f)

    pub step_same : ¬ AddressStop inputs m → step_of m (without_stop inputs) ≡ step_of m inputs
    step_same n = go m.bf refl (accepted m) refl m.is_halted refl
      where
        go : (b : Bool) → m.bf ≡ b → (a : Option Interrupt) → accepted m ≡ a → (h : Bool) → m.is_halted ≡ h
            → step_of m (without_stop inputs) ≡ step_of m inputs
        go false b a e h g = off_same b
        go true b (Some i) e h g = interrupt_same b i e
        go true b None e true g = halted_same (record { on = b; halted = g; none = e })
        go true b None e false g =
            let due : Due m = record { on = b; none = e; running = g } in
            due_same (record { due = due; elsewhere = λ e. absurd cc }) (record { due = due; elsewhere = λ e. n (record { due = due; address = e }) })
