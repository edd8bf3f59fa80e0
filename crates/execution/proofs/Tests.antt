-- What a step does by BF, the interrupt that is accepted, and halted.
use Rattle.std.proofs.Common.{◌≡◌, true, false, cond, ◌≢◌, sym, ap, ◌∙◌, subst, eq-eqb, ne_eqb}
use Rattle.std.specs.Prelude.{Option, Some, None}
use Rattle.arithmetic.specs.declared.record.Lh5801.{Lh5801}
use Rattle.pages.specs.Prog.{done}
use Rattle.pages.specs.Timer.{add_state_of, timer_part_of}
use Rattle.pages.proofs.Always.{Always}
use Rattle.execution.specs.declared.Inputs.{Inputs}
use Rattle.execution.specs.declared.interrupts.Interrupt.{Interrupt}
use Rattle.execution.specs.Interrupts.{accepted}
use Rattle.execution.specs.Step.{did, stopped, waiting, instruction_of, interrupt_of, reached_of, halted_of, due_instruction_of, powered_of, step_of}
use Rattle.execution.specs.declared.Stop.TheVariants.{Halted, AtAddress}
use Rattle.execution.specs.Conditions.{Halting, Due, AddressStop, Fetches}
use Rattle.execution.proofs.StopAddress.{stops_at_is, elsewhere_is}
use Rattle.execution.proofs.Choices.{cond_true, cond_false}
use Rattle.execution.proofs.TimerReached.{reached_p, reached_halted}
use Rattle.execution.proofs.Ways.{step_is_off, step_is_powered}
use Rattle.execution.proofs.StopsClean.{IsActive, active_interrupt}

module _ (m : Lh5801) where
  module _ (inputs : Inputs) where
    -- with BF clear a step is completed
    pub off_step : m.bf ≡ false → Always IsActive (step_of m inputs)
    off_step b = subst (Always IsActive) (sym (step_is_off m inputs b)) tt

    module _ (on : m.bf ≡ true) where
      powered_step : (a : Option Interrupt) → accepted m ≡ a → step_of m inputs ≡ powered_of (reached_of m) inputs a
      powered_step a e = step_is_powered m inputs on ∙ ap (λ (x : Option Interrupt). powered_of (reached_of m) inputs x) e

      -- an interrupt is accepted: it is entered
      pub interrupt_step : (i : Interrupt) → accepted m ≡ Some i → step_of m inputs ≡ interrupt_of (reached_of m) i
      unfolding powered_of
      interrupt_step i e = powered_step (Some i) e

      pub accepted_step : (i : Interrupt) → accepted m ≡ Some i → Always IsActive (step_of m inputs)
      accepted_step i e = subst (Always IsActive) (sym (interrupt_step i e)) (active_interrupt (reached_of m) i)

      -- none is: halted is tested
      no_interrupt_step : accepted m ≡ None
          → step_of m inputs ≡ cond m.is_halted (done (halted_of (reached_of m) inputs)) (due_instruction_of (reached_of m) inputs)
      unfolding powered_of
      no_interrupt_step e =
          powered_step None e ∙ ap (λ h. cond h (done (halted_of (reached_of m) inputs)) (due_instruction_of (reached_of m) inputs)) (reached_halted m)

    -- halted: it stops or waits, by the idle figure
    pub halting_step : Halting m → step_of m inputs ≡ done (halted_of (reached_of m) inputs)
    halting_step h = no_interrupt_step h.on h.none ∙ cond_true m.is_halted _ _ h.halted

    -- an instruction is due: 12, or its opcode is read, by the stop address
    pub due_step : Due m → step_of m inputs ≡ due_instruction_of (reached_of m) inputs
    due_step d = no_interrupt_step d.on d.none ∙ cond_false m.is_halted _ _ d.running

    pub address_step : AddressStop inputs m → step_of m inputs ≡ done (stopped AtAddress)
    unfolding due_instruction_of
    address_step s = due_step s.due ∙ cond_true _ _ _ ((stops_at_is inputs _).1 (s.address ∙ ap Some (sym (reached_p m))))

    pub fetching_step : Fetches inputs m → step_of m inputs ≡ instruction_of (reached_of m) inputs
    unfolding due_instruction_of
    fetching_step f = due_step f.due ∙ cond_false _ _ _ ((elsewhere_is inputs _).1 (λ e. f.elsewhere (e ∙ ap Some (reached_p m))))

-- what a halted step comes to, by the idle figure
module _ (m : Lh5801) (inputs : Inputs) where
  pub halted_stops : inputs.idle ≡ 0 → halted_of m inputs ≡ stopped Halted
  unfolding halted_of
  halted_stops e = cond_true _ _ _ (eq-eqb inputs.idle 0 e)

  pub halted_waits : inputs.idle ≢ 0 → halted_of m inputs ≡ did (timer_part_of (add_state_of m inputs.idle)) inputs.idle waiting
  unfolding halted_of
  halted_waits e = cond_false _ _ _ (ne_eqb inputs.idle 0 e)
