-- The ways that a step can go: what holds of each holds of the step.
use Rattle.std.proofs.Common.{◌≡◌, ℕ, Bool, true, false, eqb, sym, refl, ap, ◌∙◌, subst}
use Rattle.arithmetic.specs.declared.record.Lh5801.{Lh5801}
use Rattle.execution.specs.declared.Inputs.{Inputs}
use Rattle.pages.specs.Pages.{Pages}
use Rattle.pages.specs.Prog.{Prog, done, exec}
use Rattle.pages.specs.Timer.{add_state_of, timer_part_of}
use Rattle.pages.proofs.Always.{Always, always_exec}
use Rattle.execution.specs.declared.Stop.TheVariants.{Halted, AtAddress}
use Rattle.std.specs.Prelude.{Option, Some, None}
use Rattle.execution.specs.declared.interrupts.Interrupt.{Interrupt}
use Rattle.execution.specs.Interrupts.{accepted}
use Rattle.execution.specs.Step.{Kind, off, waiting, StepEnd, did, stopped, instruction_of, interrupt_of, reached_of, halted_of, due_instruction_of, powered_of, step_of}
use Rattle.execution.specs.Inputs.{stops_at}
use Rattle.execution.proofs.Choices.{cond_both, cond_true, cond_false}
use Rattle.execution.proofs.TimerReached.{reached_accepted}

-- what holds of a step's record, states and kind; of a step that stops nothing is said
abbrev pub Did : (Lh5801 → ℕ → Kind → Type 0) → StepEnd → Type 0
Did P (did k n kind) = P k n kind
Did P (stopped s) = Unit {0}

-- where it always holds, it holds of a completed step
pub did_exec : (P : Lh5801 → ℕ → Kind → Type 0) (p : Prog StepEnd) → Always (Did P) p
    → (pages : Pages) (k : Lh5801) (n : ℕ) (kind : Kind) → (exec p pages).answer ≡ did k n kind → P k n kind
did_exec P p h pages k n kind e = rw e at (always_exec (Did P) p h pages)

-- a step by BF
module _ (m : Lh5801) (inputs : Inputs) where
  pub step_is_off : m.bf ≡ false → step_of m inputs ≡ done (did (add_state_of m 8) 8 off)
  unfolding step_of
  step_is_off b = cond_false m.bf _ _ b

  pub step_is_powered : m.bf ≡ true → step_of m inputs ≡ powered_of (reached_of m) inputs (accepted m)
  unfolding step_of
  step_is_powered b = cond_true m.bf _ _ b ∙ ap (λ (a : Option Interrupt). powered_of (reached_of m) inputs a) (reached_accepted m)

module _ (R : Prog StepEnd → Type 0) (m : Lh5801) (inputs : Inputs) where
  pub powered_ways : (a : Option Interrupt) → ((i : Interrupt) → a ≡ Some i → R (interrupt_of m i))
      → R (done (stopped Halted))
      → R (done (did (timer_part_of (add_state_of m inputs.idle)) inputs.idle waiting))
      → R (done (stopped AtAddress))
      → R (instruction_of m inputs)
      → R (powered_of m inputs a)
  unfolding powered_of halted_of due_instruction_of
  powered_ways (Some i) f h w s n = f i refl
  powered_ways None f h w s n =
      cond_both R m.is_halted (done (halted_of m inputs)) (due_instruction_of m inputs)
      (cond_both (λ e. R (done e)) (eqb inputs.idle 0) (stopped Halted) _ h w)
      (cond_both R (stops_at inputs m.p) (done (stopped AtAddress)) (instruction_of m inputs) s n)

  pub step_ways : (m.bf ≡ false → R (done (did (add_state_of m 8) 8 off)))
      → (m.bf ≡ true → R (powered_of (reached_of m) inputs (accepted m)))
      → R (step_of m inputs)
  step_ways o h = go m.bf refl
    where
      go : (b : Bool) → m.bf ≡ b → R (step_of m inputs)
      go false b = subst R (sym (step_is_off m inputs b)) (o b)
      go true b = subst R (sym (step_is_powered m inputs b)) (h b)
