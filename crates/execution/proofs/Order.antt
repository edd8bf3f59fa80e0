-- The code's way through a step is the definition's: one test tells whether an instruction is due.
use Rattle.std.proofs.Common.{◌≡◌, ℕ, ◌+◌, Bool, true, false, cond, not, ◌&&◌, sym, refl, ap, ◌∙◌, subst, true≢false}
use mathlib.Core.Bool.{not-eq-not}
use Rattle.arithmetic.specs.declared.record.Lh5801.{Lh5801}
use Rattle.execution.specs.declared.Inputs.{Inputs}
use Rattle.arithmetic.specs.declared.Looped.{Looped}
use Rattle.arithmetic.specs.Shifts.{looped_of}
use Rattle.arithmetic.specs.Record.{with_u, with_p}
use Rattle.pages.specs.declared.Memory.{Memory}
use Rattle.pages.specs.Prog.{mapped}
use Rattle.pages.specs.Contract.{Does}
use Rattle.pages.specs.Stack.{accept_of}
use Rattle.pages.specs.Timer.{add_state_of, timer_part_of}
use Rattle.pages.proofs.Does.{does_then, does_done, does_mapped, does_through}
use Rattle.execution.specs.declared.instructions.Direction.TheVariants.{Backward}
use Rattle.execution.specs.declared.instructions.Instruction.{Instruction}
use Rattle.std.specs.Prelude.{Some, None, Result, Ok, Err}
use Rattle.execution.specs.Opcodes.{listed}
use Rattle.execution.specs.declared.Executed.{Executed}
use Rattle.execution.specs.declared.Executed.TheVariants.{Again, Completed}
use Rattle.pages.specs.declared.Code.{Code}
use Rattle.execution.specs.declared.Opcode.{Opcode}
use Rattle.execution.specs.declared.Stop.{Stop}
use Rattle.execution.specs.declared.Stop.TheVariants.{Unlisted}
use Rattle.execution.specs.Instructions.{branched_of, execute_of}
use Rattle.execution.specs.States.{added_of}
use Rattle.execution.specs.Step.{off, interrupt, instruction, StepEnd, did, stopped, fetch_of, decoded_by, decoded_step_of, instruction_of, interrupt_of, reached_of, halted_of, due_instruction_of, step_of}
use Rattle.execution.specs.Code.Outcomes.{outcome_of}
use Rattle.execution.specs.Code.Due.{due_of, Ready, settled_of, settled_by, executed_of}
use Rattle.execution.proofs.Choices.{cond_both}
use Rattle.execution.specs.declared.interrupts.Interrupt.{Interrupt}
use Rattle.execution.specs.Interrupts.{accepted, cleared, vector_address}
use Rattle.execution.specs.Inputs.{stops_at}
use Rattle.execution.proofs.TimerReached.{reached_stays, reached_accepted, reached_ready}
use Rattle.execution.proofs.Ways.{step_is_off}
use Rattle.execution.proofs.Tests.{interrupt_step, halting_step, due_step, fetching_step}
use Rattle.execution.proofs.DueTest.{due_is}
use Rattle.execution.proofs.StopAddress.{elsewhere_is}

-- how LOP ends, by what its count gave
abbrev LoopEnd : Lh5801 → ℕ → ℕ → Lh5801 → Looped → Type 0
LoopEnd m p offset r l = r ≡ cond l.again (branched_of (with_u m l.u) p offset Backward) (with_p (with_u m l.u) p)

pub loop_end : (m : Lh5801) (p offset : ℕ) {l : Looped} {r : Lh5801} → l ≡ looped_of m.u → LoopEnd m p offset r l → LoopEnd m p offset r (looped_of m.u)
loop_end m p offset {r = r} = subst (LoopEnd m p offset r)

-- where an instruction is due and P is not the stop address, the step is that instruction's
step_due : (m : Lh5801) (inputs : Inputs) → Ready m → stops_at inputs m.p ≡ false → step_of m inputs ≡ instruction_of m inputs
step_due m inputs h e =
    fetching_step m inputs (record { due = (due_is m).0 h.due; elsewhere = (elsewhere_is inputs m.p).0 e })
    ∙ ap (λ (k : Lh5801). instruction_of k inputs) (reached_stays m h.clear)

-- timer reached moved to IR1: the same step
pub step_reached : (m : Lh5801) (inputs : Inputs) → due_of m ≡ true → step_of (reached_of m) inputs ≡ step_of m inputs
step_reached m inputs h =
    let r = reached_ready m h in
    due_step (reached_of m) inputs ((due_is (reached_of m)).0 r.due)
    ∙ ap (λ (k : Lh5801). due_instruction_of k inputs) (reached_stays (reached_of m) r.clear)
    ∙ sym (due_step m inputs ((due_is m).0 h))

-- where an instruction is due and P is not the stop address, by what its byte decodes to
module _ (m : Lh5801) (inputs : Inputs) (ready : Ready m) (elsewhere : stops_at inputs m.p ≡ false) where
  -- listed: whether it is settled, and whether timer reached is set then, tell whether an instruction is due again
  pub instruction_listed : {o : Code Opcode} {l p q : Memory} {i : Instruction} {n : ℕ} {k now r : Lh5801} {b t : Bool}
      → Does (fetch_of m.p) l o p
      → decoded_by o.value ≡ listed i n
      → Does (execute_of (with_p m o.p) inputs i) p k q
      → now ≡ add_state_of k n
      → r ≡ timer_part_of now
      → settled_of i ≡ b
      → r.is_timer_reached ≡ t
      → Does (mapped executed_of (step_of m inputs)) l (Ok (cond (b && not t) (Again r) (Completed r))) q
  unfolding instruction_of decoded_step_of
  instruction_listed {o = o} {i = i} {n = n} {r = r} f e x y z s h =
      rw (step_due m inputs ready elsewhere, ← (ap settled_by e ∙ s), ← h)
      (does_mapped executed_of {r = did r (n + added_of m i) (instruction o.value)}
      (does_then _ f (rw e (does_then _ x (does_done (ap (λ (k : Lh5801). did k (n + added_of m i) (instruction o.value)) (z ∙ ap timer_part_of y)))))))

  pub instruction_unlisted : {o : Code Opcode} {l p : Memory} {s : Stop}
      → Does (fetch_of m.p) l o p
      → decoded_by o.value ≡ None
      → s ≡ Unlisted o.value
      → Does (mapped executed_of (step_of m inputs)) l (Err s) p
  unfolding instruction_of decoded_step_of
  instruction_unlisted {s = s} f e t =
      rw (step_due m inputs ready elsewhere) (does_mapped executed_of {r = stopped s} (does_then _ f (rw e (does_done (ap stopped t)))))

-- the same without the word that an instruction is due again
abbrev record_in : Executed → Lh5801
record_in (Again m) = m
record_in (Completed m) = m

abbrev outcome_in : Result Executed Stop → Result Lh5801 Stop
outcome_in (Ok e) = Ok (record_in e)
outcome_in (Err s) = Err s

executed_outcome : (e : StepEnd) → outcome_in (executed_of e) ≡ outcome_of e
executed_outcome (did m states (instruction opcode)) =
    cond_both (λ x. outcome_in (Ok x) ≡ Ok m) (settled_by (decoded_by opcode) && not m.is_timer_reached) _ _ refl refl
executed_outcome e = refl

pub executed_step : (m : Lh5801) (inputs : Inputs) {p q : Memory} {r : Result Executed Stop} → Does (mapped executed_of (step_of m inputs)) p r q
    → Does (mapped outcome_of (step_of m inputs)) p (outcome_in r) q
executed_step m inputs d = does_through executed_of outcome_of outcome_in executed_outcome (step_of m inputs) d

-- a step in which no instruction is due, by what the code tests
module _ (m : Lh5801) (inputs : Inputs) where
  pub step_off : {p : Memory} {r : Lh5801} → m.bf ≡ false → r ≡ add_state_of m 8 → Does (mapped outcome_of (step_of m inputs)) p (Ok r) p
  step_off {r = r} e f =
      rw (step_is_off m inputs e) (does_mapped outcome_of {r = did r 8 off} (does_done (ap (λ (x : Lh5801). did x 8 off) f)))

  module _ (on : m.bf ≡ true) {k : Lh5801} (moved : k ≡ reached_of m) where
    -- k accepts the same
    same : accepted m ≡ accepted k
    same = sym (ap accepted moved ∙ reached_accepted m)

    pub step_interrupt : {p q : Memory} {i : Interrupt} {l r : Lh5801} → accepted k ≡ Some i
        → Does (accept_of (cleared k i) (vector_address i)) p l q
        → r ≡ timer_part_of l
        → Does (mapped outcome_of (step_of m inputs)) p (Ok r) q
    unfolding interrupt_of
    step_interrupt {i = i} {r = r} a d f =
        rw (interrupt_step m inputs on i (same ∙ a), ← moved)
        (does_mapped outcome_of {r = did r 0 (interrupt i)} (does_then _ d (does_done (ap (λ (x : Lh5801). did x 0 (interrupt i)) f))))

    -- no interrupt is accepted and no instruction is due, so it is halted
    pub step_halted : {p : Memory} {r : Result Lh5801 Stop} → accepted k ≡ None → due_of m ≡ false → r ≡ outcome_of (halted_of k inputs)
        → Does (mapped outcome_of (step_of m inputs)) p r p
    step_halted a n f =
        let none : accepted m ≡ None = same ∙ a in
        let halted : m.is_halted ≡ true = not-eq-not.0 (λ g. true≢false (sym ((due_is m).1 (record { on = on; none = none; running = g })) ∙ n)) in
        rw (halting_step m inputs (record { on = on; halted = halted; none = none }), ← moved, f)
        (does_mapped outcome_of {r = halted_of k inputs} (does_done refl))
