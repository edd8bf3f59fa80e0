-- The states of a completed step.
use Rattle.std.proofs.Common.{◌≡◌, ℕ, ◌+◌, ◌≤◌, refl, arith}
use Rattle.arithmetic.specs.declared.record.Lh5801.{Lh5801}
use Rattle.execution.specs.declared.Inputs.{Inputs}
use Rattle.arithmetic.specs.Record.{with_p}
use Rattle.pages.specs.Pages.{Pages}
use Rattle.pages.specs.Stack.{accept_of}
use Rattle.pages.specs.Prog.{exec}
use Rattle.pages.proofs.Always.{Always, always_then}
use Rattle.execution.specs.declared.instructions.Instruction.{Instruction}
use Rattle.execution.specs.declared.instructions.Listed.{Listed}
use Rattle.std.specs.Prelude.{Option, Some, None}
use Rattle.execution.specs.Opcodes.{listed}
use Rattle.pages.specs.declared.Code.{Code}
use Rattle.execution.specs.declared.Opcode.{Opcode}
use Rattle.execution.specs.declared.Opcode.TheVariants.{First, AfterFd}
use Rattle.execution.specs.declared.interrupts.Interrupt.{Interrupt}
use Rattle.execution.specs.Instructions.{execute_of}
use Rattle.execution.specs.Interrupts.{accepted, cleared, vector_address}
use Rattle.execution.specs.States.{adds_of, added_when_taken, taken_from, added_of}
use Rattle.execution.specs.Step.{Kind, off, interrupt, waiting, instruction, fewest_states, most_states, StepEnd, did, decoded_by, fetch_of, decoded_step_of, instruction_of, interrupt_of, reached_of, powered_of, step_of}
use Rattle.execution.proofs.Choices.{cond_both}
use Rattle.execution.proofs.Ways.{Did, did_exec, powered_ways, step_ways}
use Rattle.execution.proofs.Listed.{listed_states, listed_states_fd}

-- the states are no fewer and no more than the kind's
abbrev Fits : Inputs → StepEnd → Type 0
Fits inputs = Did (λ k n kind. (fewest_states inputs kind ≤ n) × (n ≤ most_states inputs kind))

-- an instruction adds what it adds where it is taken, or nothing
added_most : (m : Lh5801) (i : Instruction) → added_of m i ≤ added_when_taken i
added_most m i = cond_both (λ n. n ≤ added_when_taken i) (taken_from m (adds_of i)) _ _ (omega arith) (omega arith)

most_255 : (inputs : Inputs) → inputs.idle ≤ 255 → (kind : Kind) → most_states inputs kind ≤ 255
most_255 inputs h off = omega arith
most_255 inputs h (interrupt i) = omega arith
most_255 inputs h waiting = h
most_255 inputs h (instruction opcode) = omega arith

fits_interrupt : (inputs : Inputs) (m : Lh5801) (i : Interrupt) → Always (Fits inputs) (interrupt_of m i)
unfolding interrupt_of
fits_interrupt inputs m i = always_then (Fits inputs) (accept_of (cleared m i) (vector_address i)) _ (λ k. (omega arith, omega arith))

-- each entry of the opcode table has 4 states at least, and 23 at most with what it adds where it is taken
listed_by : (opcode : Opcode) (i : Instruction) (n : ℕ) → decoded_by opcode ≡ listed i n → (4 ≤ n) × (n + added_when_taken i ≤ 23)
listed_by (AfterFd byte) i n e = listed_states_fd byte e
listed_by (First byte) i n e = listed_states byte e

fits_decoded : (m : Lh5801) (inputs : Inputs) (o : Code Opcode) (d : Option Listed) → decoded_by o.value ≡ d → Always (Fits inputs) (decoded_step_of m inputs o d)
unfolding decoded_step_of
fits_decoded m inputs o (Some l) e = always_then (Fits inputs) (execute_of (with_p m o.p) inputs l.instruction) _
    (λ k. (omega (arith, listed_by o.value l.instruction l.states e), omega (arith, listed_by o.value l.instruction l.states e, added_most m l.instruction)))
fits_decoded m inputs o None e = tt

fits_instruction : (m : Lh5801) (inputs : Inputs) → Always (Fits inputs) (instruction_of m inputs)
unfolding instruction_of
fits_instruction m inputs = always_then (Fits inputs) (fetch_of m.p) _ (λ o. fits_decoded m inputs o (decoded_by o.value) refl)

fits_powered : (m : Lh5801) (inputs : Inputs) (a : Option Interrupt) → Always (Fits inputs) (powered_of m inputs a)
fits_powered m inputs a =
    powered_ways (Always (Fits inputs)) m inputs a (λ i _. fits_interrupt inputs m i) tt (omega arith, omega arith) tt (fits_instruction m inputs)

fits_step : (m : Lh5801) (inputs : Inputs) → Always (Fits inputs) (step_of m inputs)
fits_step m inputs =
    step_ways (Always (Fits inputs)) m inputs (λ _. (omega arith, omega arith)) (λ _. fits_powered (reached_of m) inputs (accepted m))

-- a completed step has the states of its kind: 8 with BF clear, 0 where an interrupt is accepted, the idle figure where it waits, 4 to 23 for an
-- instruction
pub step_kind_states : (m : Lh5801) (inputs : Inputs) (pages : Pages) (k : Lh5801) (s : ℕ) (kind : Kind)
    → (exec (step_of m inputs) pages).answer ≡ did k s kind
    → (fewest_states inputs kind ≤ s) × (s ≤ most_states inputs kind)
step_kind_states m inputs pages k s kind e = did_exec _ (step_of m inputs) (fits_step m inputs) pages k s kind e

-- a completed step has 255 states at most, as the idle figure has 8 bits
pub step_states : (m : Lh5801) (inputs : Inputs) → inputs.idle ≤ 255
    → (pages : Pages) (k : Lh5801) (s : ℕ) (kind : Kind)
    → (exec (step_of m inputs) pages).answer ≡ did k s kind
    → s ≤ 255
step_states m inputs h pages k s kind e = omega (arith, step_kind_states m inputs pages k s kind e, most_255 inputs h kind)
