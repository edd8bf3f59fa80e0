-- One step (document 01, "One step"), in its order. With an idle figure a halted step waits (document 02, F-1), a stop address stops a step before
-- the instruction there (F-5), and IR0 is an interrupt (F-6).
use Rattle.std.specs.Prelude.{ℕ, ◌+◌, true, false, cond, ◌==◌}
use Rattle.arithmetic.specs.declared.record.Lh5801.{Lh5801}
use Rattle.execution.specs.declared.Inputs.{Inputs}
use Rattle.arithmetic.specs.Record.{with_p, with_ir1, with_is_timer_reached}
use Rattle.pages.specs.Prog.{Prog, done, ◌>>=◌}
use Rattle.pages.specs.Stack.{readop_of, accept_of}
use Rattle.pages.specs.Timer.{add_state_of, timer_part_of}
use Rattle.execution.specs.declared.instructions.Listed.{Listed}
use Rattle.std.specs.Prelude.{Option, Some, None}
use Rattle.pages.specs.declared.Code.{Code}
use Rattle.execution.specs.declared.Opcode.{Opcode}
use Rattle.execution.specs.declared.Opcode.TheVariants.{First, AfterFd}
use Rattle.execution.specs.declared.Stop.{Stop}
use Rattle.execution.specs.declared.Stop.TheVariants.{Unlisted, Halted, AtAddress}
use Rattle.execution.specs.declared.interrupts.Interrupt.{Interrupt}
use Rattle.execution.specs.Inputs.{stops_at}
use Rattle.execution.specs.Interrupts.{accepted, cleared, vector_address}
use Rattle.execution.specs.Instructions.{execute_of}
use Rattle.execution.specs.Opcodes.{decoded}
use Rattle.execution.specs.OpcodesFd.{decoded_fd}
use Rattle.execution.specs.States.{added_of}

-- what a completed step was: BF was off, an interrupt was accepted, it was halted and waited, or an instruction was executed
pub data Kind : Type 0 where
  off : Kind
  interrupt : Interrupt → Kind
  waiting : Kind
  instruction : Opcode → Kind

-- the least and the greatest number of states of a completed step; one that waits has exactly the idle figure's
abbrev pub fewest_states : Inputs → Kind → ℕ
fewest_states inputs off = 8
fewest_states inputs (interrupt i) = 0
fewest_states inputs waiting = inputs.idle
fewest_states inputs (instruction opcode) = 4

abbrev pub most_states : Inputs → Kind → ℕ
most_states inputs off = 8
most_states inputs (interrupt i) = 0
most_states inputs waiting = inputs.idle
most_states inputs (instruction opcode) = 23

-- how a step ends. It is document 01's "completed step", with the record after it, its states and what it was; or it stops, and then the
-- record and the pages before it stand
pub data StepEnd : Type 0 where
  did : Lh5801 → ℕ → Kind → StepEnd
  stopped : Stop → StepEnd

-- the opcode: the first byte, or the byte after FD, and P after it
abbrev pub fetched : Opcode → ℕ → Code Opcode
fetched opcode p = record { value = opcode; p = p }

unfoldable pub fetch_of : ℕ → Prog (Code Opcode)
fetch_of p = do
  first ← readop_of p
  cond (first.value == 0xFD)
      (do
        second ← readop_of first.p
        done (fetched (AfterFd second.value) second.p))
      (done (fetched (First first.value) first.p))

abbrev pub decoded_by : Opcode → Option Listed
decoded_by (First byte) = decoded byte
decoded_by (AfterFd byte) = decoded_fd byte

-- what a decoded byte does: its states are those that the table prints and those that it adds where it is taken
unfoldable pub decoded_step_of : Lh5801 → Inputs → Code Opcode → Option Listed → Prog StepEnd
decoded_step_of m inputs o (Some l) = do
  k ← execute_of (with_p m o.p) inputs l.instruction
  done (did (timer_part_of (add_state_of k l.states)) (l.states + added_of m l.instruction) (instruction o.value))
decoded_step_of m inputs o None = done (stopped (Unlisted o.value))

unfoldable pub instruction_of : Lh5801 → Inputs → Prog StepEnd
instruction_of m inputs = do
  o ← fetch_of m.p
  decoded_step_of m inputs o (decoded_by o.value)

-- an accepted interrupt: no states are added
unfoldable pub interrupt_of : Lh5801 → Interrupt → Prog StepEnd
interrupt_of m i = do
  k ← accept_of (cleared m i) (vector_address i)
  done (did (timer_part_of k) 0 (interrupt i))

-- "Timer reached moves to IR1"
unfoldable pub reached_of : Lh5801 → Lh5801
reached_of m = cond m.is_timer_reached (with_is_timer_reached (with_ir1 m true) false) m

-- halted: "With 0 a halted step stops with 7 as before. With 1 to 255 it adds that many states .. and goes through the timer part" (F-1)
unfoldable pub halted_of : Lh5801 → Inputs → StepEnd
halted_of m inputs =
    cond (inputs.idle == 0) (stopped Halted)
    (did (timer_part_of (add_state_of m inputs.idle)) inputs.idle waiting)

-- the instruction that is due: 12 "before the opcode is read", where "P equals the stop address" (F-5)
unfoldable pub due_instruction_of : Lh5801 → Inputs → Prog StepEnd
due_instruction_of m inputs = cond (stops_at inputs m.p) (done (stopped AtAddress)) (instruction_of m inputs)

-- with BF set: the interrupt that is accepted; else halted; else one instruction
unfoldable pub powered_of : Lh5801 → Inputs → Option Interrupt → Prog StepEnd
powered_of m inputs (Some i) = interrupt_of m i
powered_of m inputs None = cond m.is_halted (done (halted_of m inputs)) (due_instruction_of m inputs)

-- "BF clear: 8 states, nothing else, no timer part"
unfoldable pub step_of : Lh5801 → Inputs → Prog StepEnd
step_of m inputs =
    let k = reached_of m in
    cond m.bf (powered_of k inputs (accepted k)) (done (did (add_state_of m 8) 8 off))
