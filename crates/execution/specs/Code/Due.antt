-- How the code is built, and need not be believed: proofs/DueTest.antt shows that its tests are Conditions.antt's `Due` and `AddressStop`, and
-- proofs/DueAgain.antt that after a settled instruction one is due again.
-- When an instruction is due, and after which instructions one is due again: what the loop over instructions goes by.
use Rattle.std.specs.Prelude.{◌≡◌, Bool, true, false, cond, not, ◌&&◌, ◌||◌}
use Rattle.arithmetic.specs.declared.record.Lh5801.{Lh5801}
use Rattle.arithmetic.specs.Flags.{IE, has_flag}
use Rattle.execution.specs.declared.instructions.Accumulator.{Accumulator}
use Rattle.execution.specs.declared.instructions.Accumulator.TheVariants.{Att}
use Rattle.execution.specs.declared.instructions.Signal.{Signal}
use Rattle.execution.specs.declared.instructions.Signal.TheVariants.{InterruptEnable}
use Rattle.execution.specs.declared.instructions.Instruction.{Instruction}
use Rattle.execution.specs.declared.instructions.Instruction.TheVariants.{Rti, OnA, Sets, Off, Hlt}
use Rattle.execution.specs.declared.instructions.Listed.{Listed}
use Rattle.std.specs.Prelude.{Option, Some, None, Result, Ok, Err}
use Rattle.execution.specs.declared.Inputs.{Inputs}
use Rattle.execution.specs.Inputs.{stops_at}
use Rattle.execution.specs.declared.Executed.{Executed}
use Rattle.execution.specs.declared.Executed.TheVariants.{Again, Completed}
use Rattle.execution.specs.declared.Stop.{Stop}
use Rattle.execution.specs.Step.{Kind, instruction, StepEnd, did, stopped, decoded_by}

-- BF set, and neither IR0, nor with IE a request or timer reached, nor halted
abbrev pub due_by : Bool → Bool → Bool → Bool → Bool → Bool → Bool → Bool
due_by bf ir0 ir1 reached ir2 enabled halted = bf && not ((ir0 || ((ir1 || reached) || ir2) && enabled) || halted)

-- an instruction is due: the test of Conditions.antt's `Due`
abbrev pub due_of : Lh5801 → Bool
due_of m = due_by m.bf m.ir0 m.ir1 m.is_timer_reached m.ir2 (has_flag m.t IE) m.is_halted

-- the next step stops with 12: the test of Conditions.antt's `AddressStop`
abbrev pub stops_before_of : Lh5801 → Inputs → Bool
stops_before_of m inputs = stops_at inputs m.p && due_of m

-- an instruction is due, with timer reached clear, so that nothing moves to IR1
pub record Ready (m : Lh5801) : Type 0 where
  pub due : due_of m ≡ true
  pub clear : m.is_timer_reached ≡ false

-- on A: ATT sets all of T
abbrev pub settled_on_a : Accumulator → Bool
settled_on_a Att = false
settled_on_a o = true

abbrev pub settled_signal : Signal → Bool
settled_signal InterruptEnable = false
settled_signal s = true

-- an instruction that changes neither BF nor halted nor IE: all but these. No instruction changes IR0, IR1, IR2 or timer reached
abbrev pub settled_of : Instruction → Bool
settled_of Rti = false
settled_of (OnA o) = settled_on_a o
settled_of (Sets s v) = settled_signal s
settled_of Off = false
settled_of Hlt = false
settled_of i = true

-- a byte that decodes to such an instruction
abbrev pub settled_by : Option Listed → Bool
settled_by (Some l) = settled_of l.instruction
settled_by None = false

-- how the step of a due instruction ends: after a settled instruction that did not reach 1FF an instruction is due again
abbrev pub executed_as : Kind → Lh5801 → Executed
executed_as (instruction opcode) m = cond (settled_by (decoded_by opcode) && not m.is_timer_reached) (Again m) (Completed m)
executed_as kind m = Completed m

abbrev pub executed_of : StepEnd → Result Executed Stop
executed_of (did m states kind) = Ok (executed_as kind m)
executed_of (stopped s) = Err s

-- what it says where an instruction is due again
abbrev pub DueAgain : Result Executed Stop → Type 0
DueAgain (Ok (Again m)) = Ready m
DueAgain (Ok (Completed m)) = Unit {0}
DueAgain (Err s) = Unit {0}
