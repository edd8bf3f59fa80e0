-- A run with a stop address, and the same run without one (document 02, F-5).
use Rattle.std.specs.Prelude.{ℕ, ◌+◌, ◌<◌, List, [], ◌∷◌, Option, None, Some}
use Rattle.arithmetic.specs.declared.record.Lh5801.{Lh5801}
use Rattle.pages.specs.Pages.{Pages, writable}
use Rattle.pages.specs.Prog.{Access, read_of, write_of, Ran}
use Rattle.execution.specs.declared.Opcode.TheVariants.{First}
use Rattle.execution.specs.declared.Stop.TheVariants.{Unlisted, Halted, AtAddress}
use Rattle.execution.specs.Inputs.{without_stop}
use Rattle.execution.specs.declared.interrupts.Interrupt.{Interrupt}
use Rattle.execution.specs.declared.interrupts.Interrupt.TheVariants.{Ir0, Ir1, Ir2}
use Rattle.execution.specs.Step.{off, interrupt, waiting, instruction, StepEnd, did, stopped}
use Rattle.execution.specs.Conditions.{AddressStop}
use Rattle.run.specs.declared.Settings.{Settings}
use Rattle.run.specs.declared.End.{End}
use Rattle.run.specs.declared.End.TheVariants.{AllSteps, LogFull, Step}
use Rattle.run.specs.BusLog.{free_after, NotFull}
use Rattle.run.specs.Run.{CallResult, call_result, no_step}
use Rattle.run.specs.Reaches.{Reaches}
use Rattle.run.specs.RecordNumbers.{record_of}

-- before none of the first j steps of the run without one an instruction was due with P at the stop address
abbrev pub NotPassed : Settings → Option ℕ → Lh5801 → Pages → ℕ → Type 0
NotPassed s free m p j =
    (i : ℕ) (k : Lh5801) (q : Pages) (t : ℕ) (l : List Access)
    → i < j
    → Reaches (without_stop s.inputs) free i m p k q t l
    → ¬ AddressStop s.inputs k

-- where a run stops with 12: the first j steps of the run without a stop address lead to the record k and the pages q, with t states in all and the
-- accesses l in order; there the log is not full, and an instruction is due with P at the stop address, and it was not passed before
pub record StopsThere (s : Settings) (free : Option ℕ) (m : Lh5801) (p : Pages) (j t : ℕ) (k : Lh5801) (q : Pages) (l : List Access) : Type 0 where
  pub fewer : j < s.limit
  pub reached : Reaches (without_stop s.inputs) free j m p k q t l
  pub room : NotFull (free_after free l)
  pub there : AddressStop s.inputs k
  pub not_passed : NotPassed s free m p j

-- ---- cases, by computation (`address_steps_hold` and `address_calls_hold` in proofs/StopAddress.antt)

-- LDI A, 42; NOP; an unlisted byte; FD and an unlisted byte; page 1 is empty
abbrev pub code : Pages
code = writable (0xB5 ∷ 0x42 ∷ 0x38 ∷ 0x31 ∷ 0xFD ∷ 0x00 ∷ []) []

-- T, S 0020, P and flags as given, all else 0. Flags: 001 halted, 008 BF, 020 IR0, 040 IR1, 080 IR2, 100 timer reached
abbrev pub at_p : ℕ → ℕ → ℕ → Lh5801
at_p t p flags = record_of (0 ∷ t ∷ 0 ∷ 0 ∷ 0 ∷ 0x0020 ∷ p ∷ 0 ∷ flags ∷ 0 ∷ 0 ∷ 0 ∷ [])

-- one step on those pages: the stop address, the idle figure and the record, and what it comes to
pub record AddressStep : Type 0 where
  pub stop : Option ℕ
  pub idle : ℕ
  pub cpu : Lh5801
  pub comes : Ran StepEnd

abbrev pub steps_to : ℕ → ℕ → Lh5801 → StepEnd → List Access → AddressStep
steps_to address idle m e l = record { stop = Some address; idle = idle; cpu = m; comes = record { answer = e; pages = code; accesses = l } }

-- 12, and no access
abbrev pub stopped_at : ℕ → ℕ → Lh5801 → AddressStep
stopped_at address idle m = steps_to address idle m (stopped AtAddress) []

-- LDI done from 0000
abbrev pub ldi_done : StepEnd
ldi_done = did (record_of (0x42 ∷ 0 ∷ 0 ∷ 0 ∷ 0 ∷ 0x0020 ∷ 0x0002 ∷ 0 ∷ 0x008 ∷ 6 ∷ 0 ∷ 6 ∷ [])) 6 (instruction (First 0xB5))

abbrev pub ldi_accesses : List Access
ldi_accesses = read_of 0x0000 0xB5 ∷ read_of 0x0001 0x42 ∷ []

-- P 0000 after so many states, with these flags
abbrev pub after_states : ℕ → ℕ → Lh5801
after_states states flags = record_of (0 ∷ 0 ∷ 0 ∷ 0 ∷ 0 ∷ 0x0020 ∷ 0x0000 ∷ 0 ∷ flags ∷ states ∷ 0 ∷ states ∷ [])

-- P is 0000, the stop address; T and flags as given: an interrupt is entered, with its vector there, and these flags are left. Nothing is stored at the
-- stack, nor read at the vector
abbrev pub entered_there : ℕ → ℕ → Interrupt → ℕ → ℕ → AddressStep
entered_there t flags i vector left =
    steps_to 0x0000 0 (at_p t 0x0000 flags) (did (record_of (0 ∷ 0 ∷ 0 ∷ 0 ∷ 0 ∷ 0x001D ∷ 0xFFFF ∷ 0 ∷ left ∷ 0 ∷ 0 ∷ 0 ∷ [])) 0 (interrupt i))
    (write_of 0x0020 t ∷ write_of 0x001F 0x00 ∷ write_of 0x001E 0x00 ∷ read_of vector 0xFF ∷ read_of (vector + 1) 0xFF ∷ [])

unfoldable pub address_steps : List AddressStep
address_steps =
    -- at the address, at 0000 and FFFF too, whatever is there: LDI, its operand, an unlisted byte, FD with one, nothing; with any idle figure
    stopped_at 0x0000 0 (at_p 0 0x0000 0x008)
    ∷ stopped_at 0x0001 0 (at_p 0 0x0001 0x008)
    ∷ stopped_at 0x0003 0 (at_p 0 0x0003 0x008)
    ∷ stopped_at 0x0004 255 (at_p 0 0x0004 0x008)
    ∷ stopped_at 0xFFFF 0 (at_p 0 0xFFFF 0x008)
    -- IE set and nothing requested; IE clear, and timer reached, IR1 or IR2 set
    ∷ stopped_at 0x0000 0 (at_p 2 0x0000 0x008)
    ∷ stopped_at 0x0000 0 (at_p 0 0x0000 0x108)
    ∷ stopped_at 0x0000 0 (at_p 0 0x0000 0x0C8)
    -- elsewhere: the operand's address, the next instruction's, one that is the same modulo 256; and no stop address
    ∷ steps_to 0x0001 0 (at_p 0 0x0000 0x008) ldi_done ldi_accesses
    ∷ steps_to 0x0002 0 (at_p 0 0x0000 0x008) ldi_done ldi_accesses
    ∷ steps_to 0x0100 0 (at_p 0 0x0000 0x008) ldi_done ldi_accesses
    ∷ record (steps_to 0x0000 0 (at_p 0 0x0000 0x008) ldi_done ldi_accesses) { stop = None }
    ∷ steps_to 0x0002 0 (at_p 0 0x0003 0x008) (stopped (Unlisted (First 0x31))) (read_of 0x0003 0x31 ∷ [])
    -- no instruction is due there: BF clear; an interrupt accepted, from timer reached, IR1, IR2 and IR0, IR0 with IE clear too; halted, where it
    -- stops with 7 or waits
    ∷ steps_to 0x0000 0 (at_p 0 0x0000 0x000) (did (after_states 8 0x000) 8 off) []
    ∷ entered_there 2 0x108 Ir1 0xFFFA 0x008
    ∷ entered_there 2 0x048 Ir1 0xFFFA 0x008
    ∷ entered_there 2 0x088 Ir2 0xFFF8 0x008
    ∷ entered_there 2 0x0E8 Ir0 0xFFFC 0x0C8
    ∷ entered_there 0 0x028 Ir0 0xFFFC 0x008
    ∷ steps_to 0x0000 0 (at_p 0 0x0000 0x009) (stopped Halted) []
    ∷ steps_to 0x0000 5 (at_p 0 0x0000 0x009) (did (after_states 5 0x009) 5 waiting) []
    ∷ []

-- a call on those pages: the stop address, the limit, how many entries of a log are free, if one is lent, and the record, and what it tells
pub record AddressCall : Type 0 where
  pub stop : ℕ
  pub limit : ℕ
  pub free : Option ℕ
  pub cpu : Lh5801
  pub comes : CallResult

abbrev pub call_comes : ℕ → ℕ → Option ℕ → Lh5801 → CallResult → AddressCall
call_comes address limit free m o = record { stop = address; limit = limit; free = free; cpu = m; comes = o }

-- LDI and NOP done, with the states and accesses of both
abbrev pub two_done : End → CallResult
two_done e =
    call_result e 2 11 (record_of (0x42 ∷ 0 ∷ 0 ∷ 0 ∷ 0 ∷ 0x0020 ∷ 0x0003 ∷ 0 ∷ 0x008 ∷ 11 ∷ 0 ∷ 11 ∷ [])) code
    (read_of 0x0000 0xB5 ∷ read_of 0x0001 0x42 ∷ read_of 0x0002 0x38 ∷ [])

unfoldable pub address_calls : List AddressCall
address_calls =
    -- after two steps, where many more are asked for, and one more; where no more is, all are done
    call_comes 0x0003 1_000_000 None (at_p 0 0x0000 0x008) (two_done (Step AtAddress))
    ∷ call_comes 0x0003 3 None (at_p 0 0x0000 0x008) (two_done (Step AtAddress))
    ∷ call_comes 0x0003 2 None (at_p 0 0x0000 0x008) (two_done AllSteps)
    -- a call that begins there ends there, and the record is as given, timer reached too
    ∷ call_comes 0x0003 1 None (at_p 0 0x0003 0x008) (no_step (Step AtAddress) (at_p 0 0x0003 0x008) code)
    ∷ call_comes 0x0003 9 None (at_p 0 0x0003 0x108) (no_step (Step AtAddress) (at_p 0 0x0003 0x108) code)
    -- 11 before 12; 12 before 5; and 5 where the address is elsewhere
    ∷ call_comes 0x0003 9 (Some 6) (at_p 0 0x0003 0x008) (no_step LogFull (at_p 0 0x0003 0x008) code)
    ∷ call_comes 0x0003 9 (Some 7) (at_p 0 0x0003 0x008) (no_step (Step AtAddress) (at_p 0 0x0003 0x008) code)
    ∷ call_comes 0x0005 9 None (at_p 0 0x0000 0x008) (two_done (Step (Unlisted (First 0x31))))
    -- an interrupt is entered, and then the vector's target is the address
    ∷ call_comes 0xFFFF 9 None (at_p 2 0xFFFF 0x048)
    (call_result (Step AtAddress) 1 0 (record_of (0 ∷ 0 ∷ 0 ∷ 0 ∷ 0 ∷ 0x001D ∷ 0xFFFF ∷ 0 ∷ 0x008 ∷ 0 ∷ 0 ∷ 0 ∷ [])) code
    (write_of 0x0020 0x02 ∷ write_of 0x001F 0xFF ∷ write_of 0x001E 0xFF ∷ read_of 0xFFFA 0xFF ∷ read_of 0xFFFB 0xFF ∷ []))
    ∷ []
