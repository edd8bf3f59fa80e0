-- Halted steps with an idle figure (document 02, F-1), and a park from HLT to the timer's entry: the whole of what must come out.
-- proofs/Waiting.antt has the theorems over them.
use Rattle.std.specs.Prelude.{ℕ, ◌+◌, ◌-◌, ◌^◌, List, [], ◌∷◌, ◌++◌, replicate}
use Rattle.arithmetic.specs.declared.record.Lh5801.{Lh5801}
use Rattle.execution.specs.declared.Stop.TheVariants.{Halted}
use Rattle.pages.specs.Pages.{Pages, writable}
use Rattle.pages.specs.Prog.{Access, read_of, write_of, Ran}
use Rattle.execution.specs.declared.interrupts.Interrupt.{Interrupt}
use Rattle.execution.specs.declared.interrupts.Interrupt.TheVariants.{Ir0, Ir1, Ir2}
use Rattle.execution.specs.Step.{off, interrupt, waiting, StepEnd, did, stopped}
use Rattle.run.specs.declared.End.TheVariants.{AllSteps}
use Rattle.run.specs.Run.{CallResult, call_result}
use Rattle.run.specs.RecordNumbers.{record_of}

-- T, TM, flags, timer states, previous and ticks as given, all else 0
abbrev pub cpu : ℕ → ℕ → ℕ → ℕ → ℕ → ℕ → Lh5801
cpu t tm flags states previous ticks = record_of (0 ∷ t ∷ 0 ∷ 0 ∷ 0 ∷ 0 ∷ 0 ∷ tm ∷ flags ∷ states ∷ previous ∷ ticks ∷ [])

-- one step on empty pages: the idle figure and the record, and what it comes to
pub record HaltedCase : Type 0 where
  pub idle : ℕ
  pub cpu : Lh5801
  pub comes : Ran StepEnd

abbrev pub empty : Pages
empty = writable [] []

-- how it ends, and its accesses; it stops with 7; it waits
abbrev pub ends : ℕ → Lh5801 → StepEnd → List Access → HaltedCase
ends idle m e l = record { idle = idle; cpu = m; comes = record { answer = e; pages = empty; accesses = l } }

abbrev pub stops : Lh5801 → HaltedCase
stops m = ends 0 m (stopped Halted) []

abbrev pub waits : ℕ → Lh5801 → Lh5801 → HaltedCase
waits idle m k = ends idle m (did k idle waiting) []

-- an interrupt is accepted, with S and P 0000: T is pushed, the vector reads FFFF, and of the flags only BF is left
abbrev pub wakes : ℕ → ℕ → ℕ → Interrupt → ℕ → HaltedCase
wakes idle t flags i vector =
    ends idle (cpu t 0 flags 0 0 0) (did (record_of (0 ∷ 0 ∷ 0 ∷ 0 ∷ 0 ∷ 0xFFFD ∷ 0xFFFF ∷ 0 ∷ 0x008 ∷ 0 ∷ 0 ∷ 0 ∷ [])) 0 (interrupt i))
    (write_of 0x0000 t ∷ write_of 0xFFFF 0x00 ∷ write_of 0xFFFE 0x00 ∷ read_of vector 0xFF ∷ read_of (vector + 1) 0xFF ∷ [])

-- flags: 001 halted, 008 BF, 020 IR0, 040 IR1, 080 IR2, 100 timer reached
unfoldable pub halted_cases : List HaltedCase
halted_cases =
    -- the idle figures 0, 1, 2 and 255; a TM of 0 stays 0
    stops (cpu 0 0 0x009 0 0 0)
    ∷ waits 1 (cpu 0 0 0x009 0 0 0) (cpu 0 0 0x009 1 0 1)
    ∷ waits 2 (cpu 0 0 0x009 7 7 3) (cpu 0 0 0x009 9 7 5)
    ∷ waits 255 (cpu 0 0 0x009 0 0 0) (cpu 0 0 0x009 255 255 255)
    -- 41 states have passed, 42, 84 and 255: one shift at most; at 1FF timer reached is set
    ∷ waits 41 (cpu 0 0x1FE 0x009 0 0 0) (cpu 0 0x1FE 0x009 41 0 41)
    ∷ waits 42 (cpu 0 0x1FE 0x009 0 0 0) (cpu 0 0x1FF 0x109 42 42 42)
    ∷ waits 84 (cpu 0 0x1FC 0x009 0 0 0) (cpu 0 0x1FE 0x009 84 84 84)
    ∷ waits 255 (cpu 0 0x1FC 0x009 0 0 0) (cpu 0 0x1FE 0x009 255 255 255)
    -- the counters wrap
    ∷ waits 3 (cpu 0 0x1FC 0x009 (2 ^ 64 - 1) (2 ^ 64 - 1) (2 ^ 64 - 2)) (cpu 0 0x1FC 0x009 2 (2 ^ 64 - 1) 1)
    -- IE clear: timer reached moves to IR1, and IR1 and IR2 stay; where the step stops nothing moves
    ∷ waits 5 (cpu 0 0 0x109 0 0 0) (cpu 0 0 0x049 5 0 5)
    ∷ waits 5 (cpu 0 0 0x0C9 0 0 0) (cpu 0 0 0x0C9 5 0 5)
    ∷ stops (cpu 0 0 0x109 0 0 0)
    -- timer reached, IR1 and IR2 are accepted with IE set, and IR0 with IE clear too, whatever the idle figure is
    ∷ wakes 5 2 0x109 Ir1 0xFFFA
    ∷ wakes 5 2 0x089 Ir2 0xFFF8
    ∷ wakes 5 0 0x029 Ir0 0xFFFC
    ∷ wakes 0 2 0x029 Ir0 0xFFFC
    -- with BF clear it does not wait, with IR0 set too
    ∷ ends 5 (cpu 0 0 0x021 0 0 0) (did (cpu 0 0 0x021 8 0 8) 8 off) []
    ∷ ends 5 (cpu 0 0 0x101 0 0 0) (did (cpu 0 0 0x101 8 0 8) 8 off) []
    ∷ []

-- ---- a park: HLT at 0000 with IE set and TM 1FC; the vector at FFFA leads to 1234, the stack is at 0004

abbrev pub park_record : Lh5801
park_record = record_of (0 ∷ 2 ∷ 0 ∷ 0 ∷ 0 ∷ 0x0004 ∷ 0x0000 ∷ 0x1FC ∷ 0x008 ∷ 0 ∷ 0 ∷ 0 ∷ [])

-- page 0 has 65,536 bytes: three bytes at 0002, and the vector's two at FFFA
abbrev pub park_pages : ℕ → ℕ → ℕ → Pages
park_pages a b c = writable (0xFD ∷ 0xB1 ∷ a ∷ b ∷ c ∷ (replicate 65_525 0x00 ++ (0x12 ∷ 0x34 ∷ 0x00 ∷ 0x00 ∷ 0x00 ∷ 0x00 ∷ []))) []

-- seven steps with the idle figure 20: HLT, 9 states; five that wait, 20 states each, with shifts after the second, to 1FE, and the fifth, to 1FF; and
-- the timer's entry, which pushes T with IE and P 0002
unfoldable pub park_comes : CallResult
park_comes =
    call_result AllSteps 7 109 (record_of (0 ∷ 0 ∷ 0 ∷ 0 ∷ 0 ∷ 0x0001 ∷ 0x1234 ∷ 0x1FF ∷ 0x008 ∷ 109 ∷ 109 ∷ 109 ∷ [])) (park_pages 0x00 0x02 0x02)
    (read_of 0x0000 0xFD ∷ read_of 0x0001 0xB1 ∷ write_of 0x0004 0x02 ∷ write_of 0x0003 0x02 ∷ write_of 0x0002 0x00 ∷ read_of 0xFFFA 0x12 ∷ read_of 0xFFFB 0x34 ∷ [])
