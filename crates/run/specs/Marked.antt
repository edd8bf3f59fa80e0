-- Document 01's thirteen marked cases as one list, each with the whole of what must come out. proofs/Marked.antt has the one theorem over it.
use Rattle.std.specs.Prelude.{ℕ, zero, suc, Bool, true, false, List, [], ◌∷◌, ◌++◌, replicate}
use Prim.Native.Char.{code}
use Prim.Native.String.{String, [] as no_text, ◌∷◌ as ◌∷ₜ◌}
use Rattle.arithmetic.specs.declared.record.Lh5801.{Lh5801}
use Rattle.arithmetic.specs.Record.{with_tm, with_is_timer_reached}
use Rattle.pages.specs.Pages.{Pages, writable}
use Rattle.pages.specs.Prog.{Ran}
use Rattle.pages.specs.Timer.{timer_inc_of}
use Rattle.execution.specs.Inputs.{of_keyboard}
use Rattle.execution.specs.declared.Opcode.TheVariants.{First}
use Rattle.execution.specs.Step.{StepEnd, did, instruction}
use Rattle.run.specs.Run.{one_step}
use Rattle.run.specs.RecordNumbers.{record_of}
use Rattle.run.specs.Report.{report_of}

-- what a marked case asks
pub data Question : Type 0 where
  -- how one step ends from a record and pages, and the pages after it; the keyboard byte is 0
  step : Lh5801 → Pages → Question
  -- so many shifts of the timer one after another, and the record after each
  shifts : ℕ → Lh5801 → Question
  -- the line that is printed for a campaign file
  file : List ℕ → Question

-- and the reply
pub data Reply : Type 0 where
  ends : StepEnd → Pages → Reply
  records : List Lh5801 → Reply
  line : List ℕ → Reply

-- ---- the replies by the definitions

abbrev pub ends_of : Ran StepEnd → Reply
ends_of r = ends r.answer r.pages

unfoldable pub shifts_of : ℕ → Lh5801 → List Lh5801
shifts_of zero m = []
shifts_of (suc n) m = timer_inc_of m ∷ shifts_of n (timer_inc_of m)

unfoldable pub reply_of : Question → Reply
reply_of (step m p) = ends_of (one_step (of_keyboard 0) m p)
reply_of (shifts n m) = records (shifts_of n m)
reply_of (file bytes) = line (report_of bytes)

-- ---- the cases

pub record MarkedCase : Type 0 where
  pub number : ℕ
  pub asked : Question
  pub expected : Reply

-- BF is set; A, T, X, U and P are as given; so many states were counted, by the timer states and by the ticks; all else is 0
abbrev pub cpu : ℕ → ℕ → ℕ → ℕ → ℕ → ℕ → Lh5801
cpu a t x u p states = record_of (a ∷ t ∷ x ∷ 0 ∷ u ∷ 0 ∷ p ∷ 0 ∷ 8 ∷ states ∷ 0 ∷ states ∷ [])

-- a page 0 of two bytes, the opcode at 0
abbrev pub code2 : ℕ → ℕ → Pages
code2 opcode byte = writable (opcode ∷ byte ∷ []) []

-- one step that executes a first-page opcode: record and pages before; record, states and pages after
abbrev pub executes : ℕ → ℕ → Lh5801 → Pages → Lh5801 → ℕ → Pages → MarkedCase
executes n opcode m p k states q = record { number = n; asked = step m p; expected = ends (did k states (instruction (First opcode))) q }

-- A, T and the byte that an instruction works on
pub record ByteCase : Type 0 where
  pub a : ℕ
  pub t : ℕ
  pub byte : ℕ

abbrev pub byte_case : ℕ → ℕ → ℕ → ByteCase
byte_case a t byte = record { a = a; t = t; byte = byte }

-- A, T and the byte at X, before and after. X is 1, where the byte stands behind the opcode
abbrev pub on_byte : ℕ → ℕ → ByteCase → ByteCase → ℕ → MarkedCase
on_byte n opcode b e states =
    executes n opcode
    (cpu b.a b.t 1 0 0 0) (code2 opcode b.byte)
    (cpu e.a e.t 1 0 1 states) states (code2 opcode e.byte)

-- LOP with the operand 02, which leads back to itself: U before; U, P and the states after. All flags but IE are set, and stay
abbrev pub loops : ℕ → ℕ → ℕ → ℕ → ℕ → MarkedCase
loops n before after p states = executes n 0x88 (cpu 0 0x1D 0 before 0 0) (code2 0x88 0x02) (cpu 0 0x1D 0 after p states) states (code2 0x88 0x02)

-- TM, and document 01's "timer reached"
abbrev pub timer : ℕ → Bool → Lh5801
timer tm reached = with_is_timer_reached (with_tm (cpu 0 0 0 0 0 0) tm) reached

-- page 0 has 65,536 bytes: 8E at FFFE, its offset 00 at FFFF
abbrev pub last_bytes : Pages
last_bytes = writable (replicate 65_534 0 ++ (0x8E ∷ 0x00 ∷ [])) []

-- the characters of a text, each as its byte
abbrev pub ascii : String → List ℕ
ascii no_text = []
ascii (c ∷ₜ s) = code c ∷ ascii s

unfoldable pub marked_cases : List MarkedCase
marked_cases =
    -- DCA of the byte at X is 8C, DCS is 0C
    on_byte 1 0x8C (byte_case 0x15 0x00 0x27) (byte_case 0x42 0x18 0x27) 15
    ∷ on_byte 2 0x8C (byte_case 0x50 0x00 0x50) (byte_case 0x00 0x01 0x50) 15
    ∷ on_byte 3 0x8C (byte_case 0x99 0x01 0x99) (byte_case 0x99 0x11 0x99) 15
    ∷ on_byte 4 0x0C (byte_case 0x20 0x01 0x05) (byte_case 0x15 0x01 0x05) 13
    ∷ on_byte 5 0x0C (byte_case 0x05 0x01 0x20) (byte_case 0x85 0x10 0x20) 13
    ∷ on_byte 6 0x8C (byte_case 0x9A 0x00 0x00) (byte_case 0x9A 0x04 0x00) 15
    -- 1FE to 1FF, reached, and on to 0FF, no longer reached
    ∷ record { number = 7; asked = shifts 2 (timer 0x1FE false); expected = records (timer 0x1FF true ∷ timer 0x0FF false ∷ []) }
    -- UH, here 12, stays
    ∷ loops 8 0x1200 0x12FF 2 8
    ∷ loops 9 0x1201 0x1200 0 11
    -- DRL is D7, DRR is D3
    ∷ on_byte 10 0xD7 (byte_case 0x12 0x00 0x34) (byte_case 0x34 0x00 0x41) 12
    ∷ on_byte 11 0xD3 (byte_case 0x12 0x00 0x34) (byte_case 0x34 0x00 0x23) 12
    ∷ executes 12 0x8E (cpu 0 0 0 0 0xFFFE 0) last_bytes (cpu 0 0 0 0 0x0000 8) 8 last_bytes
    ∷ record {
      number = 13;
      asked = file (
          0x00 ∷ 0x00 ∷ 0x05 ∷ 0x00 ∷ 0x00 ∷ 0x00 ∷ 0x00 ∷ 0x00 ∷ 0x08 ∷ 0x00 ∷ 0x00 ∷ 0x00 ∷ 0x00 ∷ 0x0A ∷ 0x06
          ∷ 0xB5 ∷ 0x15 ∷ 0xF9 ∷ 0x8C ∷ 0x31 ∷ 0x27 ∷ 0x00 ∷ []);
      expected = line (ascii "5 3 25 42 18 0005 0000 0000 0000 0004 000 008 25 0 25\n");
    }
    ∷ []
