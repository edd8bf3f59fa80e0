-- Accesses that are expected: for arms of every access order, for interrupts and for stops, the whole list in its order, with the step's number and
-- states; and the accesses of calls, with what of them is read before it is written. proofs/AccessOrders.antt has the theorems over them.
use Rattle.std.specs.Prelude.{ℕ, ◌+◌, Bool, true, false, List, [], ◌∷◌, ◌++◌, map, length, drop, replicate, None}
use Rattle.arithmetic.specs.declared.record.Lh5801.{Lh5801}
use Rattle.arithmetic.specs.Record.{with_t, with_x, with_u, with_s, with_p, with_is_halted, with_bf, with_ir0, with_ir1, with_ir2, with_is_timer_reached}
use Rattle.arithmetic.specs.Flags.{CF, IE}
use Rattle.pages.specs.Pages.{Pages, writable}
use Rattle.pages.specs.Prog.{Access, read_of, write_of}
use Rattle.pages.specs.Written.{Write, writes, read_first}
use Rattle.execution.specs.Inputs.{of_keyboard}
use Rattle.execution.specs.Stops.{stop_number}
use Rattle.execution.specs.Step.{StepEnd, did, stopped}
use Rattle.run.specs.Acceptance.{end_number, end_byte}
use Rattle.run.specs.Run.{CallResult, accesses_of, call_of, settings}
use Rattle.run.specs.RecordNumbers.{record_of}

-- what is seen of a step: document 01's number of its stop, 0 where it is completed; its states; its accesses
pub record Seen : Type 0 where
  pub number : ℕ
  pub states : ℕ
  pub accesses : List Access

abbrev pub seen_of : StepEnd → List Access → Seen
seen_of (did m states kind) l = record { number = 0; states = states; accesses = l }
seen_of (stopped s) l = record { number = stop_number s; states = 0; accesses = l }

pub record Case : Type 0 where
  pub cpu : Lh5801
  pub pages : Pages
  pub comes : Seen

-- page 0 has the code from 0 on, and up to 0F the byte 10 + a at a; page 1 has 20 + a at a, up to 0F
abbrev pub bytes0 : List ℕ
bytes0 = 0x10 ∷ 0x11 ∷ 0x12 ∷ 0x13 ∷ 0x14 ∷ 0x15 ∷ 0x16 ∷ 0x17 ∷ 0x18 ∷ 0x19 ∷ 0x1A ∷ 0x1B ∷ 0x1C ∷ 0x1D ∷ 0x1E ∷ 0x1F ∷ []

abbrev pub bytes1 : List ℕ
bytes1 = 0x20 ∷ 0x21 ∷ 0x22 ∷ 0x23 ∷ 0x24 ∷ 0x25 ∷ 0x26 ∷ 0x27 ∷ 0x28 ∷ 0x29 ∷ 0x2A ∷ 0x2B ∷ 0x2C ∷ 0x2D ∷ 0x2E ∷ 0x2F ∷ []

abbrev pub coded : List ℕ → Pages
coded code = writable (code ++ drop (length code) bytes0) bytes1

-- A is 75, X 0008, Y 0009, U 000A, S 000C, P 0000; BF is set, all else is 0
unfoldable pub start_record : Lh5801
start_record = record_of (0x75 ∷ 0 ∷ 0x0008 ∷ 0x0009 ∷ 0x000A ∷ 0x000C ∷ 0x0000 ∷ 0 ∷ 8 ∷ 0 ∷ 0 ∷ 0 ∷ [])

-- the same with IE set, and P 0304
unfoldable pub enabled : Lh5801
enabled = with_p (with_t start_record IE) 0x0304

-- code and record; number, states and accesses
abbrev pub seen : List ℕ → Lh5801 → ℕ → ℕ → List Access → Case
seen code m n states l = record { cpu = m; pages = coded code; comes = record { number = n; states = states; accesses = l } }

-- an interrupt from `enabled` with the requests set, and its vector: T with IE set, P low, P high, the vector's high byte, its low byte
abbrev pub takes : Lh5801 → ℕ → Case
takes m vector =
    seen [] m 0 0 (write_of 0x0C 0x02 ∷ write_of 0x0B 0x04 ∷ write_of 0x0A 0x03 ∷ read_of vector 0xFF ∷ read_of (vector + 1) 0xFF ∷ [])

unfoldable pub access_orders : List Case
access_orders =
    -- the register form reads nothing but the opcode
    seen (0x00 ∷ []) start_record 0 6 (read_of 0x00 0x00 ∷ [])
    ∷ seen (0x0A ∷ []) start_record 0 5 (read_of 0x00 0x0A ∷ [])
    -- the byte that a register points to, on page 0 and on page 1
    ∷ seen (0x01 ∷ []) start_record 0 7 (read_of 0x00 0x01 ∷ read_of 0x08 0x18 ∷ [])
    ∷ seen (0xFD ∷ 0x01 ∷ []) start_record 0 11 (read_of 0x00 0xFD ∷ read_of 0x01 0x01 ∷ read_of 0x10008 0x28 ∷ [])
    -- the byte at the word in the code
    ∷ seen (0xA1 ∷ 0x00 ∷ 0x0B ∷ []) start_record 0 13 (read_of 0x00 0xA1 ∷ read_of 0x01 0x00 ∷ read_of 0x02 0x0B ∷ read_of 0x0B 0x1B ∷ [])
    ∷ seen (0xFD ∷ 0xA1 ∷ 0x00 ∷ 0x0B ∷ []) start_record 0 17
    (read_of 0x00 0xFD ∷ read_of 0x01 0xA1 ∷ read_of 0x02 0x00 ∷ read_of 0x03 0x0B ∷ read_of 0x1000B 0x2B ∷ [])
    -- the byte in the code: SBI, and a load and a compare of a half
    ∷ seen (0xB1 ∷ 0x34 ∷ []) start_record 0 7 (read_of 0x00 0xB1 ∷ read_of 0x01 0x34 ∷ [])
    ∷ seen (0x4A ∷ 0x34 ∷ []) start_record 0 6 (read_of 0x00 0x4A ∷ read_of 0x01 0x34 ∷ [])
    ∷ seen (0x4C ∷ 0x34 ∷ []) start_record 0 7 (read_of 0x00 0x4C ∷ read_of 0x01 0x34 ∷ [])
    -- STA
    ∷ seen (0x0E ∷ []) start_record 0 6 (read_of 0x00 0x0E ∷ write_of 0x08 0x75 ∷ [])
    ∷ seen (0xFD ∷ 0x0E ∷ []) start_record 0 10 (read_of 0x00 0xFD ∷ read_of 0x01 0x0E ∷ write_of 0x10008 0x75 ∷ [])
    ∷ seen (0xAE ∷ 0x00 ∷ 0x0B ∷ []) start_record 0 12 (read_of 0x00 0xAE ∷ read_of 0x01 0x00 ∷ read_of 0x02 0x0B ∷ write_of 0x0B 0x75 ∷ [])
    ∷ seen (0xFD ∷ 0xAE ∷ 0x00 ∷ 0x0B ∷ []) start_record 0 16
    (read_of 0x00 0xFD ∷ read_of 0x01 0xAE ∷ read_of 0x02 0x00 ∷ read_of 0x03 0x0B ∷ write_of 0x1000B 0x75 ∷ [])
    -- a memory byte with an immediate: address word, immediate, read, write
    ∷ seen (0x49 ∷ 0x0F ∷ []) start_record 0 13 (read_of 0x00 0x49 ∷ read_of 0x01 0x0F ∷ read_of 0x08 0x18 ∷ write_of 0x08 0x08 ∷ [])
    ∷ seen (0x4B ∷ 0x07 ∷ []) start_record 0 13 (read_of 0x00 0x4B ∷ read_of 0x01 0x07 ∷ read_of 0x08 0x18 ∷ write_of 0x08 0x1F ∷ [])
    ∷ seen (0x4F ∷ 0x09 ∷ []) start_record 0 13 (read_of 0x00 0x4F ∷ read_of 0x01 0x09 ∷ read_of 0x08 0x18 ∷ write_of 0x08 0x21 ∷ [])
    ∷ seen (0xE9 ∷ 0x00 ∷ 0x0B ∷ 0x0F ∷ []) start_record 0 19
    (read_of 0x00 0xE9 ∷ read_of 0x01 0x00 ∷ read_of 0x02 0x0B ∷ read_of 0x03 0x0F ∷ read_of 0x0B 0x1B ∷ write_of 0x0B 0x0B ∷ [])
    ∷ seen (0xEB ∷ 0x00 ∷ 0x0B ∷ 0x07 ∷ []) start_record 0 19
    (read_of 0x00 0xEB ∷ read_of 0x01 0x00 ∷ read_of 0x02 0x0B ∷ read_of 0x03 0x07 ∷ read_of 0x0B 0x1B ∷ write_of 0x0B 0x1F ∷ [])
    ∷ seen (0xEF ∷ 0x00 ∷ 0x0B ∷ 0x09 ∷ []) start_record 0 19
    (read_of 0x00 0xEF ∷ read_of 0x01 0x00 ∷ read_of 0x02 0x0B ∷ read_of 0x03 0x09 ∷ read_of 0x0B 0x1B ∷ write_of 0x0B 0x24 ∷ [])
    ∷ seen (0xFD ∷ 0x49 ∷ 0x0F ∷ []) start_record 0 17
    (read_of 0x00 0xFD ∷ read_of 0x01 0x49 ∷ read_of 0x02 0x0F ∷ read_of 0x10008 0x28 ∷ write_of 0x10008 0x08 ∷ [])
    ∷ seen (0xFD ∷ 0xE9 ∷ 0x00 ∷ 0x0B ∷ 0x0F ∷ []) start_record 0 23
    (read_of 0x00 0xFD ∷ read_of 0x01 0xE9 ∷ read_of 0x02 0x00 ∷ read_of 0x03 0x0B ∷ read_of 0x04 0x0F ∷ read_of 0x1000B 0x2B ∷ write_of 0x1000B 0x0B ∷ [])
    -- BII reads the memory byte before the immediate
    ∷ seen (0x4D ∷ 0x0F ∷ []) start_record 0 10 (read_of 0x00 0x4D ∷ read_of 0x08 0x18 ∷ read_of 0x01 0x0F ∷ [])
    ∷ seen (0xED ∷ 0x00 ∷ 0x0B ∷ 0x0F ∷ []) start_record 0 16
    (read_of 0x00 0xED ∷ read_of 0x01 0x00 ∷ read_of 0x02 0x0B ∷ read_of 0x0B 0x1B ∷ read_of 0x03 0x0F ∷ [])
    ∷ seen (0xFD ∷ 0x4D ∷ 0x0F ∷ []) start_record 0 14 (read_of 0x00 0xFD ∷ read_of 0x01 0x4D ∷ read_of 0x10008 0x28 ∷ read_of 0x02 0x0F ∷ [])
    ∷ seen (0xFD ∷ 0xED ∷ 0x00 ∷ 0x0B ∷ 0x0F ∷ []) start_record 0 20
    (read_of 0x00 0xFD ∷ read_of 0x01 0xED ∷ read_of 0x02 0x00 ∷ read_of 0x03 0x0B ∷ read_of 0x1000B 0x2B ∷ read_of 0x04 0x0F ∷ [])
    -- DRL and DRR
    ∷ seen (0xD7 ∷ []) start_record 0 12 (read_of 0x00 0xD7 ∷ read_of 0x08 0x18 ∷ write_of 0x08 0x87 ∷ [])
    ∷ seen (0xD3 ∷ []) start_record 0 12 (read_of 0x00 0xD3 ∷ read_of 0x08 0x18 ∷ write_of 0x08 0x51 ∷ [])
    ∷ seen (0xFD ∷ 0xD7 ∷ []) start_record 0 16 (read_of 0x00 0xFD ∷ read_of 0x01 0xD7 ∷ read_of 0x10008 0x28 ∷ write_of 0x10008 0x87 ∷ [])
    ∷ seen (0xFD ∷ 0xD3 ∷ []) start_record 0 16 (read_of 0x00 0xFD ∷ read_of 0x01 0xD3 ∷ read_of 0x10008 0x28 ∷ write_of 0x10008 0x52 ∷ [])
    -- SIN, SDE, LIN, LDE
    ∷ seen (0x41 ∷ []) start_record 0 6 (read_of 0x00 0x41 ∷ write_of 0x08 0x75 ∷ [])
    ∷ seen (0x43 ∷ []) start_record 0 6 (read_of 0x00 0x43 ∷ write_of 0x08 0x75 ∷ [])
    ∷ seen (0x45 ∷ []) start_record 0 6 (read_of 0x00 0x45 ∷ read_of 0x08 0x18 ∷ [])
    ∷ seen (0x47 ∷ []) start_record 0 6 (read_of 0x00 0x47 ∷ read_of 0x08 0x18 ∷ [])
    -- a branch reads its operand, taken (forward, backward) or not; so does LOP
    ∷ seen (0x83 ∷ 0x02 ∷ []) (with_t start_record CF) 0 10 (read_of 0x00 0x83 ∷ read_of 0x01 0x02 ∷ [])
    ∷ seen (0x93 ∷ 0x02 ∷ []) (with_t start_record CF) 0 11 (read_of 0x00 0x93 ∷ read_of 0x01 0x02 ∷ [])
    ∷ seen (0x83 ∷ 0x02 ∷ []) start_record 0 8 (read_of 0x00 0x83 ∷ read_of 0x01 0x02 ∷ [])
    ∷ seen (0x8E ∷ 0x02 ∷ []) start_record 0 8 (read_of 0x00 0x8E ∷ read_of 0x01 0x02 ∷ [])
    ∷ seen (0x88 ∷ 0x02 ∷ []) start_record 0 11 (read_of 0x00 0x88 ∷ read_of 0x01 0x02 ∷ [])
    ∷ seen (0x88 ∷ 0x02 ∷ []) (with_u start_record 0) 0 8 (read_of 0x00 0x88 ∷ read_of 0x01 0x02 ∷ [])
    -- a vector: the operand, P low, P high, the vector's high byte, its low byte; not taken, the operand only. The second byte of vector
    -- FF is at 10000
    ∷ seen (0xC0 ∷ []) start_record 0 17 (read_of 0x00 0xC0 ∷ write_of 0x0C 0x01 ∷ write_of 0x0B 0x00 ∷ read_of 0xFFC0 0xFF ∷ read_of 0xFFC1 0xFF ∷ [])
    ∷ seen (0xC3 ∷ 0xF0 ∷ []) (with_t start_record CF) 0 21
    (read_of 0x00 0xC3 ∷ read_of 0x01 0xF0 ∷ write_of 0x0C 0x02 ∷ write_of 0x0B 0x00 ∷ read_of 0xFFF0 0xFF ∷ read_of 0xFFF1 0xFF ∷ [])
    ∷ seen (0xC3 ∷ 0xF0 ∷ []) start_record 0 8 (read_of 0x00 0xC3 ∷ read_of 0x01 0xF0 ∷ [])
    ∷ seen (0xCD ∷ 0xFF ∷ []) start_record 0 20
    (read_of 0x00 0xCD ∷ read_of 0x01 0xFF ∷ write_of 0x0C 0x02 ∷ write_of 0x0B 0x00 ∷ read_of 0xFFFF 0xFF ∷ read_of 0x10000 0x20 ∷ [])
    -- JMP, SJP, RTN, RTI, LDI S
    ∷ seen (0xBA ∷ 0x00 ∷ 0x0B ∷ []) start_record 0 12 (read_of 0x00 0xBA ∷ read_of 0x01 0x00 ∷ read_of 0x02 0x0B ∷ [])
    ∷ seen (0xBE ∷ 0x00 ∷ 0x0B ∷ []) start_record 0 19
    (read_of 0x00 0xBE ∷ read_of 0x01 0x00 ∷ read_of 0x02 0x0B ∷ write_of 0x0C 0x03 ∷ write_of 0x0B 0x00 ∷ [])
    ∷ seen (0x9A ∷ []) start_record 0 11 (read_of 0x00 0x9A ∷ read_of 0x0D 0x1D ∷ read_of 0x0E 0x1E ∷ [])
    ∷ seen (0x8A ∷ []) start_record 0 14 (read_of 0x00 0x8A ∷ read_of 0x0D 0x1D ∷ read_of 0x0E 0x1E ∷ read_of 0x0F 0x1F ∷ [])
    ∷ seen (0xAA ∷ 0x00 ∷ 0x0B ∷ []) start_record 0 12 (read_of 0x00 0xAA ∷ read_of 0x01 0x00 ∷ read_of 0x02 0x0B ∷ [])
    -- TIN reads at X and writes at Y; CIN only reads
    ∷ seen (0xF5 ∷ []) start_record 0 7 (read_of 0x00 0xF5 ∷ read_of 0x08 0x18 ∷ write_of 0x09 0x18 ∷ [])
    ∷ seen (0xF7 ∷ []) start_record 0 7 (read_of 0x00 0xF7 ∷ read_of 0x08 0x18 ∷ [])
    -- PSH X, POP X, PSH A, POP A; FD 3A moves S and reads nothing
    ∷ seen (0xFD ∷ 0x88 ∷ []) start_record 0 14 (read_of 0x00 0xFD ∷ read_of 0x01 0x88 ∷ write_of 0x0C 0x08 ∷ write_of 0x0B 0x00 ∷ [])
    ∷ seen (0xFD ∷ 0x0A ∷ []) start_record 0 15 (read_of 0x00 0xFD ∷ read_of 0x01 0x0A ∷ read_of 0x0D 0x1D ∷ read_of 0x0E 0x1E ∷ [])
    ∷ seen (0xFD ∷ 0xC8 ∷ []) start_record 0 11 (read_of 0x00 0xFD ∷ read_of 0x01 0xC8 ∷ write_of 0x0C 0x75 ∷ [])
    ∷ seen (0xFD ∷ 0x8A ∷ []) start_record 0 12 (read_of 0x00 0xFD ∷ read_of 0x01 0x8A ∷ read_of 0x0D 0x1D ∷ [])
    ∷ seen (0xFD ∷ 0x3A ∷ []) start_record 0 15 (read_of 0x00 0xFD ∷ read_of 0x01 0x3A ∷ [])
    -- ITA: the keyboard byte is no access
    ∷ seen (0xFD ∷ 0xBA ∷ []) start_record 0 9 (read_of 0x00 0xFD ∷ read_of 0x01 0xBA ∷ [])
    -- an interrupt: T, P low, P high, the vector's high byte, its low byte. T is written with IE still set. IR1, timer reached, IR1
    -- and IR2, IR2; halted
    ∷ takes (with_ir1 enabled true) 0xFFFA
    ∷ takes (with_is_timer_reached enabled true) 0xFFFA
    ∷ takes (with_ir2 (with_ir1 enabled true) true) 0xFFFA
    ∷ takes (with_ir2 enabled true) 0xFFF8
    ∷ takes (with_is_halted (with_ir1 enabled true) true) 0xFFFA
    -- with IE clear it is not taken
    ∷ seen (0x00 ∷ []) (with_ir1 start_record true) 0 6 (read_of 0x00 0x00 ∷ [])
    -- IR0: alone, before the other two, halted; and with IE clear
    ∷ takes (with_ir0 enabled true) 0xFFFC
    ∷ takes (with_ir0 (with_ir2 (with_ir1 enabled true) true) true) 0xFFFC
    ∷ takes (with_is_halted (with_ir0 enabled true) true) 0xFFFC
    ∷ seen [] (with_ir0 (with_ir2 (with_ir1 start_record true) true) true) 0 0
    (write_of 0x0C 0x00 ∷ write_of 0x0B 0x00 ∷ write_of 0x0A 0x00 ∷ read_of 0xFFFC 0xFF ∷ read_of 0xFFFD 0xFF ∷ [])
    -- 5: the reads of a step that stops, here of an unlisted first byte and of a byte past the page's end
    ∷ seen (0x31 ∷ []) start_record 5 0 (read_of 0x00 0x31 ∷ [])
    ∷ seen [] (with_p start_record 0x10) 5 0 (read_of 0x10 0xFF ∷ [])
    -- 6: after FD an unlisted byte, FD again, and a byte past the page's end
    ∷ seen (0xFD ∷ 0x00 ∷ []) start_record 6 0 (read_of 0x00 0xFD ∷ read_of 0x01 0x00 ∷ [])
    ∷ seen (0xFD ∷ 0xFD ∷ []) start_record 6 0 (read_of 0x00 0xFD ∷ read_of 0x01 0xFD ∷ [])
    ∷ seen (replicate 15 0x00 ++ (0xFD ∷ [])) (with_p start_record 0x0F) 6 0 (read_of 0x0F 0xFD ∷ read_of 0x10 0xFF ∷ [])
    -- BF clear, with IR0 set too, and 7: no access
    ∷ seen (0x01 ∷ []) (with_bf start_record false) 0 8 []
    ∷ seen (0x01 ∷ []) (with_ir0 (with_bf start_record false) true) 0 8 []
    ∷ seen (0x01 ∷ []) (with_is_halted start_record true) 7 0 []
    -- a read past the end gives FF; a dropped write stays in the list
    ∷ seen (0x01 ∷ []) (with_x start_record 0x40) 0 7 (read_of 0x00 0x01 ∷ read_of 0x40 0xFF ∷ [])
    ∷ seen (0xFD ∷ 0x01 ∷ []) (with_x start_record 0x40) 0 11 (read_of 0x00 0xFD ∷ read_of 0x01 0x01 ∷ read_of 0x10040 0xFF ∷ [])
    ∷ seen (0x0E ∷ []) (with_x start_record 0x40) 0 6 (read_of 0x00 0x0E ∷ write_of 0x40 0x75 ∷ [])
    ∷ seen (0xFD ∷ 0x0E ∷ []) (with_x start_record 0x40) 0 10 (read_of 0x00 0xFD ∷ read_of 0x01 0x0E ∷ write_of 0x10040 0x75 ∷ [])
    ∷ []

-- ---- what a step reads before it has written it

-- an interrupt, with this S
abbrev pub interrupted : ℕ → Lh5801
interrupted s = with_s (with_ir1 enabled true) s

-- page 0 has 65,536 bytes, all 00
abbrev pub long : Pages
long = writable (replicate 65_536 0x00) []

-- is FFFA read before it has been written, and is FFFB?
abbrev pub vector_first : Pages → List Access → List Bool
vector_first p l = read_first p 0xFFFA l ∷ read_first p 0xFFFB l ∷ []

-- ---- the accesses of a call, with those of the step that stops

-- STA at X, and then FD and an unlisted byte
abbrev pub two_steps : Pages
two_steps = coded (0x0E ∷ 0xFD ∷ 0x00 ∷ [])

-- what is seen of a call, and which of the places 00, 01, 02 and 08 it reads before it has written them
pub record CallSeen : Type 0 where
  pub number : ℕ
  pub byte : ℕ
  pub steps : ℕ
  pub states : ℕ
  pub wrote : List Write
  pub accesses : List Access
  pub first : List Bool

abbrev pub call_seen_of : CallResult → Pages → List Access → CallSeen
call_seen_of o p l = record {
  number = end_number o.answer.end;
  byte = end_byte o.answer.end;
  steps = o.answer.steps;
  states = o.answer.states;
  wrote = writes o.bus;
  accesses = l;
  first = map (λ (a : ℕ). read_first p a l) (0x00 ∷ 0x01 ∷ 0x02 ∷ 0x08 ∷ []);
}

abbrev pub call_seen : ℕ → Lh5801 → Pages → CallSeen
call_seen limit m p = call_seen_of (call_of (settings (of_keyboard 0x77) limit) None m p) p (accesses_of limit (of_keyboard 0x77) None m p)

pub record CallCase : Type 0 where
  pub limit : ℕ
  pub cpu : Lh5801
  pub pages : Pages
  pub comes : CallSeen

abbrev pub wrote : ℕ → ℕ → List Write
wrote a v = record { address = a; byte = v } ∷ []

unfoldable pub calls : List CallCase
calls =
    -- limit 1: the first step alone
    record {
      limit = 1;
      cpu = start_record;
      pages = two_steps;
      comes = record {
        number = 0;
        byte = 0;
        steps = 1;
        states = 6;
        wrote = wrote 0x08 0x75;
        accesses = read_of 0x00 0x0E ∷ write_of 0x08 0x75 ∷ [];
        first = true ∷ false ∷ false ∷ false ∷ [];
      };
    }
    -- limit 2: the byte after FD, at 02, is read and counts, though its step stops
    ∷ record {
      limit = 2;
      cpu = start_record;
      pages = two_steps;
      comes = record {
        number = 6;
        byte = 0x00;
        steps = 1;
        states = 6;
        wrote = wrote 0x08 0x75;
        accesses = read_of 0x00 0x0E ∷ write_of 0x08 0x75 ∷ read_of 0x01 0xFD ∷ read_of 0x02 0x00 ∷ [];
        first = true ∷ true ∷ true ∷ false ∷ [];
      };
    }
    -- X at 02: the first step writes the byte, 75, with which the second stops, so it is not read first
    ∷ record {
      limit = 2;
      cpu = with_x start_record 0x02;
      pages = two_steps;
      comes = record {
        number = 6;
        byte = 0x75;
        steps = 1;
        states = 6;
        wrote = wrote 0x02 0x75;
        accesses = read_of 0x00 0x0E ∷ write_of 0x02 0x75 ∷ read_of 0x01 0xFD ∷ read_of 0x02 0x75 ∷ [];
        first = true ∷ true ∷ false ∷ false ∷ [];
      };
    }
    -- HLT (FD B1), and then 7: the step that stops makes no access
    ∷ record {
      limit = 2;
      cpu = start_record;
      pages = coded (0xFD ∷ 0xB1 ∷ []);
      comes = record {
        number = 7;
        byte = 0;
        steps = 1;
        states = 9;
        wrote = [];
        accesses = read_of 0x00 0xFD ∷ read_of 0x01 0xB1 ∷ [];
        first = true ∷ true ∷ false ∷ false ∷ [];
      };
    }
    ∷ []
