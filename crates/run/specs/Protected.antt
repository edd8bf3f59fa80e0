-- Steps and calls on pages of which a part is read-only (document 02, F-4): what must come out. proofs/Protected.antt has the theorems over them.
use Rattle.std.specs.Prelude.{ℕ, ◌+◌, ◌-◌, true, false, Bool, List, [], ◌∷◌, map, replicate, None}
use Rattle.arithmetic.specs.declared.record.Lh5801.{Lh5801}
use Rattle.arithmetic.specs.Record.{with_x, with_s, with_bf, with_ir0, with_ir1}
use Rattle.pages.specs.declared.ReadOnly.{ReadOnly}
use Rattle.pages.specs.Pages.{Pages, no_read_only, read_only_of, writable, with_read_only, at}
use Rattle.pages.specs.Prog.{Access, read_of, write_of, Ran}
use Rattle.pages.specs.Stack.{word_of}
use Rattle.pages.specs.Written.{Write, read_first}
use Rattle.execution.specs.Step.{StepEnd, did, stopped}
use Rattle.execution.specs.Inputs.{of_keyboard}
use Rattle.run.specs.AccessOrders.{Seen, seen_of, coded, start_record, enabled, long, wrote}
use Rattle.run.specs.Run.{writes_of, accesses_of, call_of, settings}

-- what is seen of a step: as in AccessOrders.antt; S and P after it; and what some addresses hold after it
pub record ProtectedSeen : Type 0 where
  pub seen : Seen
  pub s : ℕ
  pub p : ℕ
  pub bytes : List ℕ

abbrev pub record_after : Lh5801 → StepEnd → Lh5801
record_after m (did k states kind) = k
record_after m (stopped s) = m

abbrev pub protected_seen : Lh5801 → List ℕ → Ran StepEnd → ProtectedSeen
protected_seen m addresses r =
    let k = record_after m r.answer in
    record { seen = seen_of r.answer r.accesses; s = k.s; p = k.p; bytes = map (at r.pages) addresses }

-- a step, the addresses that are looked at after it, and what it must come to
pub record ProtectedCase : Type 0 where
  pub cpu : Lh5801
  pub pages : Pages
  pub addresses : List ℕ
  pub comes : ProtectedSeen

-- record, pages, part and addresses; states, accesses, S, P and bytes
abbrev pub leaves : Lh5801 → Pages → ReadOnly → List ℕ → ℕ → List Access → ℕ → ℕ → List ℕ → ProtectedCase
leaves m pages r addresses states l s p bytes = record {
  cpu = m;
  pages = with_read_only r pages;
  addresses = addresses;
  comes = record { seen = record { number = 0; states = states; accesses = l }; s = s; p = p; bytes = bytes };
}

-- PSH A pushes 75 at 000C, where 1C is; with this part, what 000C holds after it
abbrev pub psh_pushes : ReadOnly → ℕ → ProtectedCase
psh_pushes r byte =
    leaves start_record (coded (0xFD ∷ 0xC8 ∷ [])) r (0x0C ∷ []) 11 (read_of 0x00 0xFD ∷ read_of 0x01 0xC8 ∷ write_of 0x0C 0x75 ∷ []) 0x0B 0x02 (byte ∷ [])

-- the same at FFFF, the last byte of a page 0 of 65,536 bytes, which is 00
abbrev pub psh_pushes_last : ReadOnly → ℕ → ProtectedCase
psh_pushes_last r byte =
    leaves (with_s start_record 0xFFFF) (writable (0xFD ∷ 0xC8 ∷ replicate 65_534 0x00) []) r (0xFFFF ∷ []) 11
    (read_of 0x00 0xFD ∷ read_of 0x01 0xC8 ∷ write_of 0xFFFF 0x75 ∷ []) 0xFFFE 0x02 (byte ∷ [])

-- SJP pushes 0003 at 000C and 000B, where 1C and 1B are
abbrev pub sjp_pushes : ReadOnly → ℕ → ℕ → ProtectedCase
sjp_pushes r low high =
    leaves start_record (coded (0xBE ∷ 0x00 ∷ 0x0B ∷ [])) r (0x0C ∷ 0x0B ∷ []) 19
    (read_of 0x00 0xBE ∷ read_of 0x01 0x00 ∷ read_of 0x02 0x0B ∷ write_of 0x0C 0x03 ∷ write_of 0x0B 0x00 ∷ []) 0x0A 0x0B (low ∷ high ∷ [])

-- STA at 0008, where 18 is, and at 10008, where 28 is
abbrev pub sta_on_0 : ReadOnly → ℕ → ProtectedCase
sta_on_0 r byte = leaves start_record (coded (0x0E ∷ [])) r (0x08 ∷ []) 6 (read_of 0x00 0x0E ∷ write_of 0x08 0x75 ∷ []) 0x0C 0x01 (byte ∷ [])

abbrev pub sta_on_1 : ReadOnly → ℕ → ProtectedCase
sta_on_1 r byte =
    leaves start_record (coded (0xFD ∷ 0x0E ∷ [])) r (0x10008 ∷ []) 10 (read_of 0x00 0xFD ∷ read_of 0x01 0x0E ∷ write_of 0x10008 0x75 ∷ []) 0x0C 0x02 (byte ∷ [])

-- an interrupt on a page of zeros, with S at its vector's second byte: T, 02, is pushed there, and P's low byte, 04, at the first. With this part, what
-- the vector reads, and so what its bytes hold
abbrev pub enters : Lh5801 → ℕ → ReadOnly → ℕ → ℕ → ProtectedCase
enters m vector r high low =
    leaves (with_s m (vector + 1)) long r (vector ∷ (vector + 1) ∷ (vector - 1) ∷ []) 0
    (write_of (vector + 1) 0x02 ∷ write_of vector 0x04 ∷ write_of (vector - 1) 0x03 ∷ read_of vector high ∷ read_of (vector + 1) low ∷ []) (vector - 2)
    (word_of high low)
    (high ∷ low ∷ 0x03 ∷ [])

abbrev pub enters_ir0 : ReadOnly → ℕ → ℕ → ProtectedCase
enters_ir0 = enters (with_ir0 enabled true) 0xFFFC

abbrev pub enters_ir1 : ReadOnly → ℕ → ℕ → ProtectedCase
enters_ir1 = enters (with_ir1 enabled true) 0xFFFA

-- C0 at 0000 with S at FFC1, zeros elsewhere: P, 0001, is pushed at FFC1 and FFC0, which are its vector. With this part, what FFC1 reads
abbrev pub takes_vector : ReadOnly → ℕ → ProtectedCase
takes_vector r low =
    leaves (with_s start_record 0xFFC1) (writable (0xC0 ∷ replicate 65_535 0x00) []) r (0xFFC0 ∷ 0xFFC1 ∷ []) 17
    (read_of 0x00 0xC0 ∷ write_of 0xFFC1 0x01 ∷ write_of 0xFFC0 0x00 ∷ read_of 0xFFC0 0x00 ∷ read_of 0xFFC1 low ∷ []) 0xFFBF low (0x00 ∷ low ∷ [])

unfoldable pub protected_cases : List ProtectedCase
protected_cases =
    -- a push into the part moves S and is an access, and the byte stays. The first address is in it, the end is not
    psh_pushes (read_only_of 0x0C 0x0D) 0x1C
    ∷ psh_pushes (read_only_of 0x00 0x0C) 0x75
    ∷ psh_pushes (read_only_of 0x0D 0x10) 0x75
    -- the end equal to the first, and below it
    ∷ psh_pushes (read_only_of 0x0C 0x0C) 0x75
    ∷ psh_pushes (read_only_of 0x0D 0x0C) 0x75
    ∷ psh_pushes (read_only_of 0xFFFFFFFF 0) 0x75
    -- the end at 65,536 and above
    ∷ psh_pushes (read_only_of 0x00 0x10000) 0x1C
    ∷ psh_pushes (read_only_of 0x0C 0xFFFFFFFF) 0x1C
    ∷ psh_pushes_last (read_only_of 0xFFFF 0x10000) 0x00
    ∷ psh_pushes_last (read_only_of 0x00 0x1FFFF) 0x00
    ∷ psh_pushes_last (read_only_of 0x00 0xFFFF) 0x75
    -- one byte of a word that is pushed
    ∷ sjp_pushes (read_only_of 0x0C 0x0D) 0x1C 0x00
    ∷ sjp_pushes (read_only_of 0x0B 0x0C) 0x03 0x1B
    -- page 1 has no such part, whatever first and end are; a first above page 0 protects nothing
    ∷ sta_on_0 (read_only_of 0x00 0xFFFFFFFF) 0x18
    ∷ sta_on_1 (read_only_of 0x00 0xFFFFFFFF) 0x75
    ∷ sta_on_1 (read_only_of 0x10008 0x10009) 0x75
    ∷ sta_on_1 (read_only_of 0x08 0x09) 0x75
    ∷ sta_on_0 (read_only_of 0x10000 0x20000) 0x75
    -- a part past the end of page 0, which has 16 bytes: a write there is dropped with it or without
    ∷ leaves (with_x start_record 0x40) (coded (0x0E ∷ [])) (read_only_of 0x40 0x50) (0x40 ∷ []) 6 (read_of 0x00 0x0E ∷ write_of 0x40 0x75 ∷ []) 0x0C 0x01
    (0xFF ∷ [])
    ∷ sta_on_0 (read_only_of 0x40 0x50) 0x75
    -- DRL reads a byte of the part, and its write there is dropped
    ∷ leaves start_record (coded (0xD7 ∷ [])) (read_only_of 0x08 0x09) (0x08 ∷ []) 12 (read_of 0x00 0xD7 ∷ read_of 0x08 0x18 ∷ write_of 0x08 0x87 ∷ []) 0x0C
    0x01 (0x18 ∷ [])
    -- a vector whose bytes are protected reads the old ones after the pushes
    ∷ enters_ir1 (read_only_of 0xFFFA 0xFFFC) 0x00 0x00
    ∷ enters_ir1 (read_only_of 0xFFFB 0x10000) 0x04 0x00
    ∷ enters_ir1 (read_only_of 0xFFFA 0xFFFB) 0x00 0x02
    ∷ enters_ir1 (read_only_of 0xFFFC 0x10000) 0x04 0x02
    ∷ enters_ir0 (read_only_of 0xFFFC 0x10000) 0x00 0x00
    ∷ enters_ir0 (read_only_of 0xFFFD 0xFFFE) 0x04 0x00
    ∷ enters_ir0 no_read_only 0x04 0x02
    ∷ takes_vector (read_only_of 0xFFC1 0xFFC2) 0x00
    ∷ takes_vector (read_only_of 0xFFC2 0xFFFF) 0x01
    -- a step with BF clear
    ∷ leaves (with_bf start_record false) (coded (0x0E ∷ [])) (read_only_of 0x00 0x10000) (0x00 ∷ 0x08 ∷ 0x0C ∷ []) 8 [] 0x0C 0x00 (0x0E ∷ 0x18 ∷ 0x1C ∷ [])
    ∷ []

-- ---- what is read before it is written: a dropped write leaves its byte unwritten

-- parts, and with each of them whether the entry above reads FFFA first, and FFFB
pub record VectorCase : Type 0 where
  pub read_only : ReadOnly
  pub first : List Bool

abbrev pub vector_of_part : ReadOnly → Bool → Bool → VectorCase
vector_of_part r high low = record { read_only = r; first = high ∷ low ∷ [] }

unfoldable pub vector_cases : List VectorCase
vector_cases =
    vector_of_part (read_only_of 0 0) false false
    ∷ vector_of_part (read_only_of 0xFFFA 0xFFFC) true true
    ∷ vector_of_part (read_only_of 0xFFFA 0xFFFB) true false
    ∷ vector_of_part (read_only_of 0xFFFB 0xFFFC) false true
    ∷ vector_of_part (read_only_of 0xFFFC 0xFFFF) false false
    ∷ vector_of_part (read_only_of 0x00 0x20000) true true
    ∷ []

-- STA at an address and then LDA from there: what a call of two steps writes, its accesses, and whether the address is read first
pub record LoadSeen : Type 0 where
  pub wrote : List Write
  pub accesses : List Access
  pub first : Bool

abbrev pub load_seen : ℕ → Pages → LoadSeen
load_seen a p = record {
  wrote = writes_of (call_of (settings (of_keyboard 0) 2) None start_record p);
  accesses = accesses_of 2 (of_keyboard 0) None start_record p;
  first = read_first p a (accesses_of 2 (of_keyboard 0) None start_record p);
}

-- at 0008, and with this part: the write is in the sequence, dropped or not; what LDA reads, and whether 0008 is read first
pub record LoadCase : Type 0 where
  pub read_only : ReadOnly
  pub comes : LoadSeen

abbrev pub loads : ReadOnly → ℕ → Bool → LoadCase
loads r byte first = record {
  read_only = r;
  comes = record { wrote = wrote 0x08 0x75; accesses = read_of 0x00 0x0E ∷ write_of 0x08 0x75 ∷ read_of 0x01 0x05 ∷ read_of 0x08 byte ∷ []; first = first };
}

unfoldable pub load_cases : List LoadCase
load_cases = loads (read_only_of 0x08 0x09) 0x18 true ∷ loads (read_only_of 0x00 0x08) 0x75 false ∷ loads (read_only_of 0x00 0x20000) 0x18 true ∷ []

abbrev pub sta_and_lda : Pages
sta_and_lda = coded (0x0E ∷ 0x05 ∷ [])

-- and at 10008, which is in the range and not in the part
abbrev pub sta_and_lda_on_1 : Pages
sta_and_lda_on_1 = with_read_only (read_only_of 0x00 0x20000) (coded (0xFD ∷ 0x0E ∷ 0xFD ∷ 0x05 ∷ []))
