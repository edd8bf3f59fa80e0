-- Which bytes are listed, the bounds of the states, and the places that entries use: each a test computed over a whole page.
use Rattle.std.proofs.Common.{◌≡◌, ℕ, ◌+◌, ◌/◌, ◌%◌, ◌≤◌, Bool, true, false, not, T, eqb, ltb, leb, List, [], ◌∷◌, length, get_or, sym, refl, subst, arith, leb→le, ltb-false, ltb-true}
use lib.ListN.{get_or-eq_default}
use Rattle.arithmetic.proofs.Compute.{both, both_left, both_right, every, test_at}
use Rattle.execution.specs.declared.instructions.Instruction.{Instruction}
use Rattle.execution.specs.declared.instructions.Instruction.TheVariants.{Vector}
use Rattle.execution.specs.declared.instructions.Listed.{Listed}
use Rattle.execution.specs.declared.Opcode.{Opcode}
use Rattle.execution.specs.declared.Opcode.TheVariants.{First, AfterFd}
use Rattle.std.specs.Prelude.{Option, Some, None}
use Rattle.execution.specs.Opcodes.{listed}
use Rattle.execution.specs.Opcodes.{rows, decoded}
use Rattle.execution.specs.OpcodesFd.{rows_fd, decoded_fd}
use Rattle.execution.specs.Listed.{listed_first, listed_after_fd, bytes_where, place_fits}
use Rattle.execution.specs.States.{added_when_taken}
use Rattle.execution.specs.Step.{decoded_by}

-- the first bytes that are not listed: document 01's list
pub unlisted_first_bytes :
    bytes_where (λ (b : ℕ). not (listed_first b))
    ≡ (
    0x31 ∷ 0x33 ∷ 0x35 ∷ 0x37 ∷ 0x39 ∷ 0x3A ∷ 0x3B ∷ 0x3C ∷ 0x3D ∷ 0x3E ∷ 0x3F ∷
    0x70 ∷ 0x71 ∷ 0x73 ∷ 0x74 ∷ 0x75 ∷ 0x76 ∷ 0x77 ∷ 0x78 ∷ 0x79 ∷ 0x7A ∷ 0x7B ∷ 0x7C ∷ 0x7D ∷ 0x7E ∷ 0x7F ∷
    0x98 ∷
    0xB0 ∷ 0xB2 ∷ 0xB4 ∷ 0xB6 ∷ 0xBC ∷
    0xE5 ∷ 0xE7 ∷
    0xF3 ∷ 0xF8 ∷ 0xFA ∷ 0xFC ∷ 0xFE ∷ 0xFF ∷
    [])
unfolding decoded
unlisted_first_bytes = refl

pub count_of_first_bytes : (length (bytes_where listed_first) ≡ 216) × (length (bytes_where (λ (b : ℕ). not (listed_first b))) ≡ 40)
unfolding decoded
count_of_first_bytes = (refl, refl)

-- the bytes that are listed after FD: the arms of `instruction_fd`
pub listed_bytes_after_fd :
    bytes_where listed_after_fd
    ≡ (
    0x01 ∷ 0x03 ∷ 0x05 ∷ 0x07 ∷ 0x08 ∷ 0x09 ∷ 0x0A ∷ 0x0B ∷ 0x0C ∷ 0x0D ∷ 0x0E ∷ 0x0F ∷
    0x11 ∷ 0x13 ∷ 0x15 ∷ 0x17 ∷ 0x18 ∷ 0x19 ∷ 0x1A ∷ 0x1B ∷ 0x1C ∷ 0x1D ∷ 0x1E ∷ 0x1F ∷
    0x21 ∷ 0x23 ∷ 0x25 ∷ 0x27 ∷ 0x28 ∷ 0x29 ∷ 0x2A ∷ 0x2B ∷ 0x2C ∷ 0x2D ∷ 0x2E ∷ 0x2F ∷
    0x3A ∷
    0x40 ∷ 0x42 ∷ 0x48 ∷ 0x49 ∷ 0x4A ∷ 0x4B ∷ 0x4C ∷ 0x4D ∷ 0x4E ∷ 0x4F ∷
    0x50 ∷ 0x52 ∷ 0x58 ∷ 0x59 ∷ 0x5A ∷ 0x5B ∷ 0x5D ∷ 0x5E ∷ 0x5F ∷
    0x60 ∷ 0x62 ∷ 0x69 ∷ 0x6A ∷ 0x6B ∷ 0x6D ∷ 0x6F ∷
    0x81 ∷ 0x88 ∷ 0x8A ∷ 0x8C ∷ 0x8E ∷
    0x98 ∷ 0x9C ∷
    0xA1 ∷ 0xA3 ∷ 0xA5 ∷ 0xA7 ∷ 0xA8 ∷ 0xA9 ∷ 0xAA ∷ 0xAB ∷ 0xAC ∷ 0xAD ∷ 0xAE ∷ 0xAF ∷
    0xB1 ∷ 0xBA ∷ 0xBE ∷
    0xC0 ∷ 0xC1 ∷ 0xC8 ∷ 0xCA ∷ 0xCC ∷ 0xCE ∷
    0xD3 ∷ 0xD7 ∷ 0xDA ∷ 0xDE ∷
    0xE9 ∷ 0xEA ∷ 0xEB ∷ 0xEC ∷ 0xED ∷ 0xEF ∷
    [])
unfolding decoded_fd
listed_bytes_after_fd = refl

pub count_of_bytes_after_fd : (length (bytes_where listed_after_fd) ≡ 101) × (length (bytes_where (λ (b : ℕ). not (listed_after_fd b))) ≡ 155)
unfolding decoded_fd
count_of_bytes_after_fd = (refl, refl)

-- a listed entry costs at least 4 states, and at most 23 with what a taken branch or vector adds
abbrev states_fit : Option Listed → Bool
states_fit (Some l) = both (leb 4 l.states) (leb (l.states + added_when_taken l.instruction) 23)
states_fit None = true

-- a test that each byte of a page passes with its entry, and any byte with none: what it says of an entry
entry_at : (test : ℕ → Option Listed → Bool) (page : ℕ → Option Listed) → T (every (λ (b : ℕ). test b (page b)) 0 256) → ((b : ℕ) → T (test b None))
    → ((b : ℕ) → 256 ≤ b → page b ≡ None)
    → (byte : ℕ) {d : Option Listed} → page byte ≡ d → T (test byte d)
entry_at test page all none past byte e = subst (λ (d : Option Listed). T (test byte d)) e (go (ltb byte 256) refl)
  where
    go : (b : Bool) → ltb byte 256 ≡ b → T (test byte (page byte))
    go true h = test_at (λ (b : ℕ). test b (page b)) 256 all byte (ltb-true byte 256 h)
    go false h = subst (λ (d : Option Listed). T (test byte d)) (sym (past byte (ltb-false byte 256 h))) (none byte)

states_fit_lem : (i : Instruction) (n : ℕ) → T (states_fit (listed i n)) → (4 ≤ n) × (n + added_when_taken i ≤ 23)
states_fit_lem i n fit = (
  leb→le 4 n (both_left (leb 4 n) (leb (n + added_when_taken i) 23) fit),
  leb→le (n + added_when_taken i) 23 (both_right (leb 4 n) (leb (n + added_when_taken i) 23) fit),
)

-- a table of 16 rows lists nothing from 256 on
pub past_rows : (table : List (List (Option Listed))) → length table ≡ 16 → (b : ℕ) → 256 ≤ b → get_or (get_or table (b / 16) []) (b % 16) None ≡ None
past_rows table l b h = rw (get_or-eq_default table [] {n = b / 16} (omega (arith, l))) refl

-- document 01: each executed instruction adds 4 to 23 states
pub listed_states : (byte : ℕ) {i : Instruction} {n : ℕ} → decoded byte ≡ listed i n → (4 ≤ n) × (n + added_when_taken i ≤ 23)
unfolding decoded
listed_states byte {i} {n} e = states_fit_lem i n (entry_at (λ _. states_fit) decoded tt (λ _. tt) (past_rows rows refl) byte e)

pub listed_states_fd : (byte : ℕ) {i : Instruction} {n : ℕ} → decoded_fd byte ≡ listed i n → (4 ≤ n) × (n + added_when_taken i ≤ 23)
unfolding decoded_fd
listed_states_fd byte {i} {n} e = states_fit_lem i n (entry_at (λ _. states_fit) decoded_fd tt (λ _. tt) (past_rows rows_fd refl) byte e)

abbrev entry_fits : Option Listed → Bool
entry_fits (Some l) = place_fits l.instruction
entry_fits None = true

-- no entry of either table uses a place that its instruction has no meaning for
pub listed_places : (byte : ℕ) {i : Instruction} {n : ℕ} → decoded byte ≡ listed i n → T (place_fits i)
unfolding decoded
listed_places byte e = entry_at (λ _. entry_fits) decoded tt (λ _. tt) (past_rows rows refl) byte e

pub listed_places_fd : (byte : ℕ) {i : Instruction} {n : ℕ} → decoded_fd byte ≡ listed i n → T (place_fits i)
unfolding decoded_fd
listed_places_fd byte e = entry_at (λ _. entry_fits) decoded_fd tt (λ _. tt) (past_rows rows_fd refl) byte e

-- the number of a vector that the opcode names is a byte
abbrev pub vector_fits : Instruction → Bool
vector_fits (Vector nr) = ltb nr 0x100
vector_fits i = true

abbrev entry_vector_fits : Option Listed → Bool
entry_vector_fits (Some l) = vector_fits l.instruction
entry_vector_fits None = true

pub listed_vectors : (opcode : Opcode) {l : Listed} → decoded_by opcode ≡ Some l → T (vector_fits l.instruction)
unfolding decoded decoded_fd
listed_vectors (First byte) e = entry_at (λ _. entry_vector_fits) decoded tt (λ _. tt) (past_rows rows refl) byte e
listed_vectors (AfterFd byte) e = entry_at (λ _. entry_vector_fits) decoded_fd tt (λ _. tt) (past_rows rows_fd refl) byte e

-- and it is the opcode's own byte
abbrev pub vector_is : ℕ → Instruction → Bool
vector_is byte (Vector nr) = eqb nr byte
vector_is byte i = true

abbrev entry_vector_is : ℕ → Option Listed → Bool
entry_vector_is byte (Some l) = vector_is byte l.instruction
entry_vector_is byte None = true

pub vector_numbers : (byte : ℕ) {i : Instruction} {n : ℕ} → decoded byte ≡ listed i n → T (vector_is byte i)
unfolding decoded
vector_numbers byte e = entry_at entry_vector_is decoded tt (λ _. tt) (past_rows rows refl) byte e

pub vector_numbers_fd : (byte : ℕ) {i : Instruction} {n : ℕ} → decoded_fd byte ≡ listed i n → T (vector_is byte i)
unfolding decoded_fd
vector_numbers_fd byte e = entry_at entry_vector_is decoded_fd tt (λ _. tt) (past_rows rows_fd refl) byte e
