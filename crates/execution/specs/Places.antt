-- Operand places: registers, their halves, addresses, and the byte of a place.
use Rattle.std.specs.Prelude.{ℕ, ◌+◌, ◌*◌, ◌/◌, ◌%◌}
use Rattle.arithmetic.specs.declared.record.Lh5801.{Lh5801}
use Rattle.arithmetic.specs.Record.{with_x, with_y, with_u}
use Rattle.pages.specs.declared.Code.{Code}
use Rattle.pages.specs.Prog.{Prog, done, read, ◌>>=◌}
use Rattle.pages.specs.Stack.{me1_of, readop_of, readop_word_of}
use Rattle.execution.specs.declared.places.Register.{Register}
use Rattle.execution.specs.declared.places.Register.TheVariants.{X, Y, U}
use Rattle.execution.specs.declared.places.Half.{Half}
use Rattle.execution.specs.declared.places.Half.TheVariants.{High, Low, Missing}
use Rattle.execution.specs.declared.places.Page.{Page}
use Rattle.execution.specs.declared.places.Page.TheVariants.{Me0, Me1}
use Rattle.execution.specs.declared.places.Place.{Place}
use Rattle.execution.specs.declared.places.Place.TheVariants.{InHalf, Pointer, Fixed, InCode}

-- a register pair of the record, and the record with another word there
abbrev pub word_in : Lh5801 → Register → ℕ
word_in m X = m.x
word_in m Y = m.y
word_in m U = m.u

abbrev pub with_word : Lh5801 → Register → ℕ → Lh5801
with_word m X w = with_x m w
with_word m Y w = with_y m w
with_word m U w = with_u m w

-- a half of a pair. `Missing` is the register that rows 3 and 7 name and the LH5801 does not have: it reads 0 and keeps nothing
abbrev pub half_in : Lh5801 → Half → ℕ
half_in m (High r) = word_in m r / 256
half_in m (Low r) = word_in m r % 256
half_in m Missing = 0

abbrev pub with_half : Lh5801 → Half → ℕ → Lh5801
with_half m (High r) v = with_word m r (v * 256 + word_in m r % 256)
with_half m (Low r) v = with_word m r (word_in m r / 256 * 256 + v)
with_half m Missing v = m

-- the address of a word on page 0 or page 1
abbrev pub address_of : ℕ → Page → ℕ
address_of w Me0 = w
address_of w Me1 = me1_of w

abbrev pub code_byte : ℕ → ℕ → Code ℕ
code_byte b next = record { value = b; p = next }

-- the address of a place in memory, and P after it was found. A half and a byte in the code have none, and no entry of the opcode tables asks
-- for it (`listed_places`, proofs/Listed.antt)
unfoldable pub locate_of : Lh5801 → Place → Prog (Code ℕ)
locate_of m (InHalf h) = done (code_byte 0 m.p)
locate_of m (Pointer page r) = done (code_byte (address_of (word_in m r) page) m.p)
locate_of m (Fixed page) = do
  w ← readop_word_of m.p
  done (code_byte (address_of w.value page) w.p)
locate_of m InCode = done (code_byte 0 m.p)

-- the byte of a place, and P after it was read
unfoldable pub operand_of : Lh5801 → Place → Prog (Code ℕ)
operand_of m (InHalf h) = done (code_byte (half_in m h) m.p)
operand_of m (Pointer page r) = do
  b ← read (address_of (word_in m r) page)
  done (code_byte b m.p)
operand_of m (Fixed page) = do
  w ← readop_word_of m.p
  b ← read (address_of w.value page)
  done (code_byte b w.p)
operand_of m InCode = readop_of m.p
