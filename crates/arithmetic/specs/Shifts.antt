-- Shifts of A, LOP's count, and moves of digits ("Shifts, LOP, DRL, DRR, AEX .. follow their functions").
use Rattle.std.specs.Prelude.{ℕ, ◌+◌, ◌*◌, ◌/◌, ◌%◌, Bool, false, not, ◌&&◌, ◌||◌, ◌==◌, nat_le, nat_lt}
use Rattle.arithmetic.specs.declared.Looped.{Looped}
use Rattle.arithmetic.specs.declared.Moved.{Moved}
use Rattle.arithmetic.specs.declared.record.Lh5801.{Lh5801}
use Rattle.arithmetic.specs.Record.{with_a, with_t}
use Rattle.arithmetic.specs.Flags.{bit_of, has_flag, with_flags}
use Rattle.arithmetic.specs.Sums.{carry_of}

-- A one place to the left, `low` in bit 0: C is the bit that leaves, Z from the result, V where A is 40 to BF (its bits 7 and 6 differ), H is
-- the bit that goes from the low nibble to the high one
unfoldable pub left_of : Lh5801 → Bool → Lh5801
left_of m low =
    let l : ℕ = m.a in
    let v : ℕ = l * 2 % 256 + bit_of low in
    with_t (with_a m v) (with_flags m.t (has_flag l 0x80) (v == 0) (nat_le 0x40 l && nat_lt l 0xC0) (has_flag v 0x10))

-- V of a shift to the right, as the function has it: bit 0 before with bit 1 after, or bit 1 before with bit 0 after
abbrev pub right_overflow_of : ℕ → ℕ → Bool
right_overflow_of before after = has_flag before 0x01 && has_flag after 0x02 || has_flag before 0x02 && has_flag after 0x01

-- A one place to the right, `high` in bit 7: C is the bit that leaves, Z from the result, V as above, H is the bit that goes from the high
-- nibble to the low one
unfoldable pub right_of : Lh5801 → Bool → Lh5801
right_of m high =
    let l : ℕ = m.a in
    let v : ℕ = l / 2 + bit_of high * 128 in
    with_t (with_a m v) (with_flags m.t (has_flag l 0x01) (v == 0) (right_overflow_of l v) (has_flag v 0x08))

-- ROL and ROR bring C in, SHL and SHR bring 0
abbrev pub rol_of : Lh5801 → Lh5801
rol_of m = left_of m (carry_of m)

abbrev pub shl_of : Lh5801 → Lh5801
shl_of m = left_of m false

abbrev pub ror_of : Lh5801 → Lh5801
ror_of m = right_of m (carry_of m)

abbrev pub shr_of : Lh5801 → Lh5801
shr_of m = right_of m false

-- LOP on U: UL is tested before it is counted down; UL wraps, UH stays, and no flag changes
abbrev pub looped_of : ℕ → Looped
looped_of u = record { u = u / 256 * 256 + (u % 256 + 255) % 256; again = not (u % 256 == 0) }

-- AEX: A's two nibbles exchanged
abbrev pub aex_of : ℕ → ℕ
aex_of a = a % 16 * 16 + a / 16

-- DRL: the memory byte's low digit moves up and A's high digit comes in below it; A becomes the byte that was read. No flag changes
abbrev pub drl_moved : ℕ → ℕ → Moved
drl_moved a b = record { a = b; byte = b % 16 * 16 + a / 16 }

-- DRR: the memory byte's high digit moves down and A's low digit comes in above it; A becomes the byte that was read. No flag changes
abbrev pub drr_moved : ℕ → ℕ → Moved
drr_moved a b = record { a = b; byte = a % 16 * 16 + b / 16 }
