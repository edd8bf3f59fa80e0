-- Sums of bytes (document 01, "Arithmetic": "Add", "Subtract", "compare", "adr").
use Rattle.std.specs.Prelude.{ℕ, ◌+◌, ◌-◌, ◌*◌, ◌/◌, ◌%◌, Bool, true, false, not, ◌&&◌, ◌==◌, nat_le}
use Rattle.arithmetic.specs.declared.Sum.{Sum}
use Rattle.arithmetic.specs.declared.record.Lh5801.{Lh5801}
use Rattle.arithmetic.specs.Record.{with_a, with_t}
use Rattle.arithmetic.specs.Flags.{CF, bit_of, has_flag, with_flags, FlagsAre}

-- left + right + carry, not cut yet
abbrev pub total : ℕ → ℕ → Bool → ℕ
total left right carry = left + right + bit_of carry

-- the two bytes differ in bit 7
abbrev pub differ_in7 : ℕ → ℕ → Bool
differ_in7 b d = not (b / 128 == d / 128)

-- V: both operands differ from the result in bit 7
abbrev pub overflow_of : ℕ → ℕ → ℕ → Bool
overflow_of left right result = differ_in7 left result && differ_in7 right result

-- Add: 8-bit left + right + carry; C from bit 8, Z from the low byte, V as above, H from the low nibbles
unfoldable pub add_of : ℕ → ℕ → ℕ → Bool → Sum ℕ
add_of t left right carry =
    let sum : ℕ = total left right carry in
    let low : ℕ = sum % 256 in
    record {
      value = low;
      t =
          with_flags
          t
          (nat_le 256 sum)
          (low == 0)
          (overflow_of left right low)
          (nat_le 16 (total (left % 16) (right % 16) carry));
    }

-- add's flags, each as document 01 words it; IE and the upper bits are kept
abbrev pub AddFlags : ℕ → ℕ → ℕ → Bool → Type 0
AddFlags t left right carry =
    FlagsAre
    t
    (nat_le 256 (total left right carry))
    ((add_of t left right carry).value == 0)
    (overflow_of left right (add_of t left right carry).value)
    (nat_le 16 (total (left % 16) (right % 16) carry))
    (add_of t left right carry).t

-- the byte with each bit inverted
abbrev pub inverted : ℕ → ℕ
inverted b = 255 - b

-- C of the record
abbrev pub carry_of : Lh5801 → Bool
carry_of m = has_flag m.t CF

-- the record with A and T from a sum
abbrev pub with_sum : Lh5801 → Sum ℕ → Lh5801
with_sum m s = with_t (with_a m s.value) s.t

unfoldable pub adc_of : Lh5801 → ℕ → Lh5801
adc_of m d = with_sum m (add_of m.t m.a d (carry_of m))

-- Subtract adds the inverted operand with C
unfoldable pub sbc_of : Lh5801 → ℕ → Lh5801
sbc_of m d = with_sum m (add_of m.t m.a (inverted d) (carry_of m))

-- compare does so with carry 1, and keeps A; l is what is compared
unfoldable pub cpa_of : Lh5801 → ℕ → ℕ → Lh5801
cpa_of m l d = with_t m (add_of m.t l (inverted d) true).t

-- INC and DEC of a byte: 1 or FF is added, with carry 0
abbrev pub inc_of : ℕ → ℕ → Sum ℕ
inc_of t v = add_of t v 1 false

abbrev pub dec_of : ℕ → ℕ → Sum ℕ
dec_of t v = add_of t v 255 false

-- `adr`: A is added to the low half, its carry goes into the high half, and T is restored
unfoldable pub adr_of : ℕ → ℕ → ℕ → Sum ℕ
adr_of t reg a =
    let low : Sum ℕ = add_of t (reg % 256) a false in
    record {
      value = (reg / 256 + bit_of (has_flag low.t CF)) % 256 * 256 + low.value;
      t = t;
    }
