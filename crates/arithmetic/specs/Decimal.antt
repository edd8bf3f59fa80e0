-- Decimal sums (document 01, "Arithmetic": "DCA", "DCS").
use Rattle.std.specs.Prelude.{◌≡◌, ℕ, ◌+◌, ◌-◌, ◌*◌, ◌/◌, ◌%◌, ◌≤◌, Bool, true, false, nat_le}
use Rattle.arithmetic.specs.declared.Sum.{Sum}
use Rattle.arithmetic.specs.declared.record.Lh5801.{Lh5801}
use Rattle.arithmetic.specs.Flags.{CF, HF, bit_of, has_flag}
use Rattle.arithmetic.specs.Sums.{add_of, inverted, with_sum}

-- what the result gains, by C and H
abbrev pub adjust : Bool → Bool → ℕ
adjust false false = 0x9A
adjust false true = 0xA0
adjust true false = 0xFA
adjust true true = 0x00

-- the sum with its result adjusted and wrapped; the flags are those of the sum before that
abbrev pub adjusted : Sum ℕ → Sum ℕ
adjusted s = record { value = (s.value + adjust (has_flag s.t CF) (has_flag s.t HF)) % 256; t = s.t }

-- `decimaladd_generic`
unfoldable pub decimal_sum_of : ℕ → ℕ → ℕ → Bool → Sum ℕ
decimal_sum_of t left right carry = adjusted (add_of t left right carry)

-- "A + 66 wrapped to 8 bits"
abbrev pub plus66 : ℕ → ℕ
plus66 a = (a + 0x66) % 256

-- DCA on A, T and an operand: left is A + 66
unfoldable pub dca_sum : ℕ → ℕ → ℕ → Sum ℕ
dca_sum t a d = decimal_sum_of t (plus66 a) d (has_flag t CF)

-- DCS on A, T and an operand: the operand is inverted
unfoldable pub dcs_sum : ℕ → ℕ → ℕ → Sum ℕ
dcs_sum t a d = decimal_sum_of t a (inverted d) (has_flag t CF)

unfoldable pub dca_of : Lh5801 → ℕ → Lh5801
dca_of m d = with_sum m (dca_sum m.t m.a d)

unfoldable pub dcs_of : Lh5801 → ℕ → Lh5801
dcs_of m d = with_sum m (dcs_sum m.t m.a d)

-- two digits in a byte, and the number that they write
pub record Digits (b : ℕ) : Type 0 where
  pub high : b / 16 ≤ 9
  pub low : b % 16 ≤ 9

abbrev pub value_of : ℕ → ℕ
value_of b = b / 16 * 10 + b % 16

-- C of T as a number
abbrev pub carry_bit : ℕ → ℕ
carry_bit t = bit_of (has_flag t CF)

-- "On valid digits DCA gives (A + operand + C) mod 100 with C set exactly when that sum reaches 100". The equation says both at once, and
-- adds up over a column of bytes
pub record DcaDigits (t a d : ℕ) : Type 0 where
  pub digits : Digits (dca_sum t a d).value
  pub equation : value_of (dca_sum t a d).value + 100 * carry_bit (dca_sum t a d).t ≡ value_of a + value_of d + carry_bit t
  pub value : value_of (dca_sum t a d).value ≡ (value_of a + value_of d + carry_bit t) % 100
  pub carry : has_flag (dca_sum t a d).t CF ≡ nat_le 100 (value_of a + value_of d + carry_bit t)

-- "and DCS (A − operand − 1 + C) mod 100 with C set exactly when nothing was borrowed", which is where A + C is at least operand + 1. Modulo
-- 100, what is taken away is added as what it lacks to 100
pub record DcsDigits (t a d : ℕ) : Type 0 where
  pub digits : Digits (dcs_sum t a d).value
  pub equation : value_of (dcs_sum t a d).value + value_of d + 1 ≡ value_of a + carry_bit t + 100 * (1 - carry_bit (dcs_sum t a d).t)
  pub value : value_of (dcs_sum t a d).value ≡ (value_of a + carry_bit t + (100 - (value_of d + 1))) % 100
  pub carry : has_flag (dcs_sum t a d).t CF ≡ nat_le (value_of d + 1) (value_of a + carry_bit t)
