-- The printed line (document 01, "Campaign file"): "number, steps, states; A T (2 hex digits) X Y U S P (4) TM flags (3); timer states,
-- previous, ticks. Hex digits are capitals, the rest decimal; a newline ends the line. For 8 to 10: number and offset."
use Rattle.std.specs.Prelude.{◌≡◌, ℕ, zero, suc, ◌+◌, ◌/◌, ◌%◌, cond, List, [], ◌∷◌, ◌++◌, length, take, drop, nat_lt}
use Rattle.arithmetic.specs.declared.record.Lh5801.{Lh5801}
use Rattle.run.specs.RecordNumbers.{flags_of}

-- the characters
abbrev pub space : ℕ
space = 32

abbrev pub newline : ℕ
newline = 10

-- the digits of a number, of which there are at most so many as the first argument says
abbrev pub decimal_digits : ℕ → ℕ → List ℕ
decimal_digits zero value = []
decimal_digits (suc more) value = cond (nat_lt value 10) ((48 + value) ∷ []) (decimal_digits more (value / 10) ++ ((48 + value % 10) ∷ []))

-- a number below 10 ^ 20 in decimal digits, without leading zeros
unfoldable pub decimal_of : ℕ → List ℕ
decimal_of value = decimal_digits 20 value

abbrev pub hex_digit : ℕ → ℕ
hex_digit digit = cond (nat_lt digit 10) (48 + digit) (55 + digit)

-- the lowest hex digits of a number, so many as the first argument says
unfoldable pub hex_of : ℕ → ℕ → List ℕ
hex_of zero value = []
hex_of (suc more) value = hex_of more (value / 16) ++ (hex_digit (value % 16) ∷ [])

-- single spaces between the fields, and a newline at the end
abbrev pub joined : List (List ℕ) → List ℕ
joined [] = newline ∷ []
joined (field ∷ []) = field ++ (newline ∷ [])
joined (field ∷ next ∷ fields) = field ++ (space ∷ joined (next ∷ fields))

-- the line's fields: "number, steps, states"
abbrev pub count_fields : ℕ → ℕ → ℕ → List (List ℕ)
count_fields number steps states = decimal_of number ∷ decimal_of steps ∷ decimal_of states ∷ []

-- "A T (2 hex digits) X Y U S P (4) TM flags (3)"
abbrev pub register_fields : Lh5801 → List (List ℕ)
register_fields m =
    hex_of 2 m.a ∷ hex_of 2 m.t ∷ hex_of 4 m.x ∷ hex_of 4 m.y ∷ hex_of 4 m.u ∷ hex_of 4 m.s ∷ hex_of 4 m.p ∷ hex_of 3 m.tm
    ∷ hex_of 3 (flags_of m) ∷ []

-- "timer states, previous, ticks"
abbrev pub counter_fields : Lh5801 → List (List ℕ)
counter_fields m = decimal_of m.timer_state ∷ decimal_of m.step_previous_state ∷ decimal_of m.ticks ∷ []

unfoldable pub line_of : ℕ → ℕ → ℕ → Lh5801 → List ℕ
line_of number steps states m = joined (count_fields number steps states ++ register_fields m ++ counter_fields m)

-- "For 8 to 10: number and offset."
unfoldable pub refusal_line_of : ℕ → ℕ → List ℕ
refusal_line_of number offset = joined (decimal_of number ∷ decimal_of offset ∷ [])

-- a line at the start of the buffer, whose length is returned
pub record Printed (before : List ℕ) (bytes : List ℕ) (after : List ℕ) (r : ℕ) : Type 0 where
  pub length_is : r ≡ length bytes
  pub bytes_are : take r after ≡ bytes
  pub rest_kept : drop r after ≡ drop r before
