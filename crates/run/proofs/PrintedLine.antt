-- Laws of the printed line: one piece after another, and the digits of a number.
use Rattle.std.proofs.Common.{◌≡◌, ℕ, zero, suc, ◌+◌, ◌-◌, ◌*◌, ◌/◌, ◌%◌, ◌^◌, ◌<◌, ◌≤◌, Bool, true, false, cond, ltb, List, [], ◌∷◌, ◌++◌, length, sym, ap, ◌∙◌, ⊎_elim, append_assoc, append-nil, pow-suc, arith, length-append, le-ltb, lt-ltb}
use Rattle.run.specs.Line.{space, decimal_digits, decimal_of, hex_digit, hex_of}
use Rattle.run.specs.Code.LineParts.{spaced}
use Rattle.run.proofs.CampaignFile.Groups.{lt_or_ge}

-- ---- one piece after another

-- fields, each with its space, put one after another
abbrev pub gathered : List ℕ → List (List ℕ) → List ℕ
gathered so [] = so
gathered so (field ∷ fields) = gathered (so ++ field ++ (space ∷ [])) fields

pub gathered_is : (so : List ℕ) (fields : List (List ℕ)) → gathered so fields ≡ so ++ spaced fields
gathered_is so [] = sym (append-nil so)
gathered_is so (field ∷ fields) = gathered_is (so ++ field ++ (space ∷ [])) fields ∙ simp append_assoc

-- ---- digits

pub hex_more : (digits value : ℕ) → (digits ≡ 0 → ⊥) → hex_of digits value ≡ hex_of (digits - 1) (value / 16) ++ (hex_digit (value % 16) ∷ [])
unfolding hex_of
hex_more digits value h =
    let e : digits ≡ suc (digits - 1) = omega arith in
    ap (λ (n : ℕ). hex_of n value) e

length_digits : (digits value : ℕ) → length (decimal_digits digits value) ≤ digits
length_digits zero value = omega arith
length_digits (suc more) value = go (ltb value 10) (length_digits more (value / 10))
  where
    go : (t : Bool) → length (decimal_digits more (value / 10)) ≤ more
        → length (cond t ((48 + value) ∷ []) (decimal_digits more (value / 10) ++ ((48 + value % 10) ∷ []))) ≤ suc more
    go true h = omega arith
    go false h = rw length-append (omega arith)

pub length_decimal : (value : ℕ) → length (decimal_of value) ≤ 20
unfolding decimal_of
length_decimal value = length_digits 20 value

-- a number that has no more digits is written alike with room for one more
more_room : (more value : ℕ) → value < 10 ^ suc more → decimal_digits (suc more) value ≡ decimal_digits (suc (suc more)) value
more_room zero value h =
    let small : value < 10 = h in
    rw (lt-ltb value 10 small)
more_room (suc more) value h =
    let p : 10 ^ suc (suc more) ≡ 10 ^ suc more * 10 = pow-suc 10 (suc more) in
    ⊎_elim one (several (more_room more (value / 10) (omega arith))) (lt_or_ge value 10)
  where
    one : value < 10 → decimal_digits (suc (suc more)) value ≡ decimal_digits (suc (suc (suc more))) value
    one g = rw (lt-ltb value 10 g)

    several : decimal_digits (suc more) (value / 10) ≡ decimal_digits (suc (suc more)) (value / 10) → 10 ≤ value
        → decimal_digits (suc (suc more)) value ≡ decimal_digits (suc (suc (suc more))) value
    several rest g = rw (le-ltb value 10 g) (ap (λ (l : List ℕ). l ++ ((48 + value % 10) ∷ [])) rest)

pub decimal_one : (value : ℕ) → value < 10 → decimal_of value ≡ (48 + value) ∷ []
unfolding decimal_of
decimal_one value h = rw (lt-ltb value 10 h)

pub decimal_more : (value : ℕ) → value < 2 ^ 64 → 10 ≤ value → decimal_of value ≡ decimal_of (value / 10) ++ ((48 + value % 10) ∷ [])
unfolding decimal_of
decimal_more value top h = rw (le-ltb value 10 h) (ap (λ (l : List ℕ). l ++ ((48 + value % 10) ∷ [])) (more_room 18 (value / 10) (omega arith)))

pub length_one : (value : ℕ) → value < 10 → length (decimal_of value) ≡ 1
length_one value h = ap length (decimal_one value h)

pub length_more : (value : ℕ) → value < 2 ^ 64 → 10 ≤ value → length (decimal_of value) ≡ length (decimal_of (value / 10)) + 1
length_more value top h = ap length (decimal_more value top h) ∙ length-append (decimal_of (value / 10)) ((48 + value % 10) ∷ [])
