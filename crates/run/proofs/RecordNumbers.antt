-- Laws of a record as numbers: a record's numbers give it back, and flags of nine bits are those of their record.
use Rattle.std.proofs.Common.{◌≡◌, ℕ, zero, suc, ◌+◌, ◌*◌, ◌/◌, ◌%◌, ◌<◌, ◌≤◌, Bool, true, false, eqb, List, [], ◌∷◌, ◌++◌, length, get_or, drop, refl, ap, ◌∙◌, arith, drop_of_length-le, drop-cons}
use Rattle.arithmetic.specs.declared.record.Lh5801.{Lh5801}
use Rattle.std.specs.Int.{from_bool}
use Rattle.arithmetic.specs.Flags.{bit_of}
use Rattle.arithmetic.proofs.Bytes.{bit_small}
use Rattle.run.specs.RecordNumbers.{flags_of, record_numbers, record_of, AllWithin}

-- ---- numbers within others

pub within_at : (mosts values : List ℕ) → AllWithin mosts values → (i : ℕ) → i < length mosts → get_or values i 0 ≤ get_or mosts i 0
within_at [] values h i l = absurd (omega arith)
within_at (most ∷ mosts) [] h i l = absurd h
within_at (most ∷ mosts) (value ∷ values) h zero l = h.0
within_at (most ∷ mosts) (value ∷ values) h (suc i) l = within_at mosts values h.1 i (omega arith)

pub within_length : (mosts values : List ℕ) → AllWithin mosts values → length mosts ≤ length values
within_length [] values h = omega arith
within_length (most ∷ mosts) [] h = absurd h
within_length (most ∷ mosts) (value ∷ values) h = let l = within_length mosts values h.1 in omega arith

pub within_wider : (wider mosts values : List ℕ) → AllWithin wider mosts → AllWithin mosts values → AllWithin wider values
within_wider [] mosts values w h = tt
within_wider (wide ∷ wider) [] values w h = absurd w
within_wider (wide ∷ wider) (most ∷ mosts) [] w h = absurd h
within_wider (wide ∷ wider) (most ∷ mosts) (value ∷ values) w h = (omega (arith, w.0, h.0), within_wider wider mosts values w.1 h.1)

pub within_append : (mosts values more others : List ℕ) → length values ≡ length mosts → AllWithin mosts values → AllWithin more others
    → AllWithin (mosts ++ more) (values ++ others)
within_append [] [] more others e h g = g
within_append [] (value ∷ values) more others e h g = absurd (omega arith)
within_append (most ∷ mosts) [] more others e h g = absurd h
within_append (most ∷ mosts) (value ∷ values) more others e h g = (h.0, within_append mosts values more others (omega arith) h.1 g)

-- ---- from a record to its numbers and back

-- `u16::from` of a flag is its bit
pub from_bool_bit : (b : Bool) → from_bool b ≡ bit_of b
from_bool_bit true = refl
from_bool_bit false = refl

bit_is : (b : Bool) → eqb (bit_of b) 1 ≡ b
bit_is true = refl
bit_is false = refl

-- each bit of the flags is at most 1
record Bits (m : Lh5801) : Type 0 where
  halted : bit_of m.is_halted ≤ 1
  pu : bit_of m.pu ≤ 1
  pv : bit_of m.pv ≤ 1
  bf : bit_of m.bf ≤ 1
  disp : bit_of m.disp ≤ 1
  ir0 : bit_of m.ir0 ≤ 1
  ir1 : bit_of m.ir1 ≤ 1
  ir2 : bit_of m.ir2 ≤ 1
  reached : bit_of m.is_timer_reached ≤ 1

bits : (m : Lh5801) → Bits m
bits m = record {
  halted = bit_small m.is_halted;
  pu = bit_small m.pu;
  pv = bit_small m.pv;
  bf = bit_small m.bf;
  disp = bit_small m.disp;
  ir0 = bit_small m.ir0;
  ir1 = bit_small m.ir1;
  ir2 = bit_small m.ir2;
  reached = bit_small m.is_timer_reached;
}

-- every record's flags are within their bound
pub flags_small : (m : Lh5801) → flags_of m ≤ 511
unfolding flags_of
flags_small m = let b = bits m in omega arith

flag_back : (b : Bool) (n : ℕ) → n ≡ bit_of b → eqb n 1 ≡ b
flag_back b n e = ap (λ (k : ℕ). eqb k 1) e ∙ bit_is b

-- whatever follows the twelve numbers
pub record_in : (m : Lh5801) (more : List ℕ) → record_of (record_numbers m ++ more) ≡ m
unfolding record_of flags_of
record_in m more =
    let b = bits m in
    rw (
      flag_back m.is_halted (flags_of m % 2) (omega arith),
      flag_back m.pu (flags_of m / 2 % 2) (omega arith),
      flag_back m.pv (flags_of m / 4 % 2) (omega arith),
      flag_back m.bf (flags_of m / 8 % 2) (omega arith),
      flag_back m.disp (flags_of m / 16 % 2) (omega arith),
      flag_back m.ir0 (flags_of m / 32 % 2) (omega arith),
      flag_back m.ir1 (flags_of m / 64 % 2) (omega arith),
      flag_back m.ir2 (flags_of m / 128 % 2) (omega arith),
      flag_back m.is_timer_reached (flags_of m / 256 % 2) (omega arith),
    )

pub record_back : (m : Lh5801) → record_of (record_numbers m) ≡ m
record_back m = record_in m []

-- ---- from numbers to a record and back

bit_of_lem : (k : ℕ) → k < 2 → bit_of (eqb k 1) ≡ k
bit_of_lem zero h = refl
bit_of_lem (suc zero) h = refl
bit_of_lem (suc (suc k)) h = absurd (omega arith)

-- a number is put together from its halves again
sum_up : (f q1 q2 q3 q4 q5 q6 q7 q8 b0 b1 b2 b3 b4 b5 b6 b7 b8 : ℕ) → f ≡ b0 + 2 * q1 → q1 ≡ b1 + 2 * q2 → q2 ≡ b2 + 2 * q3 → q3 ≡ b3 + 2 * q4 → q4 ≡ b4 + 2 * q5 → q5 ≡ b5 + 2 * q6 → q6 ≡ b6 + 2 * q7 → q7 ≡ b7 + 2 * q8 → q8 ≡ b8 → b0 + 2 * b1 + 4 * b2 + 8 * b3 + 16 * b4 + 32 * b5 + 64 * b6 + 128 * b7 + 256 * b8 ≡ f
sum_up f q1 q2 q3 q4 q5 q6 q7 q8 b0 b1 b2 b3 b4 b5 b6 b7 b8 h0 h1 h2 h3 h4 h5 h6 h7 h8 = omega arith

bits_sum : (f : ℕ) → f ≤ 511 → f % 2 + 2 * (f / 2 % 2) + 4 * (f / 4 % 2) + 8 * (f / 8 % 2) + 16 * (f / 16 % 2) + 32 * (f / 32 % 2) + 64 * (f / 64 % 2) + 128 * (f / 128 % 2) + 256 * (f / 256 % 2) ≡ f
bits_sum f h =
    sum_up f (f / 2) (f / 4) (f / 8) (f / 16) (f / 32) (f / 64) (f / 128) (f / 256) (f % 2) (f / 2 % 2) (f / 4 % 2) (f / 8 % 2) (f / 16 % 2) (f / 32 % 2) (f / 64 % 2)
    (f / 128 % 2) (f / 256 % 2) (omega arith) (omega arith) (omega arith) (omega arith) (omega arith) (omega arith) (omega arith) (omega arith) (omega arith)

pub flags_back : (numbers : List ℕ) → get_or numbers 8 0 ≤ 511 → flags_of (record_of numbers) ≡ get_or numbers 8 0
unfolding flags_of record_of
flags_back numbers h =
    let f = get_or numbers 8 0 in
    rw (
      bit_of_lem (f % 2) (omega arith),
      bit_of_lem (f / 2 % 2) (omega arith),
      bit_of_lem (f / 4 % 2) (omega arith),
      bit_of_lem (f / 8 % 2) (omega arith),
      bit_of_lem (f / 16 % 2) (omega arith),
      bit_of_lem (f / 32 % 2) (omega arith),
      bit_of_lem (f / 64 % 2) (omega arith),
      bit_of_lem (f / 128 % 2) (omega arith),
      bit_of_lem (f / 256 % 2) (omega arith),
    )
    (bits_sum f h)

-- so many elements of a list, from a place on
abbrev pub elements : ℕ → ℕ → List ℕ → List ℕ
elements from zero l = []
elements from (suc more) l = get_or l from 0 ∷ elements (suc from) more l

pub elements_are : (from more : ℕ) (l : List ℕ) → length l ≡ from + more → drop from l ≡ elements from more l
elements_are from zero l e = drop_of_length-le l {i = from} (omega arith)
elements_are from (suc more) l e =
    drop-cons l from 0 (omega arith) ∙ ap (λ (r : List ℕ). get_or l from 0 ∷ r) (elements_are (suc from) more l (omega arith))
