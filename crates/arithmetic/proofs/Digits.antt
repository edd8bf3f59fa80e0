-- The digit laws of DCA and DCS: 40,000 sums that antt computes, and what they say of valid digits.
use Rattle.std.proofs.Common.{◌≡◌, ℕ, ◌+◌, ◌-◌, ◌*◌, ◌/◌, ◌%◌, ◌<◌, Bool, true, false, T, eqb, leb, sym, arith, eqb→eq, leb→le, le-leb}
use borrow.Author.Tests.{lt-leb}
use Rattle.arithmetic.specs.Flags.{CF, bit_of, has_flag}
use Rattle.arithmetic.specs.Sums.{total, add_of, inverted}
use Rattle.arithmetic.specs.Decimal.{plus66, adjust, decimal_sum_of, dca_sum, dcs_sum, Digits, value_of, DcaDigits, DcsDigits}
use Rattle.arithmetic.proofs.Compute.{both, both_left, both_right, at_both, at_bool, every, test_at}
use Rattle.arithmetic.proofs.Flags.{add_flags}

-- what a decimal sum gives, with C and H put as the tests of the sum that they are
carries : ℕ → ℕ → Bool → Bool
carries l r c = leb 256 (total l r c)

result : ℕ → ℕ → Bool → ℕ
result l r c = (total l r c % 256 + adjust (carries l r c) (leb 16 (total (l % 16) (r % 16) c))) % 256

module _ (t : ℕ) (small : t < 256) (l r : ℕ) (c : Bool) where
  carry_is : has_flag (decimal_sum_of t l r c).t CF ≡ carries l r c
  unfolding decimal_sum_of carries
  carry_is = (add_flags t small l r c).carry

  value_is : (decimal_sum_of t l r c).value ≡ result l r c
  unfolding decimal_sum_of result carries add_of
  value_is = rw ((add_flags t small l r c).carry, (add_flags t small l r c).half)

-- the byte that writes a number below 100
digits_of : ℕ → ℕ
digits_of n = n / 10 * 16 + n % 10

-- valid digits write the number that their value is
module _ (b : ℕ) (h : Digits b) where
  below_hundred : value_of b < 100
  below_hundred = omega (arith, h.high, h.low)

  digits_back : digits_of (value_of b) ≡ b
  unfolding digits_of
  digits_back = omega (arith, h.high, h.low)

-- a test passes at all numbers below 100 and both carries
abbrev everywhere : (ℕ → ℕ → Bool → Bool) → Bool
everywhere f = every (λ k. at_both (f (k / 100) (k % 100))) 0 10000

row : (m n : ℕ) → n < 100 → (m * 100 + n) / 100 ≡ m
row m n h = omega arith

column : (m n : ℕ) → n < 100 → (m * 100 + n) % 100 ≡ n
column m n h = omega arith

anywhere : (f : ℕ → ℕ → Bool → Bool) → T (everywhere f) → (m n : ℕ) → m < 100 → n < 100 → (c : Bool) → T (f m n c)
anywhere f all m n hm hn c =
    rw (row m n hn, column m n hn)
    at (at_bool (f ((m * 100 + n) / 100) ((m * 100 + n) % 100)) (test_at (λ k. at_both (f (k / 100) (k % 100))) 10000 all (m * 100 + n) (omega arith)) c)

-- the byte v has valid digits
valid : ℕ → Bool
valid v = both (leb (v / 16) 9) (leb (v % 16) 9)

valid_digits : (v : ℕ) → T (valid v) → Digits v
unfolding valid
valid_digits v t =
    record {
      high = leb→le (v / 16) 9 (both_left (leb (v / 16) 9) (leb (v % 16) 9) t);
      low = leb→le (v % 16) 9 (both_right (leb (v / 16) 9) (leb (v % 16) 9) t);
    }

-- a decimal sum has valid digits, and its value and its carry pass a test
abbrev decimal_right : ℕ → ℕ → Bool → (ℕ → Bool → Bool) → Bool
decimal_right l r c test = both (valid (result l r c)) (test (value_of (result l r c)) (carries l r c))

decimal_is : (t : ℕ) → t < 256 → (l r : ℕ) (c : Bool) (test : ℕ → Bool → Bool) → T (decimal_right l r c test)
    → Digits (decimal_sum_of t l r c).value × T (test (value_of (decimal_sum_of t l r c).value) (has_flag (decimal_sum_of t l r c).t CF))
decimal_is t small l r c test h =
    rw (value_is t small l r c, carry_is t small l r c)
    (valid_digits (result l r c) (both_left (valid (result l r c)) _ h), both_right (valid (result l r c)) _ h)

-- DCA's rule at the bytes of m and n
dca_right : ℕ → ℕ → Bool → Bool
dca_right m n c = decimal_right (plus66 (digits_of m)) (digits_of n) c (λ v carry. eqb (v + 100 * bit_of carry) (m + n + bit_of c))

dca_all : T (everywhere dca_right)
unfolding dca_right digits_of valid result carries
dca_all = tt

-- DCS's
dcs_right : ℕ → ℕ → Bool → Bool
dcs_right m n c = decimal_right (digits_of m) (inverted (digits_of n)) c (λ v carry. eqb (v + n + 1) (m + bit_of c + 100 * (1 - bit_of carry)))

dcs_all : T (everywhere dcs_right)
unfolding dcs_right digits_of valid result carries
dcs_all = tt

-- a value below 100 with the hundreds of a carry: the sum modulo 100, and the carry set exactly where the sum reaches 100
sum_carry : (c : Bool) (v s : ℕ) → v < 100 → v + 100 * bit_of c ≡ s → c ≡ leb 100 s
sum_carry true v s h e = sym (le-leb 100 s (omega arith))
sum_carry false v s h e = sym (lt-leb 100 s (omega arith))

-- the same with what was borrowed
difference_carry : (c : Bool) (v s d : ℕ) → v < 100 → d < 100 → v + d + 1 ≡ s + 100 * (1 - bit_of c) → c ≡ leb (d + 1) s
difference_carry true v s d h k e = sym (le-leb (d + 1) s (omega arith))
difference_carry false v s d h k e = sym (lt-leb (d + 1) s (omega arith))

difference_value : (c : Bool) (v s d : ℕ) → v < 100 → d < 100 → v + d + 1 ≡ s + 100 * (1 - bit_of c) → v ≡ (s + (100 - (d + 1))) % 100
difference_value true v s d h k e = omega arith
difference_value false v s d h k e = omega arith

module _ (t a d : ℕ) (small : t < 256) (ha : Digits a) (hd : Digits d) where
  at_digits : (f : ℕ → ℕ → Bool → Bool) → T (everywhere f) → T (f (value_of a) (value_of d) (has_flag t CF))
  at_digits f all = anywhere f all (value_of a) (value_of d) (below_hundred a ha) (below_hundred d hd) (has_flag t CF)

  pub dca_digits : DcaDigits t a d
  unfolding dca_sum dca_right
  dca_digits =
      let c : Bool = has_flag t CF in
      let l : ℕ = plus66 a in
      let right = rw (digits_back a ha, digits_back d hd) at (at_digits dca_right dca_all) in
      let sum = decimal_is t small l d c (λ v carry. eqb (v + 100 * bit_of carry) (value_of a + value_of d + bit_of c)) right in
      let equation = eqb→eq _ _ sum.1 in
      record {
        digits = sum.0;
        equation = equation;
        value = omega (arith, below_hundred _ sum.0, equation);
        carry = sum_carry _ _ _ (below_hundred _ sum.0) equation;
      }

  pub dcs_digits : DcsDigits t a d
  unfolding dcs_sum dcs_right
  dcs_digits =
      let c : Bool = has_flag t CF in
      let r : ℕ = inverted d in
      let right = rw (digits_back a ha, digits_back d hd) at (at_digits dcs_right dcs_all) in
      let sum = decimal_is t small a r c (λ v carry. eqb (v + value_of d + 1) (value_of a + bit_of c + 100 * (1 - bit_of carry))) right in
      let equation = eqb→eq _ _ sum.1 in
      record {
        digits = sum.0;
        equation = equation;
        value = difference_value (has_flag (decimal_sum_of t a r c).t CF) _ _ _ (below_hundred _ sum.0) (below_hundred d hd) equation;
        carry = difference_carry (has_flag (decimal_sum_of t a r c).t CF) _ _ _ (below_hundred _ sum.0) (below_hundred d hd) equation;
      }
