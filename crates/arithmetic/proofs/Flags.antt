-- What T tells after its flags were set.
use Rattle.std.proofs.Common.{◌≡◌, ℕ, ◌+◌, ◌-◌, ◌*◌, ◌/◌, ◌%◌, ◌^◌, ◌<◌, Bool, true, false, cond, T, eqb, leb, refl, arith, eqb→eq, leb-false, leb-true}
use lib.Bits.{bit_and}
use Rattle.arithmetic.specs.Flags.{CF, IE, ZF, VF, HF, bit_of, has_flag, set_flag, check_z, with_flags, FlagsAre, OnlyFlag}
use Rattle.arithmetic.specs.Sums.{total, overflow_of, add_of, adr_of, AddFlags}
use Rattle.arithmetic.specs.Decimal.{decimal_sum_of}
use Rattle.arithmetic.specs.Logic.{lda_of, tta_of}
use Rattle.arithmetic.specs.Record.{with_a, with_t}
use Rattle.arithmetic.specs.declared.record.Lh5801.{Lh5801}
use Rattle.arithmetic.proofs.Compute.{both, both_left, both_right, same, same_eq, at_both, at_bool, every, test_at}

-- all that FlagsAre says, as a test
flags_hold : ℕ → Bool → Bool → Bool → Bool → Bool
flags_hold t c z v h =
    let n : ℕ = with_flags t c z v h in
    both (same (has_flag n CF) c)
    (both (same (has_flag n ZF) z)
    (both (same (has_flag n VF) v)
    (both (same (has_flag n HF) h)
    (both (same (has_flag n IE) (has_flag t IE)) (eqb (n / 32) (t / 32))))))

all_flags_hold : T (every (λ t. at_both (λ c. at_both (λ z. at_both (λ v. at_both (λ h. flags_hold t c z v h))))) 0 256)
unfolding flags_hold with_flags
all_flags_hold = tt

module _ (t : ℕ) (small : t < 256) (c z v h : Bool) where
  at_flags : T (flags_hold t c z v h)
  at_flags =
      at_bool (λ h. flags_hold t c z v h)
      (at_bool (λ v. at_both (λ h. flags_hold t c z v h))
      (at_bool (λ z. at_both (λ v. at_both (λ h. flags_hold t c z v h)))
      (at_bool (λ c. at_both (λ z. at_both (λ v. at_both (λ h. flags_hold t c z v h))))
      (test_at (λ t. at_both (λ c. at_both (λ z. at_both (λ v. at_both (λ h. flags_hold t c z v h))))) 256 all_flags_hold t small) c) z) v) h

  pub flags_are : FlagsAre t c z v h (with_flags t c z v h)
  unfolding flags_hold
  flags_are =
      let n : ℕ = with_flags t c z v h in
      let r1 = both_right (same (has_flag n CF) c) _ at_flags in
      let r2 = both_right (same (has_flag n ZF) z) _ r1 in
      let r3 = both_right (same (has_flag n VF) v) _ r2 in
      let r4 = both_right (same (has_flag n HF) h) _ r3 in
      record {
        carry = same_eq _ _ (both_left (same (has_flag n CF) c) _ at_flags);
        zero = same_eq _ _ (both_left (same (has_flag n ZF) z) _ r1);
        overflow = same_eq _ _ (both_left (same (has_flag n VF) v) _ r2);
        half = same_eq _ _ (both_left (same (has_flag n HF) h) _ r3);
        enable = same_eq _ _ (both_left (same (has_flag n IE) (has_flag t IE)) _ r4);
        upper = eqb→eq _ _ (both_right (same (has_flag n IE) (has_flag t IE)) _ r4);
      }

-- add's four flags, each as document 01 words it
pub add_flags : (t : ℕ) → t < 256 → (left right : ℕ) (carry : Bool) → AddFlags t left right carry
unfolding add_of
add_flags t small left right carry =
    flags_are t small (leb 256 (total left right carry)) (eqb (total left right carry % 256) 0)
    (overflow_of left right (total left right carry % 256))
    (leb 16 (total (left % 16) (right % 16) carry))

-- one bit of T set or cleared, all others kept: a flag of T is one of these bits
kept : ℕ → ℕ → Bool → Bool
kept t mask v =
    both (same (has_flag (set_flag t mask v) mask) v) (eqb (bit_and (set_flag t mask v) (255 - mask)) (bit_and t (255 - mask)))

all_kept : T (every (λ i. every (λ t. at_both (kept t (2 ^ i))) 0 256) 0 8)
unfolding kept
all_kept = tt

pub only_flag : (i t : ℕ) → i < 8 → t < 256 → (v : Bool) → OnlyFlag t (2 ^ i) v (set_flag t (2 ^ i) v)
unfolding kept
only_flag i t hi ht v =
    let k : T (kept t (2 ^ i) v) =
    at_bool (kept t (2 ^ i)) (test_at (λ t. at_both (kept t (2 ^ i))) 256 (test_at (λ i. every (λ t. at_both (kept t (2 ^ i))) 0 256) 8 all_kept i hi) t ht) v in
    record {
      given = same_eq _ _ (both_left (same (has_flag (set_flag t (2 ^ i) v) (2 ^ i)) v) _ k);
      others = eqb→eq _ _ (both_right (same (has_flag (set_flag t (2 ^ i) v) (2 ^ i)) v) _ k);
    }

-- TTA's two tests of Z: T 04 stays 04, every other T loses Z
tta_holds : ℕ → Bool
tta_holds t = eqb (check_z (check_z t t) (check_z t t)) (cond (eqb t 4) 4 (bit_and t 0xFB))

tta_all : T (every tta_holds 0 256)
unfolding tta_holds
tta_all = tt

pub tta_z : (m : Lh5801) → m.t < 256 → (tta_of m).t ≡ cond (eqb m.t 4) 4 (bit_and m.t 0xFB)
unfolding tta_of lda_of with_a with_t tta_holds
tta_z m small = eqb→eq _ _ (test_at tta_holds 256 tta_all m.t small)

-- the flags of a decimal sum are those of the sum before the correction
pub decimal_flags : (t left right : ℕ) (carry : Bool) → (decimal_sum_of t left right carry).t ≡ (add_of t left right carry).t
unfolding decimal_sum_of
decimal_flags t left right carry = refl

-- ADR's two halves are the sum of 16 bits
pub adr_sum : (t reg a : ℕ) → t < 256 → reg < 65536 → a < 256 → (adr_of t reg a).value ≡ (reg + a) % 65536
unfolding adr_of add_of
adr_sum t reg a ht hr ha = rw (add_flags t ht (reg % 256) a false).carry (go (leb 256 (total (reg % 256) a false)) refl)
  where
    go : (c : Bool) → leb 256 (total (reg % 256) a false) ≡ c
        → (reg / 256 + bit_of c) % 256 * 256 + total (reg % 256) a false % 256 ≡ (reg + a) % 65536
    go true h = omega (arith, leb-true 256 (total (reg % 256) a false) h)
    go false h = omega (arith, leb-false 256 (total (reg % 256) a false) h)
