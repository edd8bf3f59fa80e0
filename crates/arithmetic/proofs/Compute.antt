-- Tests that antt computes over all numbers below a bound and over both truth values, and what they say at each.
use Rattle.std.proofs.Common.{◌≡◌, ℕ, zero, suc, ◌+◌, ◌<◌, Bool, true, false, T, sym, refl, ◌∙◌, subst, le_of_suc-le-suc, not-suc-le-zero, add-zero, add-suc, suc-add, zero-add}

abbrev pub both : Bool → Bool → Bool
both true b = b
both false b = false

pub both_left : (a b : Bool) → T (both a b) → T a
both_left true b t = tt
both_left false b t = t

pub both_right : (a b : Bool) → T (both a b) → T b
both_right true b t = t
both_right false b t = absurd t

abbrev pub same : Bool → Bool → Bool
same true b = b
same false true = false
same false false = true

pub same_eq : (a b : Bool) → T (same a b) → a ≡ b
same_eq true true t = refl
same_eq true false t = absurd t
same_eq false true t = absurd t
same_eq false false t = refl

-- the test f passes at both truth values
abbrev pub at_both : (Bool → Bool) → Bool
at_both f = both (f true) (f false)

pub at_bool : (f : Bool → Bool) → T (at_both f) → (b : Bool) → T (f b)
at_bool f t true = both_left (f true) (f false) t
at_bool f t false = both_right (f true) (f false) t

-- the test f passes at the n numbers from i
abbrev pub every : (ℕ → Bool) → ℕ → ℕ → Bool
every f i zero = true
every f i (suc n) = both (f i) (every f (suc i) n)

from : (f : ℕ → Bool) (n i : ℕ) → T (every f i n) → (k : ℕ) → k < n → T (f (i + k))
from f zero i t k h = absurd (not-suc-le-zero h)
from f (suc n) i t zero h = subst (λ (m : ℕ). T (f m)) (sym (add-zero i)) (both_left (f i) (every f (suc i) n) t)
from f (suc n) i t (suc k) h =
    subst (λ (m : ℕ). T (f m)) (suc-add i k ∙ sym (add-suc i k))
    (from f n (suc i) (both_right (f i) (every f (suc i) n) t) k (le_of_suc-le-suc h))

-- what the test says, at each number below n
pub test_at : (f : ℕ → Bool) (n : ℕ) → T (every f 0 n) → (k : ℕ) → k < n → T (f k)
test_at f n t k h = subst (λ (m : ℕ). T (f m)) (zero-add k) (from f n 0 t k h)
