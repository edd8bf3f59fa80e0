-- Laws of bytes.
use Rattle.std.proofs.Common.{◌≡◌, ℕ, ◌*◌, ◌/◌, ◌^◌, ◌<◌, ◌≤◌, Bool, true, false, T, eqb, leb, arith, eqb→eq}
use Rattle.arithmetic.specs.Flags.{bit_of}
use Rattle.arithmetic.proofs.Compute.{every, test_at}

-- a number below twice a power of two has at most one of it, and that is a flag
overs : T (every (λ i. every (λ n. eqb (n / 2 ^ i) (bit_of (leb (2 ^ i) n))) 0 (2 * 2 ^ i)) 0 9)
overs = tt

pub over : (i n : ℕ) → i < 9 → n < 2 * 2 ^ i → n / 2 ^ i ≡ bit_of (leb (2 ^ i) n)
over i n hi hn =
    eqb→eq _ _
    (test_at (λ n. eqb (n / 2 ^ i) (bit_of (leb (2 ^ i) n))) (2 * 2 ^ i)
    (test_at (λ i. every (λ n. eqb (n / 2 ^ i) (bit_of (leb (2 ^ i) n))) 0 (2 * 2 ^ i)) 9 overs i hi) n hn)

-- a flag as a number is 0 or 1
pub bit_small : (b : Bool) → bit_of b ≤ 1
bit_small true = omega arith
bit_small false = omega arith
