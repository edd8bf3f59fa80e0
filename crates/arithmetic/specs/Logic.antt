-- Loads and logic on A: only Z of T changes.
use Rattle.std.specs.Prelude.{ℕ, bit_and, bit_or, bit_xor}
use Rattle.arithmetic.specs.declared.record.Lh5801.{Lh5801}
use Rattle.arithmetic.specs.Record.{with_a, with_t}
use Rattle.arithmetic.specs.Flags.{check_z}

-- A loaded, and Z from it
unfoldable pub lda_of : Lh5801 → ℕ → Lh5801
lda_of m d = with_t (with_a m d) (check_z m.t d)

unfoldable pub and_of : Lh5801 → ℕ → Lh5801
and_of m d = lda_of m (bit_and m.a d)

unfoldable pub ora_of : Lh5801 → ℕ → Lh5801
ora_of m d = lda_of m (bit_or m.a d)

unfoldable pub eor_of : Lh5801 → ℕ → Lh5801
eor_of m d = lda_of m (bit_xor m.a d)

-- BIT: Z from the two bytes' common bits
unfoldable pub bit_test_of : Lh5801 → ℕ → ℕ → Lh5801
bit_test_of m l r = with_t m (check_z m.t (bit_and l r))

-- TTA (FD AA): T to A with Z from it, and then Z once more, from the T so changed
unfoldable pub tta_of : Lh5801 → Lh5801
tta_of m =
    let once : Lh5801 = lda_of m m.t in
    with_t once (check_z once.t once.t)
