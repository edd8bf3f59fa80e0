-- The write mark of an entry, and when the writes in two entries are the same.
use Rattle.std.proofs.Common.{◌≡◌, ℕ, zero, suc, ◌+◌, ◌-◌, ◌*◌, ◌/◌, ◌%◌, ◌<◌, ◌≢◌, Bool, true, false, not, ◌&&◌, eqb, bit_and, refl, ap, ap₂, ◌∙◌, arith}
use lib.Bits.{and_shr, and_mod}
use Rattle.std.specs.Bool.{Decides}
use Rattle.std.proofs.lemmas.Bool.Decides.{Decides-eqb, Decides-and, Decides-like, not_from_Decides}
use Rattle.std.proofs.lemmas.Nat.Bits.{and_pow}
use Rattle.pages.specs.Written.{Write}
use Rattle.analyser.specs.Comparison.{is_write, write_in, same_write}

pub write_is : {v w : Write} → v.address ≡ w.address → v.byte ≡ w.byte → v ≡ w
write_is e f = ap₂ (λ a b. record { address = a; byte = b }) e f

pub same_decides : (v w : Write) → Decides (same_write v w) (v ≡ w)
same_decides v w =
    Decides-like _ (λ e. write_is e.0 e.1) (λ e. (ap (λ (x : Write). x.address) e, ap (λ (x : Write). x.byte) e))
    (Decides-and _ _ (Decides-eqb v.address w.address) (Decides-eqb v.byte w.byte))

-- the mark, by a mask
marked : (bit : ℕ) → bit < 2 → not (eqb (bit * 0x2000000) 0) ≡ eqb bit 1
marked zero h = refl
marked (suc zero) h = refl
marked (suc (suc n)) h = absurd (omega (arith, h))

pub mark : (entry : ℕ) → not (eqb (bit_and entry 0x2000000) 0) ≡ is_write entry
mark entry = rw (and_pow entry 25) (marked (entry / 0x2000000 % 2) (omega arith))

-- the mark in two numbers
bit_in_both : (p q : ℕ) → p < 2 → q < 2 → eqb (bit_and p q) 1 ≡ (eqb q 1 && eqb p 1)
bit_in_both zero zero h k = refl
bit_in_both zero (suc zero) h k = refl
bit_in_both (suc zero) zero h k = refl
bit_in_both (suc zero) (suc zero) h k = refl
bit_in_both (suc (suc p)) q h k = absurd (omega (arith, h))
bit_in_both p (suc (suc q)) h k = absurd (omega (arith, k))

both_marked : (m n : ℕ) → not (eqb (bit_and (bit_and m n) 0x2000000) 0) ≡ (is_write n && is_write m)
both_marked m n =
    mark (bit_and m n)
    ∙ ap (λ k. eqb k 1) (ap (λ k. k % 2) (and_shr m n 25) ∙ and_mod (m / 0x2000000) (n / 0x2000000) 1)
    ∙ bit_in_both (m / 0x2000000 % 2) (n / 0x2000000 % 2) (omega arith) (omega arith)

-- what is left of an entry after another was taken away
abbrev apart : ℕ → ℕ → ℕ
apart entry other = (entry + (0x100000000 - other)) % 0x100000000 % 0x2000000

-- with 1FFFFFF added it has the mark exactly where their writes are not the same
apart_mark : (entry other : ℕ) → other < 0x100000000 → is_write (apart entry other + 0x1FFFFFF) ≡ not (same_write (write_in entry) (write_in other))
apart_mark entry other h = go (same_write (write_in entry) (write_in other)) refl
  where
    go : (b : Bool) → same_write (write_in entry) (write_in other) ≡ b → is_write (apart entry other + 0x1FFFFFF) ≡ not b
    go true e =
        let is = (same_decides (write_in entry) (write_in other)).0 e in
        let address : entry / 256 % 0x20000 ≡ other / 256 % 0x20000 = ap (λ (x : Write). x.address) is in
        let byte : entry % 256 ≡ other % 256 = ap (λ (x : Write). x.byte) is in
        let bit : (apart entry other + 0x1FFFFFF) / 0x2000000 % 2 ≡ 0 = omega (arith, h, address, byte) in
        ap (λ k. eqb k 1) bit
    go false e =
        let left : apart entry other ≢ 0 = λ z. not_from_Decides _ (same_decides (write_in entry) (write_in other)) e (write_is (omega (arith, h, z)) (omega (arith, h, z))) in
        let bit : (apart entry other + 0x1FFFFFF) / 0x2000000 % 2 ≡ 1 = omega (arith, left) in
        ap (λ k. eqb k 1) bit

pub differs_mark : (entry other : ℕ) → other < 0x100000000
    → not (eqb (bit_and (bit_and (apart entry other + 0x1FFFFFF) entry) 0x2000000) 0)
    ≡ (is_write entry && not (same_write (write_in entry) (write_in other)))
differs_mark entry other h = both_marked _ entry ∙ ap (λ b. is_write entry && b) (apart_mark entry other h)
