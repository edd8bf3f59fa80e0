-- Groups of four bytes, each of which sets one byte of a page.
use Rattle.std.proofs.Common.{take, ◌*◌, ◌/◌, ◌≡◌, ℕ, zero, suc, ◌+◌, ◌<◌, ◌≤◌, eqb, List, [], ◌∷◌, length, get_or, drop, refl, arith, length-drop, ne_eqb, slice_set}
use Rattle.std.proofs.Math.Nat.{mul_comm}
use Rattle.std.proofs.lemmas.Bool.{eq-eqb}
use Rattle.std.proofs.lemmas.List.{drop-drop}
use Rattle.std.specs.Simd.{first_chunks}
use Rattle.replay.specs.Bytes.{set_of, patch_of}

-- a group of four, as bytes of the list
group_at : (n k : ℕ) (l : List ℕ) → k < n → get_or (first_chunks 4 n l) k [] ≡ take 4 (drop (k * 4) l)
group_at zero k l h = absurd (omega arith)
group_at (suc n) zero l h = refl
group_at (suc n) (suc k) l h =
    let e : 4 + k * 4 ≡ suc k * 4 = omega arith in
    rw (group_at n k (drop 4 l) (omega arith), drop-drop, e) refl

one_patched : (page : List ℕ) (which : ℕ) (l : List ℕ) → 4 ≤ length l
    → patch_of (set_of page (eqb (get_or (take 4 l) 2 0) which) (get_or (take 4 l) 0 0 + get_or (take 4 l) 1 0 * 256) (get_or (take 4 l) 3 0)) which (drop 4 l) ≡ patch_of page which l
unfolding patch_of
one_patched page which [] h = absurd (omega arith)
one_patched page which (a ∷ []) h = absurd (omega arith)
one_patched page which (a ∷ b ∷ []) h = absurd (omega arith)
one_patched page which (a ∷ b ∷ c ∷ []) h = absurd (omega arith)
one_patched page which (a ∷ b ∷ c ∷ d ∷ l) h = rw (mul_comm b 256) refl

-- fewer than four bytes set nothing
short : (page : List ℕ) (which : ℕ) (l : List ℕ) → length l < 4 → patch_of page which l ≡ page
unfolding patch_of
short page which [] h = refl
short page which (a ∷ []) h = refl
short page which (a ∷ b ∷ []) h = refl
short page which (a ∷ b ∷ c ∷ []) h = refl
short page which (a ∷ b ∷ c ∷ d ∷ l) h = absurd (omega arith)

-- one group of four: for this page, and for another
module _ (page : List ℕ) (which k : ℕ) (l : List ℕ) {groups : List (List ℕ)} (is : groups ≡ first_chunks 4 (length l / 4) l) (h : k < length l / 4) where
  next_group : patch_of (set_of page (eqb (get_or (get_or groups k []) 2 0) which) (get_or (get_or groups k []) 0 0 + get_or (get_or groups k []) 1 0 * 256) (get_or (get_or groups k []) 3 0)) which (drop ((k + 1) * 4) l)
      ≡ patch_of page which (drop (k * 4) l)
  next_group =
      let e : k * 4 + 4 ≡ (k + 1) * 4 = omega arith in
      let enough : 4 ≤ length (drop (k * 4) l) = simp length-drop (omega arith) in
      rw (is, group_at (length l / 4) k l h, ← e, ← drop-drop 4 (k * 4) l) (one_patched page which (drop (k * 4) l) enough)

  pub here : get_or (get_or groups k []) 2 0 ≡ which
      → patch_of (slice_set page (get_or (get_or groups k []) 0 0 + get_or (get_or groups k []) 1 0 * 256) (get_or (get_or groups k []) 3 0)) which (drop ((k + 1) * 4) l) ≡ patch_of page which (drop (k * 4) l)
  unfolding set_of
  here e = rw (eq-eqb (get_or (get_or groups k []) 2 0) which e) at next_group

  pub elsewhere : (get_or (get_or groups k []) 2 0 ≡ which → ⊥) → patch_of page which (drop ((k + 1) * 4) l) ≡ patch_of page which (drop (k * 4) l)
  unfolding set_of
  elsewhere n = rw (ne_eqb (get_or (get_or groups k []) 2 0) which n) at next_group

-- no group is left
pub none_left : (page : List ℕ) (which k : ℕ) (l : List ℕ) → length l / 4 ≤ k → patch_of page which (drop (k * 4) l) ≡ page
none_left page which k l h = short page which (drop (k * 4) l) (simp length-drop (omega arith))
