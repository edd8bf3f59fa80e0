-- A `match` on a number against a row of a table: what its last arm knows, the number is none of the arms' keys, and what the row has there.
use Rattle.std.proofs.Common.{◌≡◌, ℕ, zero, suc, List, [], ◌∷◌, get_or, set, replicate, sym, refl, ap, ◌∙◌, get_or-set_other}

-- x is none of the keys; the last arm's key stands first
abbrev pub Rest : ℕ → List ℕ → Type 0
Rest x [] = Unit {0}
Rest x (k ∷ ks) = Rest x ks × (x ≡ k → ⊥)

module _ {A : Type 0} (d : A) where
  -- the row with the arms' places blank
  abbrev pub clear : List A → List ℕ → List A
  clear row [] = row
  clear row (k ∷ ks) = set (clear row ks) k d

  blank : (n x : ℕ) → get_or (replicate n d) x d ≡ d
  blank zero x = refl
  blank (suc n) zero = refl
  blank (suc n) (suc x) = blank n x

  -- which changes nothing at any other number
  pub cleared : (row : List A) (ks : List ℕ) (x : ℕ) → Rest x ks → get_or row x d ≡ get_or (clear row ks) x d
  cleared row [] x r = refl
  cleared row (k ∷ ks) x r = cleared row ks x r.0 ∙ sym (get_or-set_other (clear row ks) k x d d r.1)

  -- a row that the arms fill: at any other number it has the default
  pub default : (row : List A) (ks : List ℕ) (n x : ℕ) → clear row ks ≡ replicate n d → Rest x ks → d ≡ get_or row x d
  default row ks n x e r = sym (cleared row ks x r ∙ ap (λ (l : List A). get_or l x d) e ∙ blank n x)
