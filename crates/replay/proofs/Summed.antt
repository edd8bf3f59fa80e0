-- The sums over the first numbers of a list.
use Rattle.std.proofs.Common.{◌≡◌, ℕ, List, [], ◌∷◌, ◌++◌, refl}
use Rattle.std.specs.List.{AllZip}
use Rattle.replay.specs.declared.Sums.{Sums}
use Rattle.replay.specs.Numbers.{with_number, sums_of}

pub last_number : (l : List ℕ) (b : ℕ) (s : Sums) → sums_of (l ++ (b ∷ [])) s ≡ with_number (sums_of l s) b
unfolding sums_of
last_number [] b s = refl
last_number (a ∷ l) b s = last_number l b (with_number s a)

-- one item more, place by place
pub zip_more : {A B : Type 0} (R : A → B → Type 0) (xs : List A) (ys : List B) {x : A} {y : B} → AllZip R xs ys → R x y → AllZip R (xs ++ (x ∷ [])) (ys ++ (y ∷ []))
zip_more R [] [] z h = (h, tt)
zip_more R [] (b ∷ ys) z h = absurd z
zip_more R (a ∷ xs) [] z h = absurd z
zip_more R (a ∷ xs) (b ∷ ys) z h = (z.0, zip_more R xs ys z.1 h)
