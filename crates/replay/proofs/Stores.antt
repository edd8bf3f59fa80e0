-- Bytes by the fill rule.
use Rattle.std.proofs.Common.{min, ⊎_elim, ◌≡◌, ℕ, suc, ◌+◌, ◌-◌, ◌<◌, ◌≤◌, List, [], ◌∷◌, length, set, refl, add-one, arith, take, drop, ◌++◌, length-take, length-drop, length-append}
use lib.Seq.{sets, set_out}
use Rattle.std.proofs.lemmas.List.{set-append_left}
use Rattle.run.proofs.CampaignFile.Groups.{lt_or_ge}
use Rattle.replay.specs.Numbers.{next_byte_of}
use Rattle.replay.specs.Bytes.{rule_bytes}

-- nothing is stored past the end
past_end : (vs page : List ℕ) (i : ℕ) → length page ≤ i → sets page i vs ≡ page
past_end [] page i h = refl
past_end (v ∷ vs) page i h = rw (set_out page i v h) (past_end vs page (suc i) (omega arith))

-- the first bytes of a page, which the fill rule writes, and the bytes after them
module _ (start page : List ℕ) (n len byte step i : ℕ) (is : n ≡ min len (length page)) (same : length start ≡ length (take n page)) where
  -- one byte of the fill rule stored
  pub one_filled : i < length (take n page)
      → sets (set start i byte ++ drop n page) (i + 1) (rule_bytes (len - (i + 1)) (next_byte_of byte step (i + 1)) step (i + 1)) ≡ sets (start ++ drop n page) i (rule_bytes (len - i) byte step i)
  unfolding rule_bytes
  one_filled h =
      let within : i < length start = omega arith in
      let e : len - i ≡ suc (len - (i + 1)) = omega (arith, length-take n page) in
      rw (e, ← set-append_left start (drop n page) i byte within, add-one)

  -- no byte of the fill rule is left, or no place of the page
  pub all_filled : length (take n page) ≤ i → sets (start ++ drop n page) i (rule_bytes (len - i) byte step i) ≡ start ++ drop n page
  unfolding rule_bytes
  all_filled h = ⊎_elim past none (lt_or_ge i len)
    where
      past : i < len → sets (start ++ drop n page) i (rule_bytes (len - i) byte step i) ≡ start ++ drop n page
      past g = past_end (rule_bytes (len - i) byte step i) (start ++ drop n page) i (simp (length-append, length-drop) (omega (arith, length-take n page)))

      none : len ≤ i → sets (start ++ drop n page) i (rule_bytes (len - i) byte step i) ≡ start ++ drop n page
      none g = let e : len - i ≡ 0 = omega arith in rw e
