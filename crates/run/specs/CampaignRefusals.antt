-- What a refusal of a campaign file says (document 01, "What a call tells": 8, 9 and 10), in terms of the file's bytes. Fields are read from
-- left to right, so the first that cannot be read decides.
use Rattle.std.specs.Prelude.{◌≡◌, ℕ, ◌+◌, ◌<◌, ◌≤◌, List, [], ◌∷◌, ◌++◌, map, length, drop, slice_index}
use Rattle.run.specs.CampaignFile.{whole, groups, read, number_of, greatest_values, longest}
use Rattle.run.specs.declared.campaign_file.Refusal.{Refusal}
use Rattle.run.specs.declared.campaign_file.Refusal.TheVariants.{Ends, Unfit, LeftOver}

-- the fields in the file's order: a number with its greatest value, or as many bytes as the number before says
pub data FieldKind : Type 0 where
  number : ℕ → FieldKind
  page : FieldKind

abbrev pub fields : List FieldKind
fields = map number greatest_values ++ (number longest ∷ page ∷ number longest ∷ page ∷ [])

-- the fields before these were read; the place after them, and the last number read
pub data ReadUpTo (bytes : List ℕ) : List FieldKind → ℕ → ℕ → Type 0 where
  start : ReadUpTo bytes fields 0 0
  after_number : {greatest at last value next : ℕ} {left : List FieldKind} → ReadUpTo bytes (number greatest ∷ left) at last → number_of greatest bytes at ≡ read value next
      → ReadUpTo bytes left next value
  after_page : {at len : ℕ} {left : List FieldKind} → ReadUpTo bytes (page ∷ left) at len → at + len ≤ length bytes → ReadUpTo bytes left (at + len) len

-- "bytes end before or inside a number": fewer than ten are left, each with its top bit set
pub record EndsInside (bytes : List ℕ) (at : ℕ) : Type 0 where
  pub few : length bytes < at + 10
  pub continued : (i : ℕ) → at + i < length bytes → 128 ≤ slice_index bytes (at + i)

-- "over ten groups": a top bit is set on the tenth
pub record OverTen (bytes : List ℕ) (at : ℕ) : Type 0 where
  pub there : at + 10 ≤ length bytes
  pub continued : (i : ℕ) → i < 10 → 128 ≤ slice_index bytes (at + i)

-- "number not shortest, over ten groups, or above its field's greatest"
pub data UnfitAt (greatest : ℕ) (bytes : List ℕ) (at : ℕ) : Type 0 where
  over_ten : OverTen bytes at → UnfitAt greatest bytes at
  not_shortest : {value count : ℕ} → groups 10 (drop at bytes) ≡ whole value count 0 → 2 ≤ count → UnfitAt greatest bytes at
  above : {value count last : ℕ} → groups 10 (drop at bytes) ≡ whole value count last → greatest < value → UnfitAt greatest bytes at

-- why a file is turned down, and where
pub data TurnedDown (bytes : List ℕ) : Refusal → Type 0 where
  ends_in_number : {at last greatest : ℕ} {left : List FieldKind} → ReadUpTo bytes (number greatest ∷ left) at last → EndsInside bytes at → TurnedDown bytes (Ends at)
  ends_in_page : {at len : ℕ} {left : List FieldKind} → ReadUpTo bytes (page ∷ left) at len → length bytes < at + len → TurnedDown bytes (Ends at)
  unfit : {at last greatest : ℕ} {left : List FieldKind} → ReadUpTo bytes (number greatest ∷ left) at last → UnfitAt greatest bytes at → TurnedDown bytes (Unfit at)
  left_over : {at last : ℕ} → ReadUpTo bytes [] at last → at < length bytes → TurnedDown bytes (LeftOver at)
