-- The groups of one number that the loop of `Cursor::number` has passed, and what the definition says of the rest at each way out.
use Rattle.std.specs.Prelude.{Ok, Err}
use Rattle.std.proofs.Common.{◌≡◌, ℕ, zero, suc, ◌+◌, ◌-◌, ◌*◌, ◌%◌, ◌^◌, ◌<◌, ◌≤◌, Bool, true, false, cond, not, ◌&&◌, ◌||◌, eqb, ltb, leb, ◌⊎◌, List, length, get_or, drop, sym, refl, ap, ◌∙◌, inl, inr, ⊎_elim, add_assoc, mul_assoc, mul-le-mul_left, pow-suc, mul-add, arith, lit<, drop_of_length-le, drop-cons, add-one, ltb-false, ltb-true, ne_eqb, le-leb}
use Rattle.std.proofs.lemmas.Bool.Decides.{nat_tests}
use native.Mathlib.Nat.{pow-le-pow_right}
use borrow.Author.Tests.{lt-leb}
use Rattle.run.specs.CampaignFile.{Groups, ends, over, whole, group, groups, refused, checked_of, number_of}
use Rattle.run.specs.Code.FileAnswers.{ReadOn}
use Rattle.run.specs.declared.campaign_file.Cursor.{Cursor}
use Rattle.run.specs.declared.campaign_file.Refusal.{Refusal}
use Rattle.run.specs.declared.campaign_file.Refusal.TheVariants.{Ends, Unfit}

pub lt_or_ge : (a b : ℕ) → (a < b) ⊎ (b ≤ a)
lt_or_ge a b = go (ltb a b) refl
  where
    go : (t : Bool) → ltb a b ≡ t → (a < b) ⊎ (b ≤ a)
    go true e = inl (ltb-true a b e)
    go false e = inr (ltb-false a b e)

-- groups that were passed, in front of the others: their value, the weight of the next group, how many they are
abbrev pub after : ℕ → ℕ → ℕ → Groups → Groups
after value weight count ends = ends
after value weight count over = over
after value weight count (whole v n last) = whole (value + weight * v) (n + count) last

pub after_group : (value weight count byte : ℕ) (g : Groups) → after value weight count (group byte g) ≡ after (value + weight * (byte % 128)) (weight * 128) (suc count) g
after_group value weight count byte ends = refl
after_group value weight count byte over = refl
after_group value weight count byte (whole v n last) =
    let a : value + weight * (byte % 128 + 128 * v) ≡ value + weight * (byte % 128) + weight * 128 * v
    = simp (mul-add, mul_assoc, add_assoc) in
    let b : suc n + count ≡ n + suc count = omega arith in
    cc

-- the loop's invariant: the file is read from the first cursor on, whose bytes from its place on are the rest, and so far the cursor stays
pub record Passed (before now : Cursor) (rest : List ℕ) (count weight value : ℕ) : Type 0 where
  pub stays : now ≡ before
  pub rest_is : rest ≡ drop before.at before.bytes.now
  pub few : count ≤ 9
  pub weight_is : weight ≡ 128 ^ count
  pub below : value < weight
  pub groups_are : groups 10 rest ≡ after value weight count (groups (10 - count) (drop count rest))

-- eight groups weigh at most 2 ^ 56
weight_small : (count weight : ℕ) → weight ≡ 128 ^ count → count < 9 → weight ≤ 2 ^ 56
weight_small count weight e h = rw e (pow-le-pow_right {n = 128} (lit< tt) {i = count} {j = 8} (omega arith))

pub one_less : (k : ℕ) → k ≤ 9 → 10 - k ≡ suc (9 - k)
one_less k h = omega arith

ten_less : (k : ℕ) → 10 - suc k ≡ 9 - k
ten_less k = omega arith

-- a first group is the only one
first_only : (count : ℕ) → eqb (1 + count) 1 ≡ eqb count 0
first_only zero = refl
first_only (suc count) = ne_eqb (1 + suc count) 1 (omega arith) ∙ sym (ne_eqb (suc count) 0 (omega arith))

module _ {before now : Cursor} {rest : List ℕ} {count weight value : ℕ} (p : Passed before now rest count weight value) where
  -- the tenth group weighs 2 ^ 63
  tenth_weighs : 9 ≤ count → weight ≡ 2 ^ 63
  tenth_weighs nine =
      let c : count ≡ 9 = omega (arith, p.few) in
      p.weight_is ∙ ap (λ (k : ℕ). 128 ^ k) c

  turned_down : (greatest : ℕ) {why : Refusal} → number_of greatest before.bytes.now before.at ≡ refused why → ReadOn (number_of greatest) before now (Err why)
  turned_down greatest e = record { field = e; file = ap (λ (c : Cursor). c.bytes) p.stays; stays = p.stays }

  -- where there is no byte
  pub number_ends : (greatest : ℕ) → length rest ≤ count → ReadOn (number_of greatest) before now (Err (Ends before.at))
  unfolding number_of
  number_ends greatest h = turned_down greatest (rw (← p.rest_is, p.groups_are, one_less count p.few, drop_of_length-le rest h))

  -- where there is one
  module _ {byte : ℕ} (here : count < length rest) (is : byte ≡ get_or rest count 0) where
    there : groups (10 - count) (drop count rest) ≡ cond (leb 128 byte) (group byte (groups (9 - count) (drop (suc count) rest))) (whole byte 1 byte)
    there = rw (one_less count p.few, drop-cons rest count 0 here, is)

    -- the last group
    last_is : (greatest : ℕ) → byte < 128
        → number_of greatest before.bytes.now before.at
        ≡ checked_of before.at (before.at + count + 1) (value + weight * (byte % 128)) (eqb count 0 || not (eqb byte 0)) greatest
    unfolding number_of
    last_is greatest g =
        let place : before.at + (1 + count) ≡ before.at + count + 1 = omega arith in
        let low : byte % 128 ≡ byte = omega arith in
        rw (low, ← p.rest_is, p.groups_are, there, lt-leb 128 byte g, place, first_only count)

    pub passed_read : (greatest : ℕ) → byte < 128 → (eqb count 0 || not (eqb byte 0)) ≡ true → value + weight * (byte % 128) ≤ greatest
        → ReadOn (number_of greatest) before (record { bytes = now.bytes; at = before.at + count + 1 }) (Ok (value + weight * (byte % 128)))
    passed_read greatest g s f = record {
      field = last_is greatest g ∙ rw (s, le-leb (value + weight * (byte % 128)) greatest f);
      file = ap (λ (c : Cursor). c.bytes) p.stays;
      stays = tt;
    }

    pub passed_unfit : (greatest : ℕ) → byte < 128
        → (((eqb count 0 || not (eqb byte 0)) ≡ true) × (greatest < value + weight * (byte % 128))) ⊎ ((eqb count 0 || not (eqb byte 0)) ≡ false)
        → ReadOn (number_of greatest) before now (Err (Unfit before.at))
    passed_unfit greatest g (inl (s, f)) = turned_down greatest (last_is greatest g ∙ rw (s, lt-leb (value + weight * (byte % 128)) greatest f))
    passed_unfit greatest g (inr s) = turned_down greatest (last_is greatest g ∙ rw s)

    pub tenth_unfit : (greatest : ℕ) → (eqb count 9 && not (eqb byte 1)) ≡ true → greatest < 2 ^ 64 → ReadOn (number_of greatest) before now (Err (Unfit before.at))
    unfolding number_of
    tenth_unfit greatest test top = ⊎_elim last more (lt_or_ge byte 128)
      where
        nine : 9 ≤ count
        nine = grind (arith, nat_tests)

        more : 128 ≤ byte → ReadOn (number_of greatest) before now (Err (Unfit before.at))
        more g =
            let none : 9 - count ≡ 0 = omega (arith, nine) in
            turned_down greatest (rw (← p.rest_is, p.groups_are, there, le-leb 128 byte g, none))

        last : byte < 128 → ReadOn (number_of greatest) before now (Err (Unfit before.at))
        last g = ⊎_elim zero above (lt_or_ge byte 2)
          where
            zero : byte < 2 → ReadOn (number_of greatest) before now (Err (Unfit before.at))
            zero z = passed_unfit greatest g (inr (grind (arith, nat_tests)))

            above : 2 ≤ byte → ReadOn (number_of greatest) before now (Err (Unfit before.at))
            above z =
                let two : 2 ≤ byte % 128 = omega arith in
                passed_unfit greatest g (inl (grind (arith, nat_tests), omega (arith, tenth_weighs nine, mul-le-mul_left weight two)))

    -- where it is not the tenth, or is 1
    module _ (test : (eqb count 9 && not (eqb byte 1)) ≡ false) where
      tenth_one : 9 ≤ count → byte ≡ 1
      tenth_one nine = let few : count ≤ 9 = p.few in grind (arith, nat_tests)

      -- its product and the sum fit
      pub passed_fits : value + weight * (byte % 128) < 2 ^ 64
      passed_fits = ⊎_elim early late (lt_or_ge count 9)
        where
          early : count < 9 → value + weight * (byte % 128) < 2 ^ 64
          early h =
              let group : byte % 128 ≤ 127 = omega arith in
              omega (arith, weight_small count weight p.weight_is h, mul-le-mul_left weight group, p.below)

          late : 9 ≤ count → value + weight * (byte % 128) < 2 ^ 64
          late nine =
              let group : byte % 128 ≤ 1 = omega (arith, tenth_one nine) in
              omega (arith, tenth_weighs nine, mul-le-mul_left weight group, p.below)

      -- one more group, which is not the last
      module _ (more : 128 ≤ byte) where
        not_tenth : count < 9
        not_tenth = let few : count ≤ 9 = p.few in grind (arith, nat_tests)

        pub weight_fits : weight * 128 < 2 ^ 64
        weight_fits = omega (arith, weight_small count weight p.weight_is not_tenth)

        pub passed_more : Passed before now rest (count + 1) (weight * 128) (value + weight * (byte % 128))
        passed_more = record {
          stays = p.stays;
          rest_is = p.rest_is;
          few = omega (arith, not_tenth);
          weight_is = ap (λ (w : ℕ). w * 128) p.weight_is ∙ sym (pow-suc 128 count) ∙ rw add-one;
          below =
              let product : weight * (byte % 128) ≤ weight * 127 = mul-le-mul_left weight (omega arith) in
              omega (arith, p.below);
          groups_are =
              p.groups_are ∙ rw (add-one, there, le-leb 128 byte more, ten_less count)
              (after_group value weight count byte (groups (9 - count) (drop (suc count) rest)));
        }
