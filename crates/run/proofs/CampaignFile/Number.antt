-- What a number that was read says: its groups, its bounds and its next place.
use Rattle.std.proofs.Common.{◌≡◌, ℕ, zero, suc, ◌+◌, ◌-◌, ◌<◌, ◌≤◌, Bool, true, false, cond, ◌&&◌, eqb, leb, List, [], ◌∷◌, length, drop, sym, refl, ap, ◌∙◌, true≢false, arith, length-drop, ne_eqb, leb-true}
use mathlib.Core.Bool.{and-eq-true_iff, or-true}
use Rattle.run.specs.CampaignFile.{Groups, ends, over, whole, group, groups, Field, read, refused, shortest_of, number_from, number_of}
use Rattle.run.specs.declared.campaign_file.Refusal.TheVariants.{Ends, Unfit}

-- two different answers
pub never : {A B : Type 0} {a : A} {n : ℕ} {f : Field A} (r : _) → f ≡ read a n → f ≡ refused r → B
never {A} {B} {a} {n} {f} r p q = absurd (true≢false cc)

pub read_same : {A : Type 0} {a b : A} {m n : ℕ} → read a m ≡ read b n → (a ≡ b) × (m ≡ n)
read_same e = (cc, cc)

-- where the last group is not 0 there are no groups to leave out
pub last_shortest : (count last : ℕ) → 1 ≤ last → shortest_of count last ≡ true
last_shortest count last h = rw (ne_eqb last 0 (omega arith)) (or-true (eqb count 1))

-- a number that was read
pub record NumberRead (greatest : ℕ) (bytes : List ℕ) (at value next : ℕ) : Type 0 where
  pub count : ℕ
  pub last : ℕ
  pub groups_are : groups 10 (drop at bytes) ≡ whole value count last
  pub shortest : shortest_of count last ≡ true
  pub fits : value ≤ greatest
  pub next_is : next ≡ at + count

pub number_read : (greatest : ℕ) (bytes : List ℕ) (at value next : ℕ) → number_of greatest bytes at ≡ read value next → NumberRead greatest bytes at value next
unfolding number_of
number_read greatest bytes at value next e = go (groups 10 (drop at bytes)) refl e
  where
    test : (v count last : ℕ) (t : Bool) → groups 10 (drop at bytes) ≡ whole v count last → shortest_of count last && leb v greatest ≡ t
        → cond t (read v (at + count)) (refused (Unfit at)) ≡ read value next → NumberRead greatest bytes at value next
    test v count last true g s r =
        let same : v ≡ value = cc in
        let both = (and-eq-true_iff (shortest_of count last) (leb v greatest)).0 s in
        record {
          count = count;
          last = last;
          groups_are = g ∙ ap (λ (x : ℕ). whole x count last) same;
          shortest = both.0;
          fits = rw (← same) (leb-true v greatest both.1);
          next_is = cc;
        }
    test v count last false g s r = never (Unfit at) r refl

    go : (g : Groups) → groups 10 (drop at bytes) ≡ g → number_from greatest at g ≡ read value next → NumberRead greatest bytes at value next
    go ends g r = never (Ends at) r refl
    go over g r = never (Unfit at) r refl
    go (whole v count last) g r = test v count last (shortest_of count last && leb v greatest) g refl r

-- a number's groups are bytes of the file
pub groups_within : (left : ℕ) (l : List ℕ) (value count last : ℕ) → groups left l ≡ whole value count last → (1 ≤ count) × (count ≤ length l)
groups_within zero l value count last e = absurd (true≢false cc)
groups_within (suc left) [] value count last e = absurd (true≢false cc)
groups_within (suc left) (byte ∷ l) value count last e = test (leb 128 byte) e (groups left l) refl (λ v c. groups_within left l v c last)
  where
    test : (t : Bool) → cond t (group byte (groups left l)) (whole byte 1 byte) ≡ whole value count last → (g : Groups) → groups left l ≡ g
        → ((v c : ℕ) → groups left l ≡ whole v c last → (1 ≤ c) × (c ≤ length l)) → (1 ≤ count) × (count ≤ suc (length l))
    test false e g is rest = let one : 1 ≡ count = cc in omega arith
    test true e ends is rest = absurd (true≢false (cc (ap (group byte) is)))
    test true e over is rest = absurd (true≢false (cc (ap (group byte) is)))
    test true e (whole v c k) is rest =
        let whole_is : group byte (whole v c k) ≡ whole value count last = ap (group byte) (sym is) ∙ e in
        let same : suc c ≡ count = cc in
        let lasts : k ≡ last = cc in
        let inner = rest v c (is ∙ ap (whole v c) lasts) in
        omega arith

pub number_within : (greatest : ℕ) (bytes : List ℕ) (at value next : ℕ) → number_of greatest bytes at ≡ read value next → (value ≤ greatest) × (at < next) × (next ≤ length bytes)
number_within greatest bytes at value next e =
    let r = number_read greatest bytes at value next e in
    let w = groups_within 10 (drop at bytes) value r.count r.last r.groups_are in
    let d : r.count ≤ length bytes - at = rw length-drop at w.1 in
    (r.fits, omega arith, omega arith)
