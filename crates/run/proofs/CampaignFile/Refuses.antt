-- A file is turned down exactly for the reasons of `TurnedDown`, at the offset that the refusal names.
use Rattle.std.proofs.Common.{◌≡◌, ℕ, zero, suc, ◌+◌, ◌-◌, ◌<◌, ◌≤◌, Bool, true, false, cond, not, ◌&&◌, ◌||◌, eqb, ltb, leb, ◌⊎◌, List, [], ◌∷◌, ◌++◌, map, length, get_or, drop, sym, refl, ap, ◌∙◌, subst, inl, inr, true≢false, arith, length-drop, get_or-drop, ltb-false, ltb-true, le-ltb, lt-ltb, ne_eqb, eqb-true, le-leb, leb-false, leb-true}
use mathlib.Core.Bool.{and-false}
use borrow.Author.Tests.{eqb-false, lt-leb}
use Rattle.run.specs.CampaignFile.{Groups, ends, over, whole, group, groups, Field, read, refused, Reader, and_then, ◌>>=◌, given, shortest_of, number_from, number_of}
use Rattle.run.specs.CampaignFile.{greatest_values, numbers_of, longest, bytes_of, page_of, parsed_of, ended, campaign_of}
use Rattle.run.specs.CampaignRefusals.{FieldKind, number, page, fields, ReadUpTo, start, after_number, after_page, EndsInside, OverTen, UnfitAt, over_ten, not_shortest, above, TurnedDown, ends_in_number, ends_in_page, unfit, left_over}
use Rattle.run.specs.declared.campaign_file.Refusal.{Refusal}
use Rattle.run.specs.declared.campaign_file.Refusal.TheVariants.{Ends, Unfit, LeftOver}
use Rattle.run.specs.declared.campaign_file.PagePlace.{PagePlace}
use Rattle.run.specs.declared.campaign_file.Parsed.{Parsed}
use Rattle.run.proofs.CampaignFile.Number.{never, groups_within}
use Rattle.run.proofs.CampaignFile.Groups.{lt_or_ge}

-- ---- the groups of a number that is turned down

group_ends : (byte : ℕ) (g : Groups) → group byte g ≡ ends → g ≡ ends
group_ends byte ends e = refl
group_ends byte over e = absurd (true≢false cc)
group_ends byte (whole v n k) e = absurd (true≢false cc)

group_over : (byte : ℕ) (g : Groups) → group byte g ≡ over → g ≡ over
group_over byte ends e = absurd (true≢false cc)
group_over byte over e = refl
group_over byte (whole v n k) e = absurd (true≢false cc)

-- the first bytes of a list have their top bit set
abbrev Continued : ℕ → List ℕ → Type 0
Continued n l = (i : ℕ) → i < n → 128 ≤ get_or l i 0

one_more : (n byte : ℕ) (l : List ℕ) → 128 ≤ byte → Continued n l → Continued (suc n) (byte ∷ l)
one_more n byte l h rest zero g = h
one_more n byte l h rest (suc i) g = rest i (omega arith)

groups_ends : (left : ℕ) (l : List ℕ) → groups left l ≡ ends → (length l < left) × Continued (length l) l
groups_ends zero l e = absurd (true≢false cc)
groups_ends (suc left) [] e = (omega arith, λ i h. absurd (omega arith))
groups_ends (suc left) (byte ∷ l) e = test (leb 128 byte) refl e (groups_ends left l)
  where
    test : (t : Bool) → leb 128 byte ≡ t → cond t (group byte (groups left l)) (whole byte 1 byte) ≡ ends
        → (groups left l ≡ ends → (length l < left) × Continued (length l) l) → (suc (length l) < suc left) × Continued (suc (length l)) (byte ∷ l)
    test true is e rest =
        let r = rest (group_ends byte (groups left l) e) in
        (omega arith, one_more (length l) byte l (leb-true 128 byte is) r.1)
    test false is e rest = absurd (true≢false cc)

groups_over : (left : ℕ) (l : List ℕ) → groups left l ≡ over → (left ≤ length l) × Continued left l
groups_over zero l e = (omega arith, λ i h. absurd (omega arith))
groups_over (suc left) [] e = absurd (true≢false cc)
groups_over (suc left) (byte ∷ l) e = test (leb 128 byte) refl e (groups_over left l)
  where
    test : (t : Bool) → leb 128 byte ≡ t → cond t (group byte (groups left l)) (whole byte 1 byte) ≡ over
        → (groups left l ≡ over → (left ≤ length l) × Continued left l) → (suc left ≤ suc (length l)) × Continued (suc left) (byte ∷ l)
    test true is e rest =
        let r = rest (group_over byte (groups left l) e) in
        (omega arith, one_more left byte l (leb-true 128 byte is) r.1)
    test false is e rest = absurd (true≢false cc)

-- ---- a number that is turned down

data NumberRefused (greatest : ℕ) (bytes : List ℕ) (at : ℕ) : Refusal → Type 0 where
  for_end : EndsInside bytes at → NumberRefused greatest bytes at (Ends at)
  for_unfit : UnfitAt greatest bytes at → NumberRefused greatest bytes at (Unfit at)

refused_same : {A : Type 0} {p q : Refusal} → ◌≡◌ {A = Field A} (refused p) (refused q) → p ≡ q
refused_same e = cc

not_both : (a b : Bool) → a && b ≡ false → (a ≡ false) ⊎ (b ≡ false)
not_both true b e = inr e
not_both false b e = inl refl

ends_inside : (bytes : List ℕ) (at : ℕ) → groups 10 (drop at bytes) ≡ ends → EndsInside bytes at
ends_inside bytes at e =
    let r = groups_ends 10 (drop at bytes) e in
    let d : length (drop at bytes) ≡ length bytes - at = length-drop at bytes in
    record { few = omega (arith, r.0); continued = λ i h. rw (← get_or-drop at bytes i 0) (r.1 i (omega arith)) }

over_ten_there : (bytes : List ℕ) (at : ℕ) → groups 10 (drop at bytes) ≡ over → OverTen bytes at
over_ten_there bytes at e =
    let r = groups_over 10 (drop at bytes) e in
    let d : length (drop at bytes) ≡ length bytes - at = length-drop at bytes in
    record { there = omega (arith, r.0); continued = λ i h. rw (← get_or-drop at bytes i 0) (r.1 i h) }

unfit_whole : (greatest : ℕ) (bytes : List ℕ) (at value count last : ℕ) → groups 10 (drop at bytes) ≡ whole value count last
    → (shortest_of count last ≡ false) ⊎ (leb value greatest ≡ false) → UnfitAt greatest bytes at
unfit_whole greatest bytes at value count last g (inr e) = above g (leb-false value greatest e)
unfit_whole greatest bytes at value count last g (inl e) = long (eqb count 1) refl (eqb last 0) refl e
  where
    long : (a : Bool) → eqb count 1 ≡ a → (b : Bool) → eqb last 0 ≡ b → a || not b ≡ false → UnfitAt greatest bytes at
    long true ia b ib e = absurd (true≢false cc)
    long false ia false ib e = absurd (true≢false cc)
    long false ia true ib e =
        let w = groups_within 10 (drop at bytes) value count last g in
        let other = eqb-false count 1 ia in
        not_shortest (g ∙ ap (whole value count) (eqb-true last 0 ib)) (omega (arith, w.0))

number_refused : (greatest : ℕ) (bytes : List ℕ) (at : ℕ) (stop : Refusal) → number_of greatest bytes at ≡ refused stop → NumberRefused greatest bytes at stop
unfolding number_of
number_refused greatest bytes at stop e = go (groups 10 (drop at bytes)) refl e
  where
    test : (v count last : ℕ) (t : Bool) → groups 10 (drop at bytes) ≡ whole v count last → shortest_of count last && leb v greatest ≡ t
        → cond t (read v (at + count)) (refused (Unfit at)) ≡ refused stop → NumberRefused greatest bytes at stop
    test v count last true g is e = never stop refl e
    test v count last false g is e =
        subst (NumberRefused greatest bytes at) (refused_same e)
        (for_unfit (unfit_whole greatest bytes at v count last g (not_both (shortest_of count last) (leb v greatest) is)))

    go : (g : Groups) → groups 10 (drop at bytes) ≡ g → number_from greatest at g ≡ refused stop → NumberRefused greatest bytes at stop
    go ends is e = subst (NumberRefused greatest bytes at) (refused_same e) (for_end (ends_inside bytes at is))
    go over is e = subst (NumberRefused greatest bytes at) (refused_same e) (for_unfit (over_ten (over_ten_there bytes at is)))
    go (whole v count last) is e = test v count last (shortest_of count last && leb v greatest) is refl e

-- ---- the other way: a number is turned down so

ends_groups : (left : ℕ) (l : List ℕ) → length l < left → Continued (length l) l → groups left l ≡ ends
ends_groups zero l h c = absurd (omega arith)
ends_groups (suc left) [] h c = refl
ends_groups (suc left) (byte ∷ l) h c =
    rw (le-leb 128 byte (c 0 (omega arith)), ends_groups left l (omega arith) (λ i g. c (suc i) (omega arith)))

over_groups : (left : ℕ) (l : List ℕ) → left ≤ length l → Continued left l → groups left l ≡ over
over_groups zero l h c = refl
over_groups (suc left) [] h c = absurd (omega arith)
over_groups (suc left) (byte ∷ l) h c =
    rw (le-leb 128 byte (c 0 (omega arith)), over_groups left l (omega arith) (λ i g. c (suc i) (omega arith)))

number_ended : (greatest : ℕ) (bytes : List ℕ) (at : ℕ) → EndsInside bytes at → number_of greatest bytes at ≡ refused (Ends at)
unfolding number_of
number_ended greatest bytes at h =
    let d : length (drop at bytes) ≡ length bytes - at = length-drop at bytes in
    go (lt_or_ge (length bytes) at) d
  where
    go : (length bytes < at) ⊎ (at ≤ length bytes) → length (drop at bytes) ≡ length bytes - at → number_from greatest at (groups 10 (drop at bytes)) ≡ refused (Ends at)
    go (inr in_file) d =
        rw (ends_groups 10 (drop at bytes) (omega (arith, h.few)) (λ i g. rw (get_or-drop at bytes i 0) (h.continued i (omega arith))))
    go (inl past) d = rw (ends_groups 10 (drop at bytes) (omega arith) (λ i g. absurd (omega arith)))

number_unfit : (greatest : ℕ) (bytes : List ℕ) (at : ℕ) → UnfitAt greatest bytes at → number_of greatest bytes at ≡ refused (Unfit at)
unfolding number_of
number_unfit greatest bytes at (over_ten h) =
    let d : length (drop at bytes) ≡ length bytes - at = length-drop at bytes in
    rw (over_groups 10 (drop at bytes) (omega (arith, h.there)) (λ i g. rw (get_or-drop at bytes i 0) (h.continued i g)))
number_unfit greatest bytes at (not_shortest {value = value} {count = count} g h) = rw (g, ne_eqb count 1 (omega arith))
number_unfit greatest bytes at (above {value = value} {count = count} {last = last} g h) =
    rw (g, lt-leb value greatest h, and-false (shortest_of count last))

-- ---- one field after another

-- the fields that are left, from a place on; the last number read
walk : List ℕ → List FieldKind → ℕ → ℕ → Field ℕ
walk bytes [] last at = cond (ltb at (length bytes)) (refused (LeftOver at)) (read last at)
walk bytes (number greatest ∷ left) last at = and_then bytes (number_of greatest bytes at) (λ value bytes next. walk bytes left value next)
walk bytes (page ∷ left) len at = cond (ltb (length bytes) (at + len)) (refused (Ends at)) (walk bytes left len (at + len))

walk_reached : (bytes : List ℕ) (left : List FieldKind) (at last : ℕ) → ReadUpTo bytes left at last → walk bytes fields 0 0 ≡ walk bytes left last at
unfolding walk
walk_reached bytes left at last start = refl
walk_reached bytes left at last (after_number {greatest = greatest} {at = place} {last = before} r e) =
    walk_reached bytes (number greatest ∷ left) place before r ∙ rw e
walk_reached bytes left at last (after_page {at = place} {len = len} r h) =
    walk_reached bytes (page ∷ left) place len r ∙ rw (le-ltb (length bytes) (place + len) h)

stopped_walk : (bytes : List ℕ) (stop : Refusal) → TurnedDown bytes stop → walk bytes fields 0 0 ≡ refused stop
unfolding walk
stopped_walk bytes stop (ends_in_number {at = at} {last = last} {greatest = greatest} {left = left} r h) =
    walk_reached bytes (number greatest ∷ left) at last r ∙ rw (number_ended greatest bytes at h)
stopped_walk bytes stop (ends_in_page {at = at} {len = len} {left = left} r h) =
    walk_reached bytes (page ∷ left) at len r ∙ rw (lt-ltb (length bytes) (at + len) h)
stopped_walk bytes stop (unfit {at = at} {last = last} {greatest = greatest} {left = left} r h) =
    walk_reached bytes (number greatest ∷ left) at last r ∙ rw (number_unfit greatest bytes at h)
stopped_walk bytes stop (left_over {at = at} {last = last} r h) = walk_reached bytes [] at last r ∙ rw (lt-ltb at (length bytes) h)

walk_stopped : (bytes : List ℕ) (left : List FieldKind) (at last : ℕ) (stop : Refusal) → ReadUpTo bytes left at last → walk bytes left last at ≡ refused stop → TurnedDown bytes stop
unfolding walk
walk_stopped bytes [] at last stop r e = go (ltb at (length bytes)) refl e
  where
    go : (t : Bool) → ltb at (length bytes) ≡ t → cond t (refused (LeftOver at)) (read last at) ≡ refused stop → TurnedDown bytes stop
    go true more e = subst (TurnedDown bytes) (refused_same e) (left_over r (ltb-true at (length bytes) more))
    go false none e = never stop refl e
walk_stopped bytes (number greatest ∷ left) at last stop r e = go (number_of greatest bytes at) refl (λ value next. walk_stopped bytes left next value stop) e
  where
    why : {given : Refusal} → NumberRefused greatest bytes at given → TurnedDown bytes given
    why (for_end h) = ends_in_number r h
    why (for_unfit h) = unfit r h

    go : (f : Field ℕ) → number_of greatest bytes at ≡ f → ((value next : ℕ) → ReadUpTo bytes left next value → walk bytes left value next ≡ refused stop → TurnedDown bytes stop)
        → and_then bytes f (λ value bytes next. walk bytes left value next) ≡ refused stop → TurnedDown bytes stop
    go (read value next) is rest e = rest value next (after_number r is) e
    go (refused given) is rest e = subst (TurnedDown bytes) (refused_same e) (why (number_refused greatest bytes at given is))
walk_stopped bytes (page ∷ left) at len stop r e = go (ltb (length bytes) (at + len)) refl (walk_stopped bytes left (at + len) len stop) e
  where
    go : (t : Bool) → ltb (length bytes) (at + len) ≡ t → (ReadUpTo bytes left (at + len) len → walk bytes left len (at + len) ≡ refused stop → TurnedDown bytes stop)
        → cond t (refused (Ends at)) (walk bytes left len (at + len)) ≡ refused stop → TurnedDown bytes stop
    go true short rest e = subst (TurnedDown bytes) (refused_same e) (ends_in_page r (ltb-true (length bytes) (at + len) short))
    go false there rest e = rest (after_page r (ltb-false (length bytes) (at + len) there)) e

-- ---- the definition ends where the walk does

-- where a field ends, or why it is turned down
abbrev end_of : {A : Type 0} → Field A → Field ℕ
end_of (read a next) = read next next
end_of (refused stop) = refused stop

end_refused : {A : Type 0} (f : Field A) {stop : Refusal} → end_of f ≡ refused stop → f ≡ refused stop
end_refused (read a next) {stop} e = never stop refl e
end_refused (refused why) e = ap refused (refused_same e)

numbers_walk : (greatests bytes : List ℕ) (greatest : ℕ) (left : List FieldKind) (last at : ℕ)
    → walk bytes (map number greatests ++ (number greatest ∷ left)) last at
    ≡ and_then bytes (numbers_of greatests bytes at) (λ values bytes next. walk bytes (number greatest ∷ left) 0 next)
unfolding walk numbers_of
numbers_walk [] bytes greatest left last at = refl
numbers_walk (first ∷ greatests) bytes greatest left last at = go (number_of first bytes at) (numbers_walk greatests bytes greatest left)
  where
    through : (value : ℕ) (f : Field (List ℕ))
        → and_then bytes f (λ values bytes next. walk bytes (number greatest ∷ left) 0 next)
        ≡ and_then bytes (and_then bytes f (λ values. given (value ∷ values))) (λ values bytes next. walk bytes (number greatest ∷ left) 0 next)
    through value (read values next) = refl
    through value (refused stop) = refl

    go : (f : Field ℕ)
        → ((last at : ℕ) → walk bytes (map number greatests ++ (number greatest ∷ left)) last at
        ≡ and_then bytes (numbers_of greatests bytes at) (λ values bytes next. walk bytes (number greatest ∷ left) 0 next))
        → and_then bytes f (λ value bytes next. walk bytes (map number greatests ++ (number greatest ∷ left)) value next)
        ≡ and_then bytes (and_then bytes f (λ value. numbers_of greatests >>= λ values. given (value ∷ values))) (λ values bytes next. walk bytes (number greatest ∷ left) 0 next)
    go (read value next) rest = rest value next ∙ through value (numbers_of greatests bytes next)
    go (refused stop) rest = refl

page_walk : {B : Type 0} (bytes : List ℕ) (left : List FieldKind) (last at : ℕ) (rest : PagePlace → Reader B)
    → ((p : PagePlace) (len next : ℕ) → end_of (rest p bytes next) ≡ end_of (walk bytes left len next))
    → end_of (and_then bytes (page_of bytes at) rest) ≡ end_of (walk bytes (number longest ∷ page ∷ left) last at)
unfolding walk page_of bytes_of
page_walk {B} bytes left last at rest same = go (number_of longest bytes at)
  where
    cut : (t : Bool) (len next : ℕ)
        → end_of (and_then bytes (cond t (refused (Ends next)) (read (record { at = next; len = len }) (next + len))) rest)
        ≡ end_of (cond t (refused (Ends next)) (walk bytes left len (next + len)))
    cut true len next = refl
    cut false len next = same (record { at = next; len = len }) len (next + len)

    go : (f : Field ℕ) → end_of (and_then bytes (and_then bytes f bytes_of) rest) ≡ end_of (and_then bytes f (λ len bytes next. walk bytes (page ∷ left) len next))
    go (read len next) = cut (ltb (length bytes) (next + len)) len next
    go (refused stop) = refl

ended_walk : (bytes : List ℕ) (c : Parsed) (len at : ℕ) → end_of (ended c bytes at) ≡ end_of (walk bytes [] len at)
unfolding walk ended
ended_walk bytes c len at = go (ltb at (length bytes))
  where
    go : (t : Bool) → end_of (cond t (refused (LeftOver at)) (read c at)) ≡ end_of (cond t (refused (LeftOver at)) (read len at))
    go true = refl
    go false = refl

campaign_walk : (bytes : List ℕ) → end_of (campaign_of bytes 0) ≡ end_of (walk bytes fields 0 0)
unfolding campaign_of
campaign_walk bytes =
    go (numbers_of greatest_values bytes 0) ∙ ap end_of (sym (numbers_walk greatest_values bytes longest (page ∷ number longest ∷ page ∷ []) 0 0))
  where
    go : (f : Field (List ℕ))
        → end_of (and_then bytes f (λ values. page_of >>= λ page0. page_of >>= λ page1. ended (parsed_of values page0 page1)))
        ≡ end_of (and_then bytes f (λ values bytes next. walk bytes (number longest ∷ page ∷ number longest ∷ page ∷ []) 0 next))
    go (read values next) =
        page_walk bytes (number longest ∷ page ∷ []) 0 next _ (λ page0 len place. page_walk bytes [] len place _ (λ page1. ended_walk bytes (parsed_of values page0 page1)))
    go (refused stop) = refl

-- a file that is turned down is turned down for a reason of `TurnedDown`
pub refused_for : (bytes : List ℕ) (stop : Refusal) → campaign_of bytes 0 ≡ refused stop → TurnedDown bytes stop
refused_for bytes stop e = walk_stopped bytes fields 0 0 stop start (end_refused (walk bytes fields 0 0) (sym (campaign_walk bytes) ∙ ap end_of e))

-- for each reason of `TurnedDown` the file is turned down with that refusal
pub refused_so : (bytes : List ℕ) (stop : Refusal) → TurnedDown bytes stop → campaign_of bytes 0 ≡ refused stop
refused_so bytes stop s = end_refused (campaign_of bytes 0) (campaign_walk bytes ∙ ap end_of (stopped_walk bytes stop s))
