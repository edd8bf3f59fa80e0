-- A file that is accepted is the file of what was read, and that is within its bounds.
use Rattle.std.proofs.Common.{◌≡◌, ℕ, zero, suc, ◌+◌, ◌*◌, ◌/◌, ◌%◌, ◌<◌, ◌≤◌, Bool, true, false, cond, not, eqb, leb, List, [], ◌∷◌, ◌++◌, length, take, drop, sym, refl, ap, ◌∙◌, subst, ap₂, subst₂, append_assoc, append-nil, true≢false, arith, length-drop, take-append-drop, drop_of_length-le, length-take-le, drop-drop, le-ltb, lt-ltb, ne_eqb, leb-false, leb-true}
use borrow.Author.Tests.{eqb-false}
use Rattle.run.specs.RecordNumbers.{record_of, AllWithin}
use Rattle.run.specs.CampaignFile.{Groups, ends, over, whole, group, groups, groups_of, Field, read, refused, shortest_of, number_of, number_bytes, numbers_bytes, page_bytes, Bytes}
use Rattle.run.specs.CampaignFile.{greatest_values, numbers_of, longest, asked_of, campaign_of, Contents, fields_of, file_of, Within, contents_of, contents_field, contents}
use Rattle.run.specs.declared.campaign_file.PagePlace.{PagePlace}
use Rattle.run.specs.declared.campaign_file.Parsed.{Parsed}
use Rattle.run.proofs.RecordNumbers.{within_at, flags_back, elements_are}
use Rattle.run.proofs.CampaignFile.Number.{never, read_same, last_shortest, number_read, number_within, groups_within}
use Rattle.run.proofs.CampaignFile.InTurn.{first_read, none_read, NumbersWithin, numbers_within, PageIs, file_parts}

-- ---- numbers

bytes_drop : (n : ℕ) (l : List ℕ) → Bytes l → Bytes (drop n l)
bytes_drop zero l b = b
bytes_drop (suc n) [] b = tt
bytes_drop (suc n) (x ∷ l) b = bytes_drop n l b.1

-- what groups that are all there say of the first of them
record Split (byte : ℕ) (rest : Groups) (value count last : ℕ) : Type 0 where
  v : ℕ
  n : ℕ
  rest_is : rest ≡ whole v n last
  value_is : value ≡ byte % 128 + 128 * v
  count_is : count ≡ suc n

split : (byte : ℕ) (rest : Groups) (value count last : ℕ) → group byte rest ≡ whole value count last → Split byte rest value count last
split byte ends value count last e = absurd (true≢false cc)
split byte over value count last e = absurd (true≢false cc)
split byte (whole v n k) value count last e = record {
  v = v;
  n = n;
  rest_is = let same : k ≡ last = cc in ap (whole v n) same;
  value_is = let same : byte % 128 + 128 * v ≡ value = cc in sym same;
  count_is = let same : suc n ≡ count = cc in sym same;
}

-- the last group is part of the value
last_below : (left : ℕ) (l : List ℕ) (value count last : ℕ) → groups left l ≡ whole value count last → last ≤ value
last_below zero l value count last e = absurd (true≢false cc)
last_below (suc left) [] value count last e = absurd (true≢false cc)
last_below (suc left) (byte ∷ l) value count last e = test (leb 128 byte) e (λ v n. last_below left l v n last)
  where
    test : (t : Bool) → cond t (group byte (groups left l)) (whole byte 1 byte) ≡ whole value count last
        → ((v n : ℕ) → groups left l ≡ whole v n last → last ≤ v) → last ≤ value
    test false e rest = let a : byte ≡ value = cc in let b : byte ≡ last = cc in omega arith
    test true e rest =
        let s = split byte (groups left l) value count last e in
        let h = rest s.v s.n s.rest_is in
        omega (arith, s.value_is)

-- several groups are shortest only where the last is not 0
shortest_last : (count last : ℕ) → 2 ≤ count → shortest_of count last ≡ true → 1 ≤ last
shortest_last count last h e = go (eqb last 0) refl (rw (ne_eqb count 1 (omega arith)) at e)
  where
    go : (t : Bool) → eqb last 0 ≡ t → not (eqb last 0) ≡ true → 1 ≤ last
    go true is e = absurd (true≢false cc)
    go false is e = let z = eqb-false last 0 is in omega arith

groups_only : (left : ℕ) (l : List ℕ) (value count last : ℕ) → Bytes l → groups left l ≡ whole value count last → shortest_of count last ≡ true
    → l ≡ groups_of left value ++ drop count l
groups_only zero l value count last bs e short = absurd (true≢false cc)
groups_only (suc left) [] value count last bs e short = absurd (true≢false cc)
groups_only (suc left) (byte ∷ l) value count last bs e short =
    test (leb 128 byte) refl e (λ v n. groups_only left l v n last bs.1)
  where
    test : (t : Bool) → leb 128 byte ≡ t → cond t (group byte (groups left l)) (whole byte 1 byte) ≡ whole value count last
        → ((v n : ℕ) → groups left l ≡ whole v n last → shortest_of n last ≡ true → l ≡ groups_of left v ++ drop n l)
        → byte ∷ l ≡ groups_of (suc left) value ++ drop count (byte ∷ l)
    test false is e rest =
        let a : byte ≡ value = cc in
        let b : 1 ≡ count = cc in
        let small : byte < 128 = leb-false 128 byte is in
        rw (← a, ← b, lt-ltb byte 128 small)
    test true is e rest =
        let s = split byte (groups left l) value count last e in
        let w = groups_within left l s.v s.n last s.rest_is in
        let top : 128 ≤ byte = leb-true 128 byte is in
        let k : 1 ≤ last = shortest_last count last (omega (arith, s.count_is)) short in
        let low : last ≤ s.v = last_below left l s.v s.n last s.rest_is in
        let large : 128 ≤ value = omega (arith, s.value_is) in
        let head : 128 + value % 128 ≡ byte = omega (arith, s.value_is, bs.0) in
        let tail : value / 128 ≡ s.v = omega (arith, s.value_is) in
        let front : groups_of (suc left) value ≡ byte ∷ groups_of left s.v = rw (le-ltb value 128 large, head, tail) in
        let back : drop count (byte ∷ l) ≡ drop s.n l = ap (λ (k : ℕ). drop k (byte ∷ l)) s.count_is in
        ap (byte ∷◌) (rest s.v s.n s.rest_is (last_shortest s.n last k)) ∙ sym (ap₂ (λ (x y : List ℕ). x ++ y) front back)

-- ---- a part of the file

-- the bytes from one place to the next
record Took (bytes : List ℕ) (at : ℕ) (part : List ℕ) (next : ℕ) : Type 0 where
  there : drop at bytes ≡ part ++ drop next bytes

took_then : {bytes first later : List ℕ} {at place next : ℕ} → Took bytes at first place → Took bytes place later next → Took bytes at (first ++ later) next
took_then {bytes} {first} {later} {at} {place} {next} p q = record { there = p.there ∙ rw q.there (sym (append_assoc first later (drop next bytes))) }

number_took : (greatest : ℕ) (bytes : List ℕ) (at value next : ℕ) → Bytes bytes → number_of greatest bytes at ≡ read value next → Took bytes at (number_bytes value) next
unfolding number_bytes
number_took greatest bytes at value next bs e =
    let r = number_read greatest bytes at value next e in
    let back : drop r.count (drop at bytes) ≡ drop next bytes = drop-drop r.count at bytes ∙ ap (λ (k : ℕ). drop k bytes) (sym r.next_is) in
    record {
      there =
          groups_only 10 (drop at bytes) value r.count r.last (bytes_drop at bytes bs) r.groups_are r.shortest
          ∙ ap (λ (l : List ℕ). groups_of 10 value ++ l) back;
    }

-- ---- the fields

numbers_took : (greatests bytes : List ℕ) (at : ℕ) (values : List ℕ) (next : ℕ) → Bytes bytes → numbers_of greatests bytes at ≡ read values next
    → Took bytes at (numbers_bytes values) next
numbers_took [] bytes at values next bs e =
    let none = none_read bytes at values next e in
    rw (← none.0) (record { there = ap (λ (n : ℕ). drop n bytes) none.1 })
numbers_took (greatest ∷ greatests) bytes at values next bs e =
    let f = first_read greatest greatests bytes at values next e in
    subst (λ (l : List ℕ). Took bytes at (numbers_bytes l) next) f.values_are
    (took_then (number_took greatest bytes at f.value f.place bs f.was) (numbers_took greatests bytes f.place f.others next bs f.then))

-- a page: its bytes are those of the file at its place
abbrev bytes_at : List ℕ → PagePlace → List ℕ
bytes_at bytes page = take page.len (drop page.at bytes)

record PageTook (bytes : List ℕ) (at : ℕ) (page : PagePlace) (next : ℕ) : Type 0 where
  took : Took bytes at (page_bytes (bytes_at bytes page)) next
  size : length (bytes_at bytes page) ≤ longest

page_took : (bytes : List ℕ) (at : ℕ) (page : PagePlace) (next : ℕ) → Bytes bytes → PageIs bytes at page next → PageTook bytes at page next
page_took bytes at page next bs p =
    let size : length (bytes_at bytes page) ≡ page.len = length-take-le page.len (drop page.at bytes) (rw length-drop (omega (arith, p.inside))) in
    let there : Took bytes page.at (bytes_at bytes page) next = record {
      there = rw (p.next_is, ← drop-drop page.len page.at bytes) (sym (take-append-drop page.len (drop page.at bytes)));
    } in
    record {
      took = rw size (took_then (number_took longest bytes at page.len page.at bs p.was) there);
      size = rw size (number_within longest bytes at page.len page.at p.was).0;
    }

-- ---- the whole file

-- a file that is accepted is the file of its contents, which are within their bounds
pub record OnlyWritten (bytes : List ℕ) (c : Contents) (next : ℕ) : Type 0 where
  pub is : bytes ≡ file_of c
  pub within : Within c
  pub all : next ≡ length bytes

-- the numbers that were read are those of the record and of what is asked
fields_back : (values : List ℕ) → NumbersWithin greatest_values values → fields_of (record_of values) (asked_of values) ≡ values
unfolding record_of
fields_back values h = rw (flags_back values (within_at greatest_values values h.within 8 (omega arith))) (sym (elements_are 0 14 values h.many))

read_written : (bytes : List ℕ) (c : Parsed) (next : ℕ) → Bytes bytes → campaign_of bytes 0 ≡ read c next → OnlyWritten bytes (contents_of bytes c) next
unfolding file_of
read_written bytes c next bs e =
    let f = file_parts bytes c next e in
    let h = numbers_within greatest_values bytes 0 f.values f.place0 f.numbers in
    let t0 = page_took bytes f.place0 f.page0 f.place1 bs f.first in
    let t1 = page_took bytes f.place1 f.page1 next bs f.second in
    subst (λ (x : Parsed). OnlyWritten bytes (contents_of bytes x) next) f.parts_are
    (record {
      is =
          (took_then (numbers_took greatest_values bytes 0 f.values f.place0 bs f.numbers) (took_then t0.took t1.took)).there
          ∙ rw (drop_of_length-le bytes f.all) (append-nil _)
          ∙ ap (λ (l : List ℕ). numbers_bytes l ++ (page_bytes (bytes_at bytes f.page0) ++ page_bytes (bytes_at bytes f.page1))) (sym (fields_back f.values h));
      within = record { numbers = subst (AllWithin greatest_values) (sym (fields_back f.values h)) h.within; page0 = t0.size; page1 = t1.size };
      all = omega (arith, f.all, f.second.inside, f.second.next_is);
    })

pub accepts_only_written : (bytes : List ℕ) (c : Contents) (next : ℕ) → Bytes bytes → contents bytes ≡ read c next → OnlyWritten bytes c next
unfolding contents
accepts_only_written bytes c next bs e = go (campaign_of bytes 0) refl e
  where
    go : (f : Field Parsed) → campaign_of bytes 0 ≡ f → contents_field bytes f ≡ read c next → OnlyWritten bytes c next
    go (read p n) is e =
        let same = read_same e in
        subst₂ (λ (x : Contents) (m : ℕ). OnlyWritten bytes x m) same.0 same.1 (read_written bytes p n bs is)
    go (refused stop) is e = never stop e refl
