-- A campaign file that was written from contents within their bounds is read back as these contents.
use Rattle.std.proofs.Common.{◌≡◌, ℕ, zero, suc, ◌+◌, ◌-◌, ◌*◌, ◌/◌, ◌%◌, ◌^◌, ◌<◌, ◌≤◌, true, cond, ltb, List, [], ◌∷◌, ◌++◌, length, take, drop, replicate, refl, ap, ◌∙◌, ⊎_elim, append_assoc, append-nil, add-zero, add_assoc, pow-suc, zero-add, arith, length-append, take_at, drop_at, rules, le-ltb, lt-ltb, le-leb}
use borrow.Author.Tests.{lt-leb}
use Rattle.run.specs.RecordNumbers.{AllWithin}
use Rattle.run.specs.CampaignFile.{whole, groups, groups_of, read, Reader, ◌>>=◌, given, shortest_of, number_of, number_bytes, numbers_bytes, page_bytes}
use Rattle.run.specs.CampaignFile.{greatest_values, numbers_of, longest, bytes_of, page_of, parsed_of, ended, campaign_of, Contents, fields_of, file_of, Within, contents}
use Rattle.run.specs.declared.campaign_file.PagePlace.{PagePlace}
use Rattle.run.specs.declared.campaign_file.Parsed.{Parsed}
use Rattle.run.proofs.RecordNumbers.{record_in}
use Rattle.run.proofs.CampaignFile.Groups.{lt_or_ge}
use Rattle.run.proofs.CampaignFile.Number.{last_shortest}

-- ---- the groups of a number that was written

-- the last group of a number of at most so many groups and one
last_group : ℕ → ℕ → ℕ
last_group zero value = value
last_group (suc left) value = cond (ltb value 128) value (last_group left (value / 128))

last_first : (left value : ℕ) → value < 128 → last_group left value ≡ value
unfolding last_group
last_first zero value h = refl
last_first (suc left) value h = rw (lt-ltb value 128 h)

last_later : (left value : ℕ) → 128 ≤ value → last_group (suc left) value ≡ last_group left (value / 128)
unfolding last_group
last_later left value h = rw (le-ltb value 128 h)

power : (left : ℕ) → 128 ^ suc (suc left) ≡ 128 ^ suc left * 128
power left = pow-suc 128 (suc left)

written_groups : (left value : ℕ) (after : List ℕ) → value < 128 ^ suc left
    → groups (suc left) (groups_of (suc left) value ++ after) ≡ whole value (length (groups_of (suc left) value)) (last_group left value)
written_groups zero value after h =
    let small : value < 128 = h in
    rw (lt-ltb value 128 small, lt-leb 128 value small, last_first 0 value small)
written_groups (suc left) value after h =
    ⊎_elim one (several (written_groups left (value / 128) after (omega (arith, power left)))) (lt_or_ge value 128)
  where
    one : value < 128
        → groups (suc (suc left)) (groups_of (suc (suc left)) value ++ after)
        ≡ whole value (length (groups_of (suc (suc left)) value)) (last_group (suc left) value)
    one g = rw (lt-ltb value 128 g, lt-leb 128 value g, last_first (suc left) value g)

    several : groups (suc left) (groups_of (suc left) (value / 128) ++ after)
        ≡ whole (value / 128) (length (groups_of (suc left) (value / 128))) (last_group left (value / 128))
        → 128 ≤ value
        → groups (suc (suc left)) (groups_of (suc (suc left)) value ++ after)
        ≡ whole value (length (groups_of (suc (suc left)) value)) (last_group (suc left) value)
    several rest g =
        let byte : 128 ≤ 128 + value % 128 = omega arith in
        let sum : (128 + value % 128) % 128 + 128 * (value / 128) ≡ value = omega arith in
        rw (le-ltb value 128 g, le-leb 128 (128 + value % 128) byte, rest, sum, last_later left value g)

last_positive : (left value : ℕ) → 1 ≤ value → value < 128 ^ suc left → 1 ≤ last_group left value
last_positive zero value low h = rw (last_first 0 value h) low
last_positive (suc left) value low h =
    ⊎_elim one (λ g. several g (last_positive left (value / 128) (omega arith) (omega (arith, power left)))) (lt_or_ge value 128)
  where
    one : value < 128 → 1 ≤ last_group (suc left) value
    one g = rw (last_first (suc left) value g) low

    several : 128 ≤ value → 1 ≤ last_group left (value / 128) → 1 ≤ last_group (suc left) value
    several g rest = rw (last_later left value g) rest

written_shortest : (value : ℕ) → value < 128 ^ 10 → shortest_of (length (groups_of 10 value)) (last_group 9 value) ≡ true
written_shortest value h = ⊎_elim one several (lt_or_ge value 128)
  where
    one : value < 128 → shortest_of (length (groups_of 10 value)) (last_group 9 value) ≡ true
    one g = rw (lt-ltb value 128 g)

    several : 128 ≤ value → shortest_of (length (groups_of 10 value)) (last_group 9 value) ≡ true
    several g = last_shortest (length (groups_of 10 value)) (last_group 9 value) (last_positive 9 value (omega arith) h)

-- ---- a reader reads back what was written, wherever that stands in the file

pub record ReadsBack {A : Type 0} (reader : Reader A) (at : ℕ) (bytes : List ℕ) (value : A) : Type 0 where
  pub back : (before after : List ℕ) → length before ≡ at → reader (before ++ (bytes ++ after)) at ≡ read value (at + length bytes)

-- the same at the end of the file
pub record ReadsBackLast {A : Type 0} (reader : Reader A) (at : ℕ) (bytes : List ℕ) (value : A) : Type 0 where
  pub back : (before : List ℕ) → length before ≡ at → reader (before ++ bytes) at ≡ read value (at + length bytes)

pub number_back : (greatest at value : ℕ) → value ≤ greatest → greatest < 2 ^ 64 → ReadsBack (number_of greatest) at (number_bytes value) value
unfolding number_of number_bytes
number_back greatest at value h top = record {
  back = λ before after e.
      let small : value < 128 ^ 10 = omega arith in
      rw (drop_at before (groups_of 10 value ++ after) at e, written_groups 9 value after small, written_shortest value small, le-leb value greatest h);
}

long : (before first : List ℕ) (at : ℕ) → length before ≡ at → length (before ++ first) ≡ at + length first
long before first at e = length-append before first ∙ ap (λ (n : ℕ). n + length first) e

module _ {A B : Type 0} {reader : Reader A} (rest : A → Reader B) {at : ℕ} {first later : List ℕ} {a : A} {b : B} where
  pub then_back : ReadsBack reader at first a → ReadsBack (rest a) (at + length first) later b → ReadsBack (reader >>= rest) at (first ++ later) b
  then_back p q = record {
    back = λ before after e.
        rw (
          append_assoc first later after,
          p.back before (later ++ after) e,
          length-append first later,
          ← add_assoc at (length first) (length later),
          ← append_assoc before first (later ++ after),
        )
        (q.back (before ++ first) after (long before first at e));
  }

  pub then_back_last : ReadsBack reader at first a → ReadsBackLast (rest a) (at + length first) later b → ReadsBackLast (reader >>= rest) at (first ++ later) b
  then_back_last p q = record {
    back = λ before e.
        rw (p.back before later e, length-append first later, ← add_assoc at (length first) (length later), ← append_assoc before first later)
        (q.back (before ++ first) (long before first at e));
  }

given_back : {A : Type 0} (at : ℕ) (a : A) → ReadsBack (given a) at [] a
given_back at a = record { back = λ before after e. rw add-zero }

-- ---- the fields

numbers_back : (greatests values : List ℕ) (at : ℕ) → AllWithin (replicate (length greatests) (2 ^ 64 - 1)) greatests → AllWithin greatests values
    → length values ≡ length greatests → ReadsBack (numbers_of greatests) at (numbers_bytes values) values
unfolding numbers_of
numbers_back [] [] at top h many = given_back at []
numbers_back [] (value ∷ values) at top h many = absurd (omega arith)
numbers_back (greatest ∷ greatests) [] at top h many = absurd h
numbers_back (greatest ∷ greatests) (value ∷ values) at top h many =
    then_back _ (number_back greatest at value h.0 (omega (arith, top.0))) (record {
      back = λ before after e. rw ((numbers_back greatests values (at + length (number_bytes value)) top.1 h.1 (omega arith)).back before after e);
    })

-- where a page's bytes begin, after its length
abbrev place_of : ℕ → List ℕ → PagePlace
place_of at page = record { at = at + length (number_bytes (length page)); len = length page }

bytes_back : (at : ℕ) (page : List ℕ) → ReadsBack (bytes_of (length page)) at page (record { at = at; len = length page })
unfolding bytes_of
bytes_back at page = record {
  back = λ before after e.
      let size : length (before ++ (page ++ after)) ≡ length before + (length page + length after) = length-append before (page ++ after) ∙ rw (length-append page after) in
      rw (le-ltb (length (before ++ (page ++ after))) (at + length page) (omega arith));
}

page_back : (at : ℕ) (page : List ℕ) → length page ≤ longest → ReadsBack page_of at (page_bytes page) (place_of at page)
unfolding page_of
page_back at page h = then_back _ (number_back longest at (length page) h (omega arith)) (bytes_back _ page)

ended_back : (c : Parsed) (at : ℕ) → ReadsBackLast (ended c) at [] c
unfolding ended
ended_back c at = record { back = λ before e. rw (append-nil before, le-ltb at (length before) (omega arith), add-zero) }

-- ---- the whole file

page_there : (before page after file : List ℕ) (at : ℕ) → file ≡ before ++ (page ++ after) → length before ≡ at → take (length page) (drop at file) ≡ page
page_there before page after file at is long = rw (is, drop_at before (page ++ after) at long) (take_at page after (length page) refl)

module _ (c : Contents) where
  abbrev values : List ℕ
  values = fields_of c.cpu c.asked

  -- where the two pages' lengths begin
  abbrev start0 : ℕ
  start0 = 0 + length (numbers_bytes values)

  abbrev start1 : ℕ
  start1 = start0 + length (page_bytes c.page0)

  abbrev pub parsed_back : Parsed
  parsed_back = parsed_of values (place_of start0 c.page0) (place_of start1 c.page1)

  in_parts : file_of c ≡ numbers_bytes values ++ (page_bytes c.page0 ++ (page_bytes c.page1 ++ []))
  unfolding file_of
  in_parts = rw (append-nil (page_bytes c.page1))

  first_page : file_of c ≡ (numbers_bytes values ++ number_bytes (length c.page0)) ++ (c.page0 ++ page_bytes c.page1)
  unfolding file_of
  first_page = simp (append_assoc, append-nil)

  second_page : file_of c ≡ (numbers_bytes values ++ (page_bytes c.page0 ++ number_bytes (length c.page1))) ++ (c.page1 ++ [])
  unfolding file_of
  second_page = simp (append_assoc, append-nil)

  campaign_back : Within c → ReadsBackLast campaign_of 0 (numbers_bytes values ++ (page_bytes c.page0 ++ (page_bytes c.page1 ++ []))) parsed_back
  unfolding campaign_of
  campaign_back h =
      then_back_last _ (numbers_back greatest_values values 0 (search rules) h.numbers refl)
      (then_back_last _ (page_back start0 c.page0 h.page0)
      (then_back_last _ (page_back start1 c.page1 h.page1)
      (ended_back parsed_back _)))

  page0_back : take (length c.page0) (drop (place_of start0 c.page0).at (file_of c)) ≡ c.page0
  page0_back =
      page_there (numbers_bytes values ++ number_bytes (length c.page0)) c.page0 (page_bytes c.page1) (file_of c) (place_of start0 c.page0).at
      first_page (simp length-append (omega arith))

  page1_back : take (length c.page1) (drop (place_of start1 c.page1).at (file_of c)) ≡ c.page1
  page1_back =
      page_there (numbers_bytes values ++ (page_bytes c.page0 ++ number_bytes (length c.page1))) c.page1 [] (file_of c)
      (place_of start1 c.page1).at second_page (simp length-append (omega arith))

  -- writing a campaign and reading it back is the identity
  pub read_back : Within c → contents (file_of c) ≡ read c (length (file_of c))
  unfolding contents
  read_back h =
      let whole_file : campaign_of (file_of c) 0 ≡ read parsed_back (0 + length (file_of c)) = rw in_parts ((campaign_back h).back [] refl) in
      rw (whole_file, zero-add (length (file_of c)), record_in c.cpu (c.asked.keyboard ∷ c.asked.limit ∷ []), page0_back, page1_back)
