-- Fields read in turn: each is read from the place after the one before it, and the first that is turned down ends the reading. What the
-- code's answers tell of it, and what a file that was read tells of its fields.
use Rattle.std.specs.Prelude.{Ok, Err}
use Rattle.std.proofs.Common.{◌≡◌, ℕ, suc, ◌+◌, ◌<◌, ◌≤◌, Bool, true, false, cond, ltb, List, [], ◌∷◌, ◌++◌, length, get_or, take, drop, set, sym, refl, ap, ◌∙◌, subst, append_assoc, append-nil, add-one, arith, drop_of_length-le, take_all, drop-cons, take-suc-set, drop-set-lt, ltb-false}
use Rattle.run.specs.RecordNumbers.{AllWithin}
use Rattle.run.specs.CampaignFile.{Field, Reader, read, refused, and_then, given, number_of, greatest_values, numbers_of, longest, bytes_of, page_of, parsed_of, ended, campaign_of}
use Rattle.run.specs.declared.campaign_file.Refusal.{Refusal}
use Rattle.run.specs.declared.campaign_file.Refusal.TheVariants.{Ends, LeftOver}
use Rattle.run.specs.Code.FileAnswers.{ReadOn}
use Rattle.run.specs.declared.campaign_file.Cursor.{Cursor}
use Rattle.run.specs.declared.campaign_file.PagePlace.{PagePlace}
use Rattle.run.specs.declared.campaign_file.Parsed.{Parsed}
use Rattle.run.proofs.CampaignFile.Number.{never, read_same, number_within}

-- ---- numbers in turn, as the loop of `Cursor::numbers` reads them

-- values that were read, in front of the others
abbrev onto : List ℕ → Field (List ℕ) → Field (List ℕ)
onto before (read values next) = read (before ++ values) next
onto before (refused stop) = refused stop

onto_more : (bytes before : List ℕ) (value : ℕ) (f : Field (List ℕ)) → onto before (and_then bytes f (λ values. given (value ∷ values))) ≡ onto (before ++ (value ∷ [])) f
onto_more bytes before value (read values next) = ap (λ (l : List ℕ). read l next) (sym (append_assoc before (value ∷ []) values))
onto_more bytes before value (refused stop) = refl

-- from a cursor the first i values were read, up to another; behind them stand the greatest values of the others
pub record ReadSo (greatests : List ℕ) (before : Cursor) (values : List ℕ) (i : ℕ) (now : Cursor) : Type 0 where
  pub so : numbers_of greatests before.bytes.now before.at ≡ onto (take i values) (numbers_of (drop i values) before.bytes.now now.at)
  pub file : now.bytes ≡ before.bytes

module _ {greatests : List ℕ} {before : Cursor} {values : List ℕ} {i : ℕ} {now : Cursor} (p : ReadSo greatests before values i now) where
  pub read_more : {value : ℕ} {next : Cursor} → i < length values → ReadOn (number_of (get_or values i 0)) now next (Ok value)
      → ReadSo greatests before (set values i value) (i + 1) next
  unfolding numbers_of
  read_more {value} {next} l r = record {
    so =
        p.so
        ∙ rw (drop-cons values i 0 l, rw p.file at r.field, add-one, take-suc-set values i value l, drop-set-lt (suc i) values i value (omega arith))
        (onto_more before.bytes.now (take i values) value (numbers_of (drop (suc i) values) before.bytes.now next.at));
    file = r.file ∙ p.file;
  }

  pub read_stops : {stop : Refusal} {next : Cursor} → i < length values → ReadOn (number_of (get_or values i 0)) now next (Err stop)
      → ReadOn (numbers_of greatests) before before (Err stop)
  unfolding numbers_of
  read_stops l r = record {
    field = p.so ∙ rw (drop-cons values i 0 l, rw p.file at r.field);
    file = refl;
    stays = refl;
  }

  pub read_all : length values ≤ i → ReadOn (numbers_of greatests) before now (Ok values)
  unfolding numbers_of
  read_all l = record {
    field = p.so ∙ rw (drop_of_length-le values l, take_all i values l, append-nil values);
    file = p.file;
    stays = tt;
  }

-- ---- a file that was read

-- a field that was read, and what was read after it
pub record Then {A B : Type 0} (bytes : List ℕ) (field : Field A) (rest : A → Reader B) (b : B) (next : ℕ) : Type 0 where
  pub value : A
  pub place : ℕ
  pub was : field ≡ read value place
  pub then : rest value bytes place ≡ read b next

pub then_read : {A B : Type 0} (bytes : List ℕ) (field : Field A) (rest : A → Reader B) {b : B} {next : ℕ} → and_then bytes field rest ≡ read b next
    → Then bytes field rest b next
then_read bytes (read a place) rest e = record { value = a; place = place; was = refl; then = e }
then_read bytes (refused stop) rest e = never stop e refl

-- numbers that were read: the first, and the others
pub record FirstRead (greatest : ℕ) (greatests bytes : List ℕ) (at : ℕ) (values : List ℕ) (next : ℕ) : Type 0 where
  pub value : ℕ
  pub place : ℕ
  pub others : List ℕ
  pub was : number_of greatest bytes at ≡ read value place
  pub then : numbers_of greatests bytes place ≡ read others next
  pub values_are : value ∷ others ≡ values

pub first_read : (greatest : ℕ) (greatests bytes : List ℕ) (at : ℕ) (values : List ℕ) (next : ℕ) → numbers_of (greatest ∷ greatests) bytes at ≡ read values next
    → FirstRead greatest greatests bytes at values next
unfolding numbers_of
first_read greatest greatests bytes at values next e =
    let o = then_read bytes (number_of greatest bytes at) _ e in
    let p = then_read bytes (numbers_of greatests bytes o.place) _ o.then in
    let same = read_same p.then in
    record { value = o.value; place = o.place; others = p.value; was = o.was; then = p.was ∙ ap (read p.value) same.1; values_are = same.0 }

pub none_read : (bytes : List ℕ) (at : ℕ) (values : List ℕ) (next : ℕ) → numbers_of [] bytes at ≡ read values next → ([] ≡ values) × (at ≡ next)
unfolding numbers_of
none_read bytes at values next e = read_same e

-- as many numbers as bounds, and within them
pub record NumbersWithin (greatests values : List ℕ) : Type 0 where
  pub within : AllWithin greatests values
  pub many : length values ≡ length greatests

pub numbers_within : (greatests bytes : List ℕ) (at : ℕ) (values : List ℕ) (next : ℕ) → numbers_of greatests bytes at ≡ read values next → NumbersWithin greatests values
numbers_within [] bytes at values next e = subst (NumbersWithin []) (none_read bytes at values next e).0 (record { within = tt; many = refl })
numbers_within (greatest ∷ greatests) bytes at values next e =
    let f = first_read greatest greatests bytes at values next e in
    let rest = numbers_within greatests bytes f.place f.others next f.then in
    subst (NumbersWithin (greatest ∷ greatests)) f.values_are
    (record { within = ((number_within greatest bytes at f.value f.place f.was).0, rest.within); many = ap suc rest.many })

-- a page that was read
pub record PageIs (bytes : List ℕ) (at : ℕ) (page : PagePlace) (next : ℕ) : Type 0 where
  pub was : number_of longest bytes at ≡ read page.len page.at
  pub next_is : next ≡ page.at + page.len
  pub inside : page.at + page.len ≤ length bytes

pub page_read : (bytes : List ℕ) (at : ℕ) (page : PagePlace) (next : ℕ) → page_of bytes at ≡ read page next → PageIs bytes at page next
unfolding page_of bytes_of
page_read bytes at page next e = go (then_read bytes (number_of longest bytes at) bytes_of e)
  where
    cut : (t : Bool) (len k : ℕ) → number_of longest bytes at ≡ read len k → ltb (length bytes) (k + len) ≡ t
        → cond t (refused (Ends k)) (read (record { at = k; len = len }) (k + len)) ≡ read page next → PageIs bytes at page next
    cut true len k was h x = never (Ends k) x refl
    cut false len k was h x =
        let same = read_same x in
        let is : PageIs bytes at (record { at = k; len = len }) (k + len) = record { was = was; next_is = refl; inside = ltb-false (length bytes) (k + len) h } in
        rw (same.0, same.1) at is

    go : Then bytes (number_of longest bytes at) bytes_of page next → PageIs bytes at page next
    go t = cut (ltb (length bytes) (t.place + t.value)) t.value t.place t.was refl t.then

-- the fields of a whole file
pub record FileParts (bytes : List ℕ) (c : Parsed) (next : ℕ) : Type 0 where
  pub values : List ℕ
  pub place0 : ℕ
  pub page0 : PagePlace
  pub place1 : ℕ
  pub page1 : PagePlace
  pub numbers : numbers_of greatest_values bytes 0 ≡ read values place0
  pub first : PageIs bytes place0 page0 place1
  pub second : PageIs bytes place1 page1 next
  pub parts_are : parsed_of values page0 page1 ≡ c
  pub all : length bytes ≤ next

ended_read : (bytes : List ℕ) (at : ℕ) (parts c : Parsed) (next : ℕ) → ended parts bytes at ≡ read c next → (parts ≡ c) × (at ≡ next) × (length bytes ≤ at)
unfolding ended
ended_read bytes at parts c next e = go (ltb at (length bytes)) refl e
  where
    go : (t : Bool) → ltb at (length bytes) ≡ t → cond t (refused (LeftOver at)) (read parts at) ≡ read c next → (parts ≡ c) × (at ≡ next) × (length bytes ≤ at)
    go true is x = never (LeftOver at) x refl
    go false is x = ((read_same x).0, (read_same x).1, ltb-false at (length bytes) is)

pub file_parts : (bytes : List ℕ) (c : Parsed) (next : ℕ) → campaign_of bytes 0 ≡ read c next → FileParts bytes c next
unfolding campaign_of
file_parts bytes c next e =
    let v = then_read bytes (numbers_of greatest_values bytes 0) _ e in
    let p = then_read bytes (page_of bytes v.place) _ v.then in
    let q = then_read bytes (page_of bytes p.place) _ p.then in
    let l = ended_read bytes q.place (parsed_of v.value p.value q.value) c next q.then in
    record {
      values = v.value;
      place0 = v.place;
      page0 = p.value;
      place1 = p.place;
      page1 = q.value;
      numbers = v.was;
      first = page_read bytes v.place p.value p.place p.was;
      second = page_read bytes p.place q.value next (q.was ∙ ap (read q.value) l.1);
      parts_are = l.0;
      all = omega (arith, l.1, l.2);
    }
