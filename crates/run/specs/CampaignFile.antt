-- Reading a campaign file (document 01, "Campaign file"). The file is a list of bytes, and the reading place is a number that goes in and
-- comes back.
use Rattle.std.specs.Prelude.{ℕ, zero, suc, ◌+◌, ◌-◌, ◌*◌, ◌/◌, ◌%◌, ◌^◌, ◌<◌, ◌≤◌, Bool, cond, not, ◌&&◌, ◌||◌, List, [], ◌∷◌, ◌++◌, length, take, drop, ◌==◌, nat_le, nat_lt, slice_index}
use Rattle.run.specs.declared.campaign_file.Refusal.{Refusal}
use Rattle.run.specs.declared.campaign_file.Refusal.TheVariants.{Ends, Unfit, LeftOver}
use Rattle.run.specs.declared.campaign_file.PagePlace.{PagePlace}
use Rattle.run.specs.declared.campaign_file.Parsed.{Parsed}
use Rattle.run.specs.declared.campaign_file.Asked.{Asked}
use Rattle.arithmetic.specs.declared.record.Lh5801.{Lh5801}
use Rattle.run.specs.RecordNumbers.{record_numbers, record_of, AllWithin}

-- document 01's number for each refusal, and the offset that goes with it
abbrev pub refusal_number : Refusal → ℕ
refusal_number (Ends at) = 8
refusal_number (Unfit at) = 9
refusal_number (LeftOver at) = 10

abbrev pub refusal_offset : Refusal → ℕ
refusal_offset (Ends at) = at
refusal_offset (Unfit at) = at
refusal_offset (LeftOver at) = at

-- "each field is either read with its next place or turned down"
pub data Field (A : Type 0) : Type 0 where
  read : A → ℕ → Field A
  refused : Refusal → Field A

abbrev pub Reader : Type 0 → Type 0
Reader A = List ℕ → ℕ → Field A

-- the rest of the reading, from the place after a field; a refusal is handed upward
abbrev pub and_then : {A B : Type 0} → List ℕ → Field A → (A → Reader B) → Field B
and_then bytes (read a next) rest = rest a bytes next
and_then bytes (refused stop) rest = refused stop

infixl 20 ◌>>=◌
abbrev pub ◌>>=◌ : {A B : Type 0} → Reader A → (A → Reader B) → Reader B
◌>>=◌ field rest = λ bytes at. and_then bytes (field bytes at) rest

abbrev pub given : {A : Type 0} → A → Reader A
given a = λ bytes at. read a at

-- the groups of one number: the bytes end before its last group; a top bit is set on the tenth; or all are there, with the number's value,
-- how many groups it has, and the last of them
pub data Groups : Type 0 where
  ends : Groups
  over : Groups
  whole : ℕ → ℕ → ℕ → Groups

-- one group in front of the others, which weigh 128 times as much. Its top bit does not count
abbrev pub group : ℕ → Groups → Groups
group byte ends = ends
group byte over = over
group byte (whole value count last) = whole (byte % 128 + 128 * value) (suc count) last

-- "A number is groups of seven bits, lowest first, top bit set on all but the last." The first argument says how many groups are left
abbrev pub groups : ℕ → List ℕ → Groups
groups zero bytes = over
groups (suc left) [] = ends
groups (suc left) (byte ∷ bytes) = cond (nat_le 128 byte) (group byte (groups left bytes)) (whole byte 1 byte)

-- what is checked after a number's last group
abbrev pub checked_of : ℕ → ℕ → ℕ → Bool → ℕ → Field ℕ
checked_of begin next value shortest greatest = cond (shortest && nat_le value greatest) (read value next) (refused (Unfit begin))

-- a number is shortest where its last group is not 0, or is the only one
abbrev pub shortest_of : ℕ → ℕ → Bool
shortest_of count last = count == 1 || not (last == 0)

abbrev pub number_from : ℕ → ℕ → Groups → Field ℕ
number_from greatest begin ends = refused (Ends begin)
number_from greatest begin over = refused (Unfit begin)
number_from greatest begin (whole value count last) = checked_of begin (begin + count) value (shortest_of count last) greatest

-- a number of at most ten groups, and at most its field's greatest value
unfoldable pub number_of : ℕ → Reader ℕ
number_of greatest bytes at = number_from greatest at (groups 10 (drop at bytes))

-- ---- the fields in the file's order

-- the fourteen numbers' greatest values: A T, X Y U S P, TM, flags, timer states, previous and ticks, keyboard, limit
abbrev pub greatest_values : List ℕ
greatest_values =
    255 ∷ 255
    ∷ 65535 ∷ 65535 ∷ 65535 ∷ 65535 ∷ 65535
    ∷ 4095
    ∷ 511
    ∷ (2 ^ 64 - 1) ∷ (2 ^ 64 - 1) ∷ (2 ^ 64 - 1)
    ∷ 255
    ∷ (2 ^ 32 - 1) ∷ []

-- numbers one after another, each at most its greatest value
unfoldable pub numbers_of : List ℕ → Reader (List ℕ)
numbers_of [] = given []
numbers_of (greatest ∷ rest) = do
  value ← number_of greatest
  values ← numbers_of rest
  given (value ∷ values)

-- a page's greatest length
abbrev pub longest : ℕ
longest = 16384

-- so many bytes, a page's own. Where fewer are left the refusal names the page's first byte, after its length
unfoldable pub bytes_of : ℕ → Reader PagePlace
bytes_of len bytes at = cond (nat_lt (length bytes) (at + len)) (refused (Ends at)) (read (record { at = at; len = len }) (at + len))

unfoldable pub page_of : Reader PagePlace
page_of = do
  len ← number_of longest
  bytes_of len

-- the keyboard byte and the limit, which follow the record's twelve numbers
abbrev pub asked_of : List ℕ → Asked
asked_of values = record { keyboard = slice_index values 12; limit = slice_index values 13 }

abbrev pub parsed_of : List ℕ → PagePlace → PagePlace → Parsed
parsed_of values page0 page1 = record {
  cpu = record_of values;
  asked = asked_of values;
  page0 = page0;
  page1 = page1;
}

-- nothing is left over
unfoldable pub ended : Parsed → Reader Parsed
ended c bytes at = cond (nat_lt at (length bytes)) (refused (LeftOver at)) (read c at)

-- a whole campaign file
unfoldable pub campaign_of : Reader Parsed
campaign_of = do
  values ← numbers_of greatest_values
  page0 ← page_of
  page1 ← page_of
  ended (parsed_of values page0 page1)

-- ---- writing a campaign file

-- a number in its shortest groups, of which there are at most so many as the first argument says
abbrev pub groups_of : ℕ → ℕ → List ℕ
groups_of zero value = []
groups_of (suc left) value = cond (nat_lt value 128) (value ∷ []) ((128 + value % 128) ∷ groups_of left (value / 128))

unfoldable pub number_bytes : ℕ → List ℕ
number_bytes value = groups_of 10 value

abbrev pub numbers_bytes : List ℕ → List ℕ
numbers_bytes [] = []
numbers_bytes (value ∷ values) = number_bytes value ++ numbers_bytes values

abbrev pub page_bytes : List ℕ → List ℕ
page_bytes page = number_bytes (length page) ++ page

-- what a campaign file says, with the bytes of its pages
pub record Contents : Type 0 where
  pub cpu : Lh5801
  pub asked : Asked
  pub page0 : List ℕ
  pub page1 : List ℕ

abbrev pub fields_of : Lh5801 → Asked → List ℕ
fields_of m asked = record_numbers m ++ (asked.keyboard ∷ asked.limit ∷ [])

-- the file of these contents
unfoldable pub file_of : Contents → List ℕ
file_of c = numbers_bytes (fields_of c.cpu c.asked) ++ (page_bytes c.page0 ++ page_bytes c.page1)

-- every field is at most its greatest value, which the flags of every record are (`flags_small`, proofs/RecordNumbers.antt)
pub record Within (c : Contents) : Type 0 where
  pub numbers : AllWithin greatest_values (fields_of c.cpu c.asked)
  pub page0 : length c.page0 ≤ longest
  pub page1 : length c.page1 ≤ longest

-- a list of bytes, as every file is
abbrev pub Bytes : List ℕ → Type 0
Bytes [] = Unit {0}
Bytes (byte ∷ bytes) = (byte < 256) × Bytes bytes

-- what was read, with the bytes of the pages taken out of the file
abbrev pub contents_of : List ℕ → Parsed → Contents
contents_of bytes c = record {
  cpu = c.cpu;
  asked = c.asked;
  page0 = take c.page0.len (drop c.page0.at bytes);
  page1 = take c.page1.len (drop c.page1.at bytes);
}

-- the contents of a file, or why it is turned down
abbrev pub contents_field : List ℕ → Field Parsed → Field Contents
contents_field bytes (read c next) = read (contents_of bytes c) next
contents_field bytes (refused stop) = refused stop

unfoldable pub contents : List ℕ → Field Contents
contents bytes = contents_field bytes (campaign_of bytes 0)
