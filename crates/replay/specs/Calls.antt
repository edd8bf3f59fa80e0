-- One call of the list, an item of the list, and the whole list.
use Rattle.std.specs.Prelude.{◌≡◌, ℕ, zero, suc, ◌+◌, ◌*◌, ◌<◌, ◌≤◌, Bool, true, cond, not, ◌||◌, List, length, take, drop, replicate, ◌==◌, nat_lt, slice_index, Option, None, Some}
use Rattle.std.specs.Int.{from_bool}
use Rattle.pages.specs.Pages.{read_only_of}
use Rattle.pages.specs.Prog.{Access}
use Rattle.execution.specs.Inputs.{of_keyboard}
use Rattle.run.specs.declared.Settings.{Settings}
use Rattle.run.specs.declared.campaign_file.Parsed.{Parsed}
use Rattle.run.specs.declared.campaign_file.Refusal.{Refusal}
use Rattle.run.specs.CampaignFile.{Field, read, refused, campaign_of, refusal_number, refusal_offset}
use Rattle.run.specs.Line.{refusal_line_of}
use Rattle.run.specs.BusLog.{Log, log_of, free_in, with_entries}
use Rattle.run.specs.Run.{CallResult, settings}
use Rattle.run.specs.Report.{answer_line}
use Rattle.run.specs.Parts.{run_parts_of}
use Rattle.replay.specs.declared.Sums.{Sums}
use Rattle.replay.specs.declared.Lent.{Lent}
use Rattle.replay.specs.declared.Item.{Item}
use Rattle.replay.specs.declared.Items.{Items}
use Rattle.replay.specs.declared.Tally.{Tally}
use Rattle.replay.specs.Numbers.{number_at, sums_after_of, same_sums}
use Rattle.replay.specs.Bytes.{patch_of, filled_page_of, bytes_differ}

-- what an item says, by value: a campaign file, what is lent to its call, the bytes that are set, and the line and the sums that are wanted
pub record ItemValue : Type 0 where
  pub file : List ℕ
  pub lent : Lent
  pub sets : List ℕ
  pub want : List ℕ
  pub want_sums : Sums

-- what an item of the program says: its slices are parts of the list
abbrev pub item_value : Item → ItemValue
item_value item = record { file = item.file.now; lent = item.lent; sets = item.sets.now; want = item.want.now; want_sums = item.want_sums }

-- a file that was turned down: is its line not the wanted one?
unfoldable pub refusal_differs_of : Refusal → List ℕ → Bool
refusal_differs_of stop want = bytes_differ (refusal_line_of (refusal_number stop) (refusal_offset stop)) want

-- a page of zeros
abbrev pub blank : List ℕ
blank = replicate 65537 0

-- the list that a call gets: 64 entries that no access has
abbrev pub unused : List ℕ
unused = replicate 64 0xFFFFFFFF

-- the log that an item lends, by its used count: 65,535 says that there is none
unfoldable pub log_in : ℕ → Option ℕ
log_in used = cond (used == 65535) None (Some used)

-- the stop address that an item gives: a number above 65,535 says that there is none
unfoldable pub stop_address_in : ℕ → Option ℕ
stop_address_in number = cond (nat_lt 65535 number) None (Some number)

-- what an item's call is given by its file, and by the stop address
abbrev pub item_settings : ItemValue → Parsed → Settings
item_settings item c = settings (record (of_keyboard c.asked.keyboard) { stop_address = item.lent.stop_address }) c.asked.limit

-- a log whose entries are unused but for so many, if one is lent
abbrev pub lent_log : Option ℕ → Option Log
lent_log None = None
lent_log (Some used) = Some (log_of unused used)

-- the list and the used count after these accesses; without a log the list is as it was, and the count 0
abbrev pub log_left : Option ℕ → List Access → Log
log_left None l = log_of unused 0
log_left (Some used) l = with_entries (log_of unused used) l

-- the call of an item's file, which was read, on the pages, with the read-only part and with the log that the item lends, and with its stop address
unfoldable pub call_result_of : ItemValue → Parsed → CallResult
call_result_of item c =
    run_parts_of (item_settings item c) (free_in (lent_log item.lent.log)) c.cpu
    (patch_of (filled_page_of blank item.lent.len0 item.lent.rule item.file c.page0) 0 item.sets) item.lent.len0
    (patch_of (filled_page_of blank item.lent.len1 item.lent.rule item.file c.page1) 1 item.sets) item.lent.len1 item.lent.read_only

-- the sums over both pages after a call, then over all entries of the list, then over the used count
abbrev pub result_sums : Option ℕ → CallResult → Sums
result_sums log o = sums_after_of o.pages.page0 o.pages.page1 (log_left log o.bus).entries (log_left log o.bus).used

-- a call tells another line than the wanted one, or leaves pages, list and used count of other sums
abbrev pub result_differs : Option ℕ → CallResult → List ℕ → Sums → Bool
result_differs log o want want_sums = bytes_differ (answer_line o.answer) want || not (same_sums (result_sums log o) want_sums)

unfoldable pub call_differs_of : ItemValue → Parsed → Bool
call_differs_of item c = result_differs item.lent.log (call_result_of item c) item.want item.want_sums

-- a file that is read is one call; a file that is turned down has a line only
abbrev pub file_differs : Field Parsed → ItemValue → Bool
file_differs (read c next) item = call_differs_of item c
file_differs (refused stop) item = refusal_differs_of stop item.want

-- one call of the list; one whose pages are longer than 65,537 bytes differs
unfoldable pub differs_of : ItemValue → Bool
differs_of item =
    cond (nat_lt 65537 item.lent.len0) true (cond (nat_lt 65537 item.lent.len1) true (file_differs (campaign_of item.file 0) item))

-- what is read from the start of a list, with what is left of it; nothing where the list ends before
abbrev pub Reader : Type 0 → Type 0
Reader A = List ℕ → Option (A × List ℕ)

abbrev pub and_then : {A B : Type 0} → Option (A × List ℕ) → (A → Reader B) → Option (B × List ℕ)
and_then None rest = None
and_then (Some found) rest = rest found.0 found.1

infixl 20 ◌>>=◌
abbrev pub ◌>>=◌ : {A B : Type 0} → Reader A → (A → Reader B) → Reader B
◌>>=◌ first rest = λ list. and_then (first list) rest

abbrev pub given : {A : Type 0} → A → Reader A
given a = λ list. Some (a, list)

-- so many bytes
unfoldable pub taken : ℕ → Reader (List ℕ)
taken len list = cond (nat_lt (length list) len) None (Some (take len list, drop len list))

-- a number of so many bytes, the lowest first
unfoldable pub number : ℕ → Reader ℕ
number len = do
  bytes ← taken len
  given (number_at len bytes 0)

-- an item: its numbers, its campaign file, its line, the bytes that are set, four for each, and the two sums
unfoldable pub item_in : Reader ItemValue
item_in = do
  file_len ← number 2
  len0 ← number 4
  len1 ← number 4
  bytes ← taken 4
  used ← number 2
  read_only_first ← number 4
  read_only_end ← number 4
  stop ← number 4
  file ← taken file_len
  line ← taken (slice_index bytes 0)
  sets ← taken (4 * slice_index bytes 3)
  first_sum ← number 8
  second_sum ← number 8
  given (record {
    file = file;
    lent = record {
      len0 = len0;
      len1 = len1;
      rule = record { first = slice_index bytes 1; step = slice_index bytes 2 };
      read_only = read_only_of read_only_first read_only_end;
      log = log_in used;
      stop_address = stop_address_in stop;
    };
    sets = sets;
    want = line;
    want_sums = record { first = first_sum; second = second_sum };
  })

-- the next item of those that are left: there is no byte left; or the item is cut off, and the list ends with it; or it is read, and fewer bytes are left
abbrev pub GivesItem : Items → Option (Option Item) → Items → Type 0
GivesItem old None new = length old.left.now ≡ 0
GivesItem old (Some None) new = (item_in old.left.now ≡ None) × (0 < length old.left.now) × (length new.left.now ≡ 0)
GivesItem old (Some (Some item)) new = (item_in old.left.now ≡ Some (item_value item, new.left.now)) × (length new.left.now < length old.left.now)

-- one call more, and one more that differs where it does
abbrev pub with_call : Tally → Bool → Tally
with_call tally differs = record { calls = tally.calls + 1; differ = tally.differ + from_bool differs }

-- an item is counted, and then those after it. An item that is cut off counts as a call that differs, and ends the list
abbrev pub with_item : Tally → Option (ItemValue × List ℕ) → (List ℕ → Tally → Tally) → Tally
with_item tally None rest = with_call tally true
with_item tally (Some found) rest = rest found.1 (with_call tally (differs_of found.0))

-- the items of a list, of which there are at most so many as the first argument says, counted after those before them
unfoldable pub replay_from : ℕ → List ℕ → Tally → Tally
replay_from zero list tally = tally
replay_from (suc more) list tally = cond (nat_lt 0 (length list)) (with_item tally (item_in list) (replay_from more)) tally

-- the whole list. An item has at least one byte, so there are at most as many items as bytes
unfoldable pub replay_of : List ℕ → Tally
replay_of bytes = replay_from (length bytes) bytes (record { calls = 0; differ = 0 })

-- what is counted of a file: the tally of some bytes, at most 65,536
pub record Replayed (r : Tally) : Type 0 where
  pub bytes : List ℕ
  pub few : length bytes ≤ 65536
  pub is : r ≡ replay_of bytes
