-- The bus log (document 02, F-2): a lent list of entries and how many of them are used. A step's log is its access list, each access as an entry.
use Rattle.std.specs.Prelude.{◌≡◌, ℕ, ◌+◌, ◌-◌, Bool, true, false, cond, List, length, nat_lt, Option, None, Some}
use Rattle.pages.specs.Prog.{Access}
use Rattle.bus.specs.declared.BusLog.{BusLog}
use Rattle.bus.specs.Log.{noted}

-- what a log holds: its entries, and how many of them are used
pub record Log : Type 0 where
  pub entries : List ℕ
  pub used : ℕ

abbrev pub log_of : List ℕ → ℕ → Log
log_of entries used = record { entries = entries; used = used }

abbrev pub held_log : BusLog → Log
held_log log = log_of log.entries.now log.used

-- how many entries are free: none of them where "the used count is beyond the list"
abbrev pub free_of : Log → ℕ
free_of log = length log.entries - log.used

-- the same, where a log is lent
unfoldable pub free_in : Option Log → Option ℕ
free_in None = None
free_in (Some log) = Some (free_of log)

-- "fewer than seven entries are free"
abbrev pub log_full : Option ℕ → Bool
log_full None = false
log_full (Some free) = nat_lt free 7

-- how many are free after these accesses were appended
abbrev pub free_after : Option ℕ → List Access → Option ℕ
free_after None l = None
free_after (Some free) l = Some (free - length l)

-- a log after these accesses: "Each access of a completed step is appended in order", from the used count on
unfoldable pub with_entries : Log → List Access → Log
with_entries log l = log_of (noted log.entries log.used l) (log.used + length l)

-- a log that is lent or not, by a flag: where it is not, there is none, and it stays as it is
abbrev pub lent_if : Bool → Log → Option Log
lent_if lent log = cond lent (Some log) None

abbrev pub appended_if : Bool → Log → List Access → Log
appended_if lent log l = cond lent (with_entries log l) log

-- 11's condition: there is a log, and it is full; and that there is none, or that it is not full
abbrev pub Full : Option ℕ → Type 0
Full free = log_full free ≡ true

abbrev pub NotFull : Option ℕ → Type 0
NotFull free = log_full free ≡ false
