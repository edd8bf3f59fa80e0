-- Whether a run call is accepted, and the numbers of its ends (document 01, "What a call tells, place by place").
use Rattle.std.specs.Prelude.{◌≡◌, ℕ, ◌<◌, cond, ◌||◌, ◌⊎◌, length, ◌==◌, nat_lt, Option, None, Some}
use Rattle.arithmetic.specs.declared.record.Lh5801.{Lh5801}
use Rattle.pages.specs.Pages.{Pages}
use Rattle.execution.specs.Stops.{stop_number, stop_byte}
use Rattle.run.specs.declared.Settings.{Settings}
use Rattle.run.specs.declared.End.{End}
use Rattle.run.specs.declared.End.TheVariants.{AllSteps, Page0Length, Page1Length, TimerValue, Limit, LogFull, Step}

-- document 01's number of each end, and document 02's 11 and 12
abbrev pub end_number : End → ℕ
end_number AllSteps = 0
end_number Page0Length = 1
end_number Page1Length = 2
end_number TimerValue = 3
end_number Limit = 4
end_number LogFull = 11
end_number (Step s) = stop_number s

-- and its byte
abbrev pub end_byte : End → ℕ
end_byte (Step s) = stop_byte s
end_byte end = 0

-- the conditions of 1 to 4
abbrev pub Page0TooLong : Pages → Type 0
Page0TooLong p = 65_536 < length p.page0

abbrev pub Page1TooLong : Pages → Type 0
Page1TooLong p = 65_536 < length p.page1

abbrev pub TimerTooLarge : Lh5801 → Type 0
TimerTooLarge m = 511 < m.tm

abbrev pub LimitOut : Settings → Type 0
LimitOut s = (s.limit ≡ 0) ⊎ (1_000_000 < s.limit)

-- document 01's "accepted": "unless a condition of 1 to 4 holds"
pub record Accepted (s : Settings) (m : Lh5801) (p : Pages) : Type 0 where
  pub page0 : ¬ Page0TooLong p
  pub page1 : ¬ Page1TooLong p
  pub timer : ¬ TimerTooLarge m
  pub limit : ¬ LimitOut s

-- why a call is refused, if it is: the first of the conditions that holds, in document 01's order
unfoldable pub not_accepted : Settings → Lh5801 → Pages → Option End
not_accepted s m p =
    cond (nat_lt 65_536 (length p.page0)) (Some Page0Length)
    (cond (nat_lt 65_536 (length p.page1)) (Some Page1Length)
    (cond (nat_lt 511 m.tm) (Some TimerValue)
    (cond (s.limit == 0 || nat_lt 1_000_000 s.limit) (Some Limit) None)))
