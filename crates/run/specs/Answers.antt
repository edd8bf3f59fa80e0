-- What the code of a run call promises: its answer, the pages and the log that it leaves are those of the definition.
use Rattle.std.specs.Prelude.{◌≡◌, ℕ, Bool, List, Option}
use Rattle.pages.specs.Pages.{Pages}
use Rattle.pages.specs.Prog.{Access}
use Rattle.bus.specs.declared.BusLog.{BusLog}
use Rattle.run.specs.declared.Answer.{Answer}
use Rattle.run.specs.BusLog.{held_log, free_in, lent_if, appended_if}
use Rattle.run.specs.Run.{CallResult}

pub record Answers (o : CallResult) (r : Answer) (after : Pages) : Type 0 where
  pub answer : r ≡ o.answer
  pub pages : after ≡ o.pages

-- how many entries of a log are free, if it is lent
abbrev pub free_if : Bool → BusLog → Option ℕ
free_if is_lent log = free_in (lent_if is_lent (held_log log))

-- a log to which these accesses were appended, if it is lent, and nothing else changed: its list is the same one
pub record Logged (is_lent : Bool) (l : List Access) (before after : BusLog) : Type 0 where
  pub log : held_log after ≡ appended_if is_lent (held_log before) l
  pub lent : after.entries.ghost_name ≡ before.entries.ghost_name

-- the answer, the pages and the log: to one that is lent the accesses of the completed steps are appended, and one that is not is as it was
pub record CallAnswers (o : CallResult) (r : Answer) (after : Pages) (is_lent : Bool) (before now : BusLog) : Type 0 where
  pub answers : Answers o r after
  pub logged : Logged is_lent o.bus before now
