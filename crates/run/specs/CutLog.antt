-- Run calls with a log, one after another (document 02, F-2): "A run cut into calls that hand on the count leaves the same log as one call".
use Rattle.std.specs.Prelude.{◌≡◌, ℕ, Bool, List, [], ◌∷◌}
use Rattle.arithmetic.specs.declared.record.Lh5801.{Lh5801}
use Rattle.execution.specs.declared.Inputs.{Inputs}
use Rattle.pages.specs.Pages.{Pages}
use Rattle.run.specs.declared.Settings.{Settings}
use Rattle.run.specs.Acceptance.{Accepted}
use Rattle.run.specs.BusLog.{Log, free_in, lent_if, appended_if}
use Rattle.run.specs.Run.{call_of, settings}
use Rattle.run.specs.Demand.{sum, AtLeastOne}

-- the list and the count that a call leaves, whether they are lent as a log or not
unfoldable pub log_after : Settings → Bool → Log → Lh5801 → Pages → Log
log_after s lent log m p = appended_if lent log (call_of s (free_in (lent_if lent log)) m p).bus

-- those that calls with these limits leave: each gets the same inputs, and the record, the pages, the list and the count that the call before left
unfoldable pub log_after_all : List ℕ → Inputs → Bool → Log → Lh5801 → Pages → Log
log_after_all [] inputs lent log m p = log
log_after_all (limit ∷ limits) inputs lent log m p =
    let o = call_of (settings inputs limit) (free_in (lent_if lent log)) m p in
    log_after_all limits inputs lent (log_after (settings inputs limit) lent log m p) o.answer.cpu o.pages

-- for every accepted run and every list of limits, at least 1 each, that add up to the run's: the same list and the same count, whether the log fills
-- or not, and whether it is lent or not. "Provided the list never fills" is not needed
unfoldable pub CutLog : Type 0
CutLog =
    (s : Settings) (lent : Bool) (log : Log) (m : Lh5801) (p : Pages)
    → Accepted s m p
    → (limits : List ℕ)
    → AtLeastOne limits
    → sum limits ≡ s.limit
    → log_after_all limits s.inputs lent log m p ≡ log_after s lent log m p
