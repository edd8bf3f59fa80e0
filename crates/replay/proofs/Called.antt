-- What a call answers and leaves, compared with what is wanted.
use Rattle.std.proofs.Common.{◌≡◌, ℕ, not, ◌||◌, List, ap, refl}
use Rattle.std.specs.Prelude.{Option, None, Some, is_some, unwrap_or}
use Rattle.pages.specs.declared.ReadOnly.{ReadOnly}
use Rattle.pages.specs.Pages.{Pages, pages}
use Rattle.run.specs.declared.Answer.{Answer}
use Rattle.run.specs.Answers.{Answers}
use Rattle.pages.specs.Prog.{Access}
use Rattle.run.specs.BusLog.{Log, log_of, free_in, lent_if, appended_if}
use Rattle.run.specs.Run.{CallResult}
use Rattle.run.specs.Report.{answer_line}
use Rattle.replay.specs.declared.Sums.{Sums}
use Rattle.replay.specs.Numbers.{sums_after_of, same_sums}
use Rattle.replay.specs.Bytes.{bytes_differ}
use Rattle.replay.specs.Calls.{unused, lent_log, log_left, result_differs}

pub called : {o : CallResult} (log : Option ℕ) {a : Answer} {page0 page1 : List ℕ} {r : ReadOnly} {left : Log} (want : List ℕ) (want_sums : Sums)
    → Answers o a (pages page0 page1 r)
    → left ≡ log_left log o.bus
    → (bytes_differ (answer_line a) want || not (same_sums (sums_after_of page0 page1 left.entries left.used) want_sums)) ≡ result_differs log o want want_sums
called log want want_sums a l = rw (a.answer, ap (λ (p : Pages). p.page0) a.pages, ap (λ (p : Pages). p.page1) a.pages, l) refl

-- an item's log, by whether it lends one and by the used count
pub lent_by : (log : Option ℕ) → free_in (lent_if (is_some log) (log_of unused (unwrap_or log 0))) ≡ free_in (lent_log log)
lent_by None = refl
lent_by (Some used) = refl

pub left_by : (log : Option ℕ) (l : List Access) → appended_if (is_some log) (log_of unused (unwrap_or log 0)) l ≡ log_left log l
left_by None l = refl
left_by (Some used) l = refl
