-- Demand 3 (document 01, "The runs of demand 3"): one statement about a run and a whole list of run calls.
use Rattle.std.specs.Prelude.{◌≡◌, ℕ, ◌+◌, ◌≤◌, ◌≢◌, List, [], ◌∷◌, map, Option}
use mathlib.Core.List.{flatten, get_last}
use Rattle.arithmetic.specs.declared.record.Lh5801.{Lh5801}
use Rattle.execution.specs.declared.Inputs.{Inputs}
use Rattle.pages.specs.Pages.{Pages, SameLayout}
use Rattle.pages.specs.Written.{Written, Agree}
use Rattle.run.specs.declared.Settings.{Settings}
use Rattle.run.specs.Acceptance.{end_number, end_byte, Accepted}
use Rattle.run.specs.Run.{CallResult, writes_of, accesses_of, call_of, settings, calls_of}
use Rattle.run.specs.BusLog.{free_after}

unfoldable pub sum : List ℕ → ℕ
sum [] = 0
sum (x ∷ xs) = x + sum xs

unfoldable pub AtLeastOne : List ℕ → Type 0
AtLeastOne [] = Unit {0}
AtLeastOne (x ∷ xs) = (1 ≤ x) × AtLeastOne xs

-- every call of the list is accepted
unfoldable pub AllAccepted : List ℕ → Inputs → Option ℕ → Lh5801 → Pages → Type 0
AllAccepted [] inputs free m p = Unit {0}
AllAccepted (limit ∷ limits) inputs free m p =
    let x = call_of (settings inputs limit) free m p in
    Accepted (settings inputs limit) m p × AllAccepted limits inputs (free_after free x.bus) x.answer.cpu x.pages

-- the calls, from the pages q, tell and do what the run, from the pages p, does
pub record SameAsRun (p q : Pages) (run : CallResult) (calls : List CallResult) : Type 0 where
  pub some_call : calls ≢ []
  -- document 01's "final stop": the number and the byte that the last call returns
  pub end : (get_last calls some_call).answer.end ≡ run.answer.end
  pub number : end_number (get_last calls some_call).answer.end ≡ end_number run.answer.end
  pub byte : end_byte (get_last calls some_call).answer.end ≡ end_byte run.answer.end
  -- document 01's "end record": the one that it returns
  pub cpu : (get_last calls some_call).answer.cpu ≡ run.answer.cpu
  -- "Steps and states are summed over the calls"
  pub steps : sum (map (λ (o : CallResult). o.answer.steps) calls) ≡ run.answer.steps
  pub states : sum (map (λ (o : CallResult). o.answer.states) calls) ≡ run.answer.states
  -- every access of the completed steps in order: so the log's entries are the same sequence (document 02, F-2), and so are the writes
  pub bus : flatten (map (λ (o : CallResult). o.bus) calls) ≡ run.bus
  pub wrote : flatten (map writes_of calls) ≡ writes_of run
  -- on both sides a written byte holds what was last written there, and each unwritten byte is its own page's
  pub run_pages : Written p (writes_of run) run.pages
  pub list_pages : Written q (flatten (map writes_of calls)) (get_last calls some_call).pages

-- for every accepted run, and every list of limits, at least 1 each, that add up to the run's; for pages equally long, with "the same two addresses on
-- both sides" (document 02, F-4), that agree at each byte that the run reads before it has written it, where "a dropped write leaves its byte unwritten".
-- Run and list share the inputs: the keyboard byte, "comparable .. only if their idle figures are equal too" (F-1) the idle figure, and, as "equal stop
-- addresses join what two compared runs have in common" (F-5), the stop address. They "start with equally many free entries, or neither has a log" (F-2). An
-- empty list adds up to 0, and such a run is not accepted
unfoldable pub Demand3 : Type 0
Demand3 =
    (s : Settings) (free : Option ℕ) (m : Lh5801) (p : Pages)
    → Accepted s m p
    → (limits : List ℕ)
    → AtLeastOne limits
    → sum limits ≡ s.limit
    → (q : Pages)
    → SameLayout p q
    → Agree p q (accesses_of s.limit s.inputs free m p)
    → AllAccepted limits s.inputs free m q × SameAsRun p q (call_of s free m p) (calls_of limits s.inputs free m q)
