-- The run call: what it tells, leaves and writes, its accesses, and calls one after another.
use Rattle.std.specs.Prelude.{◌≡◌, ℕ, zero, suc, ◌+◌, cond, List, [], ◌∷◌, ◌++◌, Option, None, Some}
use Rattle.arithmetic.specs.declared.record.Lh5801.{Lh5801}
use Rattle.execution.specs.declared.Inputs.{Inputs}
use Rattle.pages.specs.Pages.{Pages}
use Rattle.pages.specs.Prog.{Access, Ran, exec}
use Rattle.pages.specs.Written.{Write, writes}
use Rattle.execution.specs.Step.{StepEnd, did, stopped, step_of}
use Rattle.run.specs.declared.Settings.{Settings}
use Rattle.run.specs.declared.End.{End}
use Rattle.run.specs.declared.End.TheVariants.{AllSteps, LogFull, Step}
use Rattle.run.specs.declared.Answer.{Answer}
use Rattle.run.specs.Acceptance.{end_number, end_byte, not_accepted}
use Rattle.run.specs.BusLog.{log_full, free_after}

-- what a call tells: its end, its completed steps, the sum of their states (document 01's "states") and the record; the pages that it leaves;
-- and what its completed steps did on the bus: their accesses in order
pub record CallResult : Type 0 where
  pub answer : Answer
  pub pages : Pages
  pub bus : List Access

abbrev pub call_result : End → ℕ → ℕ → Lh5801 → Pages → List Access → CallResult
call_result e steps states m p l = record { answer = record { end = e; steps = steps; states = states; cpu = m }; pages = p; bus = l }

-- the writes among them, document 01's "dropped" ones included
abbrev pub writes_of : CallResult → List Write
writes_of o = writes o.bus

-- no step is completed: the given record and pages stand
unfoldable pub no_step : End → Lh5801 → Pages → CallResult
no_step e m p = call_result e 0 0 m p []

-- document 01's "completed step", with its states and its accesses, and what comes after it
unfoldable pub completed : ℕ → List Access → CallResult → CallResult
completed states l o =
    call_result o.answer.end (suc o.answer.steps) (states + o.answer.states) o.answer.cpu o.pages (l ++ o.bus)

-- the result of a call, and then another from what it left: its end, record and pages, the steps and states of both, and the accesses of both in order
unfoldable pub join : CallResult → CallResult → CallResult
join x y =
    call_result y.answer.end (x.answer.steps + y.answer.steps) (x.answer.states + y.answer.states) y.answer.cpu y.pages (x.bus ++ y.bus)

-- what one step comes to
abbrev pub one_step : Inputs → Lh5801 → Pages → Ran StepEnd
one_step inputs m p = exec (step_of m inputs) p

-- after a completed step comes the rest, from its record; "a step that stops is undone whole"
unfoldable pub onward : Lh5801 → Pages → List Access → StepEnd → (Lh5801 → CallResult) → CallResult
onward m p l (did k states kind) rest = completed states l (rest k)
onward m p l (stopped s) rest = no_step (Step s) m p

-- the steps of a call: so many, or up to the first that stops. Free is how many entries of the log are free, if one is lent: before each step 11 is
-- looked for ("checked ahead of 5, 6 and 7"), and a completed step appends its accesses
unfoldable pub run_of : ℕ → Inputs → Option ℕ → Lh5801 → Pages → CallResult
run_of zero inputs free m p = no_step AllSteps m p
run_of (suc n) inputs free m p =
    let x = one_step inputs m p in
    cond (log_full free) (no_step LogFull m p)
    (onward m p x.accesses x.answer (λ k. run_of n inputs (free_after free x.accesses) k x.pages))

unfoldable pub accesses_after : StepEnd → (Lh5801 → List Access) → List Access
accesses_after (did k states kind) rest = rest k
accesses_after (stopped s) rest = []

-- the accesses of those steps in order, and of the step that stops: its reads are reads of the call, and its writes count for what is read first.
-- Where 11 is given, the step is not begun
unfoldable pub accesses_of : ℕ → Inputs → Option ℕ → Lh5801 → Pages → List Access
accesses_of zero inputs free m p = []
accesses_of (suc n) inputs free m p =
    let x = one_step inputs m p in
    cond (log_full free) []
    (x.accesses ++ accesses_after x.answer (λ k. accesses_of n inputs (free_after free x.accesses) k x.pages))

-- a call that is refused, and one that is accepted
unfoldable pub call_unless : Option End → Settings → Option ℕ → Lh5801 → Pages → CallResult
call_unless (Some e) s free m p = no_step e m p
call_unless None s free m p = run_of s.limit s.inputs free m p

-- the run call
unfoldable pub call_of : Settings → Option ℕ → Lh5801 → Pages → CallResult
call_of s free m p = call_unless (not_accepted s m p) s free m p

-- the number and the byte that it returns
abbrev pub call_number : Settings → Option ℕ → Lh5801 → Pages → ℕ
call_number s free m p = end_number (call_of s free m p).answer.end

abbrev pub call_byte : Settings → Option ℕ → Lh5801 → Pages → ℕ
call_byte s free m p = end_byte (call_of s free m p).answer.end

-- what a call that is not accepted returns and leaves: "given record, 0 steps, 0 states; pages untouched"
pub record Refused (m : Lh5801) (p : Pages) (o : CallResult) : Type 0 where
  pub cpu : o.answer.cpu ≡ m
  pub steps : o.answer.steps ≡ 0
  pub states : o.answer.states ≡ 0
  pub byte : end_byte o.answer.end ≡ 0
  pub pages : o.pages ≡ p
  pub bus : o.bus ≡ []

abbrev pub settings : Inputs → ℕ → Settings
settings inputs limit = record { inputs = inputs; limit = limit }

-- run calls with these limits: each gets the same inputs, and the record, the pages and the free entries that the call before left
unfoldable pub calls_of : List ℕ → Inputs → Option ℕ → Lh5801 → Pages → List CallResult
calls_of [] inputs free m p = []
calls_of (limit ∷ limits) inputs free m p =
    let x = call_of (settings inputs limit) free m p in
    x ∷ calls_of limits inputs (free_after free x.bus) x.answer.cpu x.pages
