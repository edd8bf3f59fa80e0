-- How the code is built, and need not be believed (proofs/Loop.antt and proofs/Stretches.antt tie it): how far a stretch of a call's steps may go, which
-- the code takes as one piece, and what it comes to.
use Rattle.std.specs.Prelude.{◌≡◌, ℕ, Bool, true, false, ◌+◌, ◌<◌, ◌≤◌, ◌⊎◌, List, Option, None, Some, Result, Ok, Err}
use Rattle.arithmetic.specs.declared.record.Lh5801.{Lh5801}
use Rattle.arithmetic.specs.Record.{with_ir1, with_is_timer_reached}
use Rattle.execution.specs.declared.Inputs.{Inputs}
use Rattle.pages.specs.declared.Memory.{Memory}
use Rattle.pages.specs.Pages.{Pages}
use Rattle.pages.specs.Prog.{Access}
use Rattle.pages.specs.Contract.{held, SameLent}
use Rattle.execution.specs.declared.Stop.{Stop}
use Rattle.execution.specs.declared.Stop.TheVariants.{AtAddress}
use Rattle.execution.specs.Step.{stopped}
use Rattle.execution.specs.Completed.{completed_accesses}
use Rattle.execution.specs.Code.Due.{stops_before_of}
use Rattle.bus.specs.declared.BusLog.{BusLog}
use Rattle.run.specs.declared.Settings.{Settings}
use Rattle.run.specs.declared.End.{End}
use Rattle.run.specs.declared.End.TheVariants.{LogFull, Step}
use Rattle.run.specs.declared.Led.{Led}
use Rattle.run.specs.Run.{one_step}
use Rattle.run.specs.Reaches.{Reaches}
use Rattle.run.specs.BusLog.{Full, NotFull}
use Rattle.run.specs.Answers.{free_if, Logged}

abbrev pub led : ℕ → Lh5801 → Option Stop → Led
led steps m s = record { steps = steps; cpu = m; stop = s }

-- after the stretch: more steps are completed than before it, or there is room for the next and it stops
abbrev pub AheadIs : Inputs → ℕ → ℕ → ℕ → Lh5801 → Pages → Option Stop → Type 0
AheadIs inputs done limit steps m p None = done < steps
AheadIs inputs done limit steps m p (Some s) = (steps < limit) × ((one_step inputs m p).answer ≡ stopped s)

-- from the record m and the pages p, where so many steps of the call are done, completed steps lead to the record in r and to the pages q. How many
-- they are is left free: at least one or a stop comes, and with those done before they are at most the limit. No log is looked at
pub record Leads (inputs : Inputs) (done limit : ℕ) (m : Lh5801) (p : Pages) (r : Led) (q : Pages) : Type 0 where
  pub more : ℕ
  pub steps : r.steps ≡ done + more
  pub within : r.steps ≤ limit
  pub states : ℕ
  pub bus : List Access
  pub reached : Reaches inputs None more m p r.cpu q states bus
  pub ahead : AheadIs inputs done limit r.steps r.cpu q r.stop

-- the same in a memory that holds the same lent pages
pub record LeadsIn (s : Settings) (done : ℕ) (m : Lh5801) (l : Memory) (r : Led) (n : Memory) : Type 0 where
  pub leads : Leads s.inputs done s.limit m (held l) r (held n)
  pub lent : SameLent l n

-- no step of the stretch stops before the stop address, so that it is not looked for in between: there is none, or the stretch is one step at most, and
-- that does not
abbrev pub Passes : Settings → ℕ → Lh5801 → Type 0
Passes s done m = (s.inputs.stop_address ≡ None) ⊎ ((s.limit ≤ done + 1) × (stops_before_of m s.inputs ≡ false))

-- before a stretch, where so many steps of a call are done: the stretch's limit, or why the next step is not begun, and what was appended to the log
pub data BeforeStretch (s : Settings) (done : ℕ) (m : Lh5801) (p : Pages) : Bool → Result ℕ End → BusLog → BusLog → Type 0 where
  -- without a log and a stop address it is the call's limit
  unwatched : {log : BusLog} → s.inputs.stop_address ≡ None → BeforeStretch s done m p false (Ok s.limit) log log
  -- the log is full
  full : {log : BusLog} → Full (free_if true log) → BeforeStretch s done m p true (Err LogFull) log log
  -- it is not, and the step stops before the stop address
  at_address : {is_lent : Bool} {log : BusLog} → NotFull (free_if is_lent log) → stops_before_of m s.inputs ≡ true
      → BeforeStretch s done m p is_lent (Err (Step AtAddress)) log log
  -- neither: the accesses of the coming step are appended to a log, none if it will stop, and the stretch is that step
  one_step_alone : {is_lent : Bool} {before after : BusLog} → NotFull (free_if is_lent before) → stops_before_of m s.inputs ≡ false
      → Logged is_lent (completed_accesses (one_step s.inputs m p)) before after
      → BeforeStretch s done m p is_lent (Ok (done + 1)) before after

-- IR1 and timer reached as they were before
unfoldable pub unmoved_of : Lh5801 → Lh5801 → Lh5801
unmoved_of moved before = with_is_timer_reached (with_ir1 moved before.ir1) before.is_timer_reached
