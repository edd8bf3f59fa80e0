-- The log of a call: what stands in the list and how many entries are used, when it is full, and a run cut into calls.
use Rattle.std.proofs.Common.{◌≡◌, ℕ, ◌+◌, ◌-◌, ◌<◌, ◌≤◌, Bool, false, ◌⊎◌, ◌↔◌, List, [], ◌∷◌, ◌++◌, map, length, take, drop, refl, ap, ◌∙◌, inl, ⊎_elim, add-zero, true≢false, arith, length-append, ltb-false, ltb-true, lt-ltb}
use Rattle.std.specs.Prelude.{Option, None, Some}
use Rattle.arithmetic.specs.declared.record.Lh5801.{Lh5801}
use Rattle.execution.specs.declared.Inputs.{Inputs}
use Rattle.execution.proofs.Accesses.{step_accesses_lem}
use Rattle.pages.specs.Pages.{Pages}
use Rattle.pages.specs.Prog.{Access}
use Rattle.bus.specs.Log.{entry_of}
use Rattle.bus.proofs.Notes.{noted_fits}
use Rattle.run.specs.declared.Settings.{Settings}
use Rattle.run.specs.Acceptance.{Accepted}
use Rattle.run.specs.BusLog.{Log, free_in, free_after, with_entries, lent_if, appended_if, Full}
use Rattle.run.specs.Run.{CallResult, no_step, completed, join, one_step, run_of, call_of, settings}
use Rattle.run.specs.Demand.{sum, AtLeastOne}
use Rattle.run.specs.CutLog.{log_after, log_after_all, CutLog}
use Rattle.run.proofs.BusLog.{appended_none, log_used, free_left, left_then}
use Rattle.run.proofs.Steps.{run_each, run_split}
use Rattle.run.proofs.Acceptance.{limit_some, call_run, call_each}
use Rattle.run.proofs.Demand3.{first_accepted, rest_accepted}

-- ---- when a log is full

-- 11's condition in document 02's words: a log is lent, and fewer than seven entries are free or the used count is beyond the list
pub full_iff : (log : Option Log)
    → Full (free_in log) ↔ ((x : Log) × ((log ≡ Some x) × ((length x.entries - x.used < 7) ⊎ (length x.entries < x.used))))
unfolding free_in
full_iff None = (
  λ f. absurd (true≢false cc),
  λ r. absurd (true≢false (cc r.1.0)),
)
full_iff (Some log) = (
  λ f. (log, (refl, inl (ltb-true (length log.entries - log.used) 7 f))),
  λ r.
      let e : r.0 ≡ log = let q = r.1.0 in cc in
      lt-ltb (length log.entries - log.used) 7 (⊎_elim (λ h. rw e at h) (λ h. omega (arith, rw e at h)) r.1.1),
)

-- ---- the entries fit: a step makes at most seven accesses, and seven entries are free before it

run_fits : (n : ℕ) (inputs : Inputs) (free : Option ℕ) (m : Lh5801) (p : Pages) (k : ℕ) → free ≡ Some k → length (run_of n inputs free m p).bus ≤ k
unfolding no_step completed
run_fits n inputs =
    run_each inputs (λ n free m p o. (k : ℕ) → free ≡ Some k → length o.bus ≤ k)
    (λ free m p k e. omega arith)
    (λ n free m p f k e. omega arith)
    (λ n free m p s f g k e. omega arith)
    (λ n free m p j t kind f e h k g.
    let seven : 7 ≤ k = ltb-false k 7 (rw g at f) in
    let few = step_accesses_lem m inputs p in
    let rest = h (k - length (one_step inputs m p).accesses) (ap (λ (x : Option ℕ). free_after x (one_step inputs m p).accesses) g) in
    rw (length-append (one_step inputs m p).accesses) (omega (arith, seven, few, rest)))
    n

-- the list and the count after any call with a log: "appended in order" from the used count on, and nothing else changes. Where the count is not beyond
-- the list, the entries are all there and the count is at most the list's length; where it is, nothing is appended
module _ (s : Settings) (log : Log) (m : Lh5801) (p : Pages) where
  abbrev bus : List Access
  bus = (call_of s (free_in (Some log)) m p).bus

  call_fits : length bus ≤ length log.entries - log.used
  unfolding free_in no_step
  call_fits =
      call_each s (free_in (Some log)) m p (λ o. length o.bus ≤ length log.entries - log.used) (λ e. omega arith)
      (λ h. run_fits s.limit s.inputs (free_in (Some log)) m p _ refl)

  pub call_entries : log.used ≤ length log.entries
      → ((with_entries log bus).entries ≡ take log.used log.entries ++ map entry_of bus ++ drop (log.used + length bus) log.entries)
      × ((with_entries log bus).used ≡ log.used + length bus)
      × ((with_entries log bus).used ≤ length log.entries)
  unfolding with_entries
  call_entries h = (
    noted_fits log.entries log.used bus (omega (arith, call_fits)),
    log_used log bus,
    omega (arith, call_fits),
  )

  pub beyond_none : length log.entries < log.used → bus ≡ []
  beyond_none h = none_there bus (omega (arith, call_fits))
    where
      none_there : (l : List Access) → length l ≡ 0 → l ≡ []
      none_there [] e = refl
      none_there (x ∷ l) e = absurd (omega arith)

  pub call_beyond : length log.entries < log.used → with_entries log bus ≡ log
  call_beyond h = rw (beyond_none h) (appended_none log)

-- where a list and a count are not lent as a log they are as they were
pub call_unlogged : (s : Settings) (lent : Bool) (log : Log) (m : Lh5801) (p : Pages) → lent ≡ false
    → appended_if lent log (call_of s (free_in (lent_if lent log)) m p).bus ≡ log
call_unlogged s lent log m p off = rw off refl

-- ---- a run cut into calls

-- the calls of a list leave what one run with the sum of their limits leaves
cut : (l : ℕ) (ls : List ℕ) (inputs : Inputs) (lent : Bool) (log : Log) (m : Lh5801) (p : Pages)
    → Accepted (settings inputs (l + sum ls)) m p → 1 ≤ l → AtLeastOne ls
    → log_after_all (l ∷ ls) inputs lent log m p ≡ appended_if lent log (run_of (l + sum ls) inputs (free_in (lent_if lent log)) m p).bus
unfolding sum AtLeastOne log_after_all log_after join
cut l [] inputs lent log m p h i is = rw (call_run (settings inputs l) (free_in (lent_if lent log)) m p (first_accepted l 0 inputs h i), add-zero) refl
cut l (k ∷ ks) inputs lent log m p h i is =
    let free : Option ℕ = free_in (lent_if lent log) in
    let o : CallResult = run_of l inputs free m p in
    let rest : CallResult = run_of (k + sum ks) inputs (free_after free o.bus) o.answer.cpu o.pages in
    let y : Log = appended_if lent log o.bus in
    rw (call_run (settings inputs l) free m p (first_accepted l (k + sum ks) inputs h i))
    (cut k ks inputs lent y o.answer.cpu o.pages (rest_accepted l (k + sum ks) inputs free h (omega (arith, is.0))) is.0 is.1
    ∙ ap (λ (f : Option ℕ). appended_if lent y (run_of (k + sum ks) inputs f o.answer.cpu o.pages).bus) (free_left lent log o.bus)
    ∙ left_then lent log o.bus rest.bus
    ∙ ap (λ (r : CallResult). appended_if lent log r.bus) (run_split l (k + sum ks) inputs free m p (omega (arith, is.0))))

pub cut_log : CutLog
unfolding CutLog sum AtLeastOne log_after
cut_log s lent log m p h [] is e = absurd (omega (arith, limit_some h))
cut_log s lent log m p h (k ∷ ks) is e =
    cut k ks s.inputs lent log m p (rw e h) is.0 is.1
    ∙ rw (e, call_run s (free_in (lent_if lent log)) m p h) refl
