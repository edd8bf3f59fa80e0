-- The loop over stretches of steps, with a log that may be lent: what it keeps, and how a stretch, a stop, a full log, the stop address and the limit go
-- on from it.
use Rattle.std.proofs.Common.{◌≡◌, ℕ, ◌+◌, ◌-◌, ◌<◌, ◌≤◌, Bool, true, false, not, ◌&&◌, List, [], ◌++◌, length, sym, refl, ap, ◌∙◌, append-nil, true≢false, ltb-false, arith, subst}
use Rattle.std.specs.Prelude.{Option, None, Some, Ok, Err, is_some}
use Rattle.arithmetic.specs.declared.record.Lh5801.{Lh5801}
use Rattle.execution.specs.declared.Inputs.{Inputs}
use Rattle.execution.specs.declared.Stop.{Stop}
use Rattle.execution.specs.declared.Stop.TheVariants.{AtAddress}
use Rattle.execution.proofs.DueTest.{stops_before_is}
use Rattle.execution.proofs.StopConditions.{stops_12}
use Rattle.execution.specs.Step.{stopped}
use Rattle.execution.specs.Completed.{completed_accesses}
use Rattle.pages.specs.declared.Memory.{Memory}
use Rattle.pages.specs.Pages.{Pages}
use Rattle.pages.specs.Prog.{Access}
use Rattle.pages.specs.Contract.{held, SameLent}
use Rattle.pages.proofs.Does.{lent_same, lent_then}
use Rattle.bus.specs.declared.BusLog.{BusLog}
use Rattle.run.specs.declared.End.{End}
use Rattle.run.specs.declared.End.{End}
use Rattle.run.specs.declared.End.TheVariants.{AllSteps, LogFull, Step}
use Rattle.run.specs.declared.Led.{Led}
use Rattle.run.specs.declared.Settings.{Settings}
use Rattle.run.specs.BusLog.{free_in, free_after, Full, NotFull}
use Rattle.run.specs.Acceptance.{not_accepted}
use Rattle.run.specs.Run.{CallResult, call_result, one_step, run_of, call_of, settings}
use Rattle.run.specs.Reaches.{Reaches, start, next}
use Rattle.run.specs.declared.Answer.{Answer}
use Rattle.run.specs.Answers.{free_if, Logged, CallAnswers}
use Rattle.run.specs.Code.Leads.{AheadIs, Leads, LeadsIn, BeforeStretch, unwatched, full, at_address, one_step_alone}
use Rattle.run.specs.Code.States.{answer_of, states_between, AnswersIn}
use Rattle.run.proofs.BusLog.{after_none, after_append, logged_none, logged_then, logged_free}
use Rattle.run.proofs.Acceptance.{call_run, accepted_by}
use Rattle.run.proofs.Loop.{Going, at_start_lem}
use Rattle.run.proofs.Steps.{run_written}
use Rattle.run.proofs.Ends.{reaches_run, reaches_full, reaches_stop, reaches_all, reaches_none, reaches_logged, reaches_ticks, reaches_most}

-- before a stretch, by the code's tests
module _ (s : Settings) (done : ℕ) (m : Lh5801) (p : Pages) where
  pub ahead_unwatched : (none is_lent : Bool) (log : BusLog) → is_some s.inputs.stop_address ≡ not none → not is_lent && none ≡ true
      → BeforeStretch s done m p is_lent (Ok s.limit) log log
  ahead_unwatched none true log n e = absurd (true≢false (sym e))
  ahead_unwatched none false log n e = go s.inputs.stop_address refl (n ∙ ap not e)
    where
      go : (a : Option ℕ) → s.inputs.stop_address ≡ a → is_some a ≡ false → BeforeStretch s done m p false (Ok s.limit) log log
      go None i t = unwatched i
      go (Some x) i t = absurd (true≢false t)

  pub ahead_full : (is_lent : Bool) (log : BusLog) → Full (free_if is_lent log) → BeforeStretch s done m p is_lent (Err LogFull) log log
  unfolding free_in
  ahead_full true log e = full e
  ahead_full false log e = absurd (true≢false (sym e))

-- and where a log is lent and not full, its used count is that of entries that it has
pub room_counted : (is_lent : Bool) (log : BusLog) → is_lent ≡ true → NotFull (free_if is_lent log) → log.used + 7 ≤ length log.entries.now
unfolding free_in
room_counted true log e f = omega (arith, ltb-false (length log.entries.now - log.used) 7 f)
room_counted false log e f = absurd (true≢false (sym e))

-- so many completed steps of the call have led here, and their accesses were appended, if a log is lent
pub record Stretched (s : Settings) (is_lent : Bool) (before : BusLog) (first : Lh5801) (l : Memory) (steps : ℕ) (m : Lh5801) (n : Memory) (now : BusLog) : Type 0 where
  pub going : Going s.inputs s.limit (free_if is_lent before) first (held l) steps m (held n)
  pub lent : SameLent l n
  pub logged : Logged is_lent going.bus before now

pub stretched_start : {s : Settings} {is_lent : Bool} {log : BusLog} {m : Lh5801} {l : Memory} → Stretched s is_lent log m l 0 m l log
stretched_start {s} {is_lent} {log} {m} {l} =
    record { going = at_start_lem s.inputs s.limit (free_if is_lent log) m (held l); lent = lent_same; logged = logged_none }

-- what is told and left, from what the call comes to
told : {o : CallResult} {l n : Memory} {e : End} {j t u : ℕ} {k : Lh5801} {bus : List Access} {is_lent : Bool} {before now : BusLog}
    → o ≡ call_result e j t k (held n) bus → u ≡ t → SameLent l n → Logged is_lent bus before now
    → AnswersIn o l (answer_of e j u k) n is_lent before now
told c w s g = rw (c, w) (record { answers = record { answer = refl; pages = refl }; lent = s; logged = g })

-- the accesses of one completed step, or of none before one that stops
one_bus : {inputs : Inputs} {j : ℕ} {m k : Lh5801} {p q : Pages} {t : ℕ} {l : List Access}
    → Reaches inputs None j m p k q t l → j ≤ 1 → (j ≡ 0 → completed_accesses (one_step inputs k q) ≡ [])
    → completed_accesses (one_step inputs m p) ≡ l
one_bus start h none = none refl
one_bus (next f e r) h none = rw (e, (reaches_none r (omega (arith, h))).3) (sym (append-nil _))

-- why a step is not begun: the log is full; or it is not, and the step stops before the stop address
data EndsAhead (s : Settings) (m : Lh5801) (p : Pages) (free : Option ℕ) : End → Type 0 where
  is_full : Full free → EndsAhead s m p free LogFull
  is_there : NotFull free → (one_step s.inputs m p).answer ≡ stopped AtAddress → EndsAhead s m p free (Step AtAddress)

-- what is known before a stretch
module _ {s : Settings} {done : ℕ} {m : Lh5801} {p : Pages} where
  room_ahead : {is_lent : Bool} {reach : ℕ} {now after : BusLog} → done < s.limit → BeforeStretch s done m p is_lent (Ok reach) now after → reach ≤ s.limit
  room_ahead h (unwatched e) = omega arith
  room_ahead h (one_step_alone f e g) = omega (arith, h)

  end_ahead : {is_lent : Bool} {e : End} {now after : BusLog} → BeforeStretch s done m p is_lent (Err e) now after
      → (after ≡ now) × EndsAhead s m p (free_if is_lent now) e
  end_ahead (full f) = (refl, is_full f)
  end_ahead (at_address f e) = (refl, is_there f ((stops_12 m s.inputs p).1 ((stops_before_is m s.inputs).0 e)))

-- where no step of a stretch was completed, the next one stops, and none of its accesses is logged
none_before : {inputs : Inputs} {done limit : ℕ} {m : Lh5801} {p : Pages} {r : Led} {q : Pages} (d : Leads inputs done limit m p r q) → d.more ≡ 0
    → completed_accesses (one_step inputs r.cpu q) ≡ []
none_before {inputs} {done} {limit} {r = r} {q = q} d z = go r.stop d.ahead
  where
    go : (x : Option Stop) → AheadIs inputs done limit r.steps r.cpu q x → completed_accesses (one_step inputs r.cpu q) ≡ []
    go None a = absurd (omega (arith, a, z, d.steps))
    go (Some s) a = rw a.1 refl

module _ {s : Settings} {done : ℕ} {m : Lh5801} {p : Pages} {r : Led} {q : Pages} where
  -- what a stretch leads to, with the log as it was left before it
  stretch_reached : {is_lent : Bool} {reach : ℕ} {now after : BusLog} (d : Leads s.inputs done reach m p r q)
      → BeforeStretch s done m p is_lent (Ok reach) now after
      → Reaches s.inputs (free_if is_lent now) d.more m p r.cpu q d.states d.bus × Logged is_lent d.bus now after
  unfolding free_in
  stretch_reached d (unwatched e) = (d.reached, record { log = refl; lent = refl })
  stretch_reached d (one_step_alone f e g) =
      let few : d.more ≤ 1 = omega (arith, d.within, d.steps) in
      (reaches_logged f few d.reached, rw (one_bus d.reached few (none_before d)) at g)

  -- before a stop the log is not full
  not_full_ahead : {is_lent : Bool} {reach : ℕ} {now after : BusLog} {x : Stop} (d : Leads s.inputs done reach m p r q)
      → BeforeStretch s done m p is_lent (Ok reach) now after
      → r.stop ≡ Some x
      → NotFull (free_after (free_if is_lent now) d.bus)
  unfolding free_in
  not_full_ahead d (unwatched n) e = refl
  not_full_ahead {is_lent = is_lent} {now = now} {x = x} d (one_step_alone f n g) e =
      let stops : AheadIs s.inputs done (done + 1) r.steps r.cpu q (Some x) = subst (AheadIs s.inputs done (done + 1) r.steps r.cpu q) e d.ahead in
      let none : d.more ≡ 0 = omega (arith, stops.0, d.steps) in
      subst (λ (l : List Access). NotFull (free_after (free_if is_lent now) l)) (sym (reaches_none d.reached none).3)
      (subst NotFull (sym (after_none (free_if is_lent now))) f)

-- the states so far, from the ticks
counted : {s : Settings} {is_lent : Bool} {before : BusLog} {first : Lh5801} {l : Memory} {steps : ℕ} {m : Lh5801} {n : Memory} {now : BusLog}
    (g : Stretched s is_lent before first l steps m n now) → s.inputs.idle ≤ 255 → s.limit ≤ 1_000_000 → states_between first.ticks m.ticks ≡ g.going.states
counted g i j = omega (arith, reaches_ticks g.going.reached, reaches_most i g.going.reached, g.going.within)

module _ {s : Settings} {is_lent : Bool} {before : BusLog} {first : Lh5801} {l : Memory} {steps : ℕ} {m : Lh5801} {n : Memory} {now : BusLog}
    (g : Stretched s is_lent before first l steps m n now) where
  abbrev call : CallResult
  call = run_of s.limit s.inputs (free_if is_lent before) first (held l)

  -- all steps are done
  pub stretched_all : s.limit ≤ steps → s.inputs.idle ≤ 255 → s.limit ≤ 1_000_000
      → AnswersIn call l (answer_of AllSteps steps (states_between first.ticks m.ticks) m) n is_lent before now
  stretched_all h i j =
      let e : s.limit ≡ steps = omega (arith, h, g.going.within) in
      told (ap (λ (k : ℕ). run_of k s.inputs (free_if is_lent before) first (held l)) e ∙ reaches_run g.going.reached) (counted g i j) g.lent g.logged

  module _ (room : steps < s.limit) {after : BusLog} where
    -- the log is full, or the next step stops before the stop address
    pub stretched_ends : {e : End} → BeforeStretch s steps m (held n) is_lent (Err e) now after → s.inputs.idle ≤ 255 → s.limit ≤ 1_000_000
        → AnswersIn call l (answer_of e steps (states_between first.ticks m.ticks) m) n is_lent before after
    stretched_ends a i j = rw (end_ahead a).0 (go (end_ahead a).1)
      where
        go : {e : End} → EndsAhead s m (held n) (free_if is_lent now) e
            → AnswersIn call l (answer_of e steps (states_between first.ticks m.ticks) m) n is_lent before now
        go (is_full f) = told (reaches_full s.limit g.going.reached room (subst Full (logged_free g.logged) f)) (counted g i j) g.lent g.logged
        go (is_there f t) =
            told (reaches_stop s.limit g.going.reached room (subst NotFull (logged_free g.logged) f, t)) (counted g i j) g.lent g.logged

    module _ {reach : ℕ} (a : BeforeStretch s steps m (held n) is_lent (Ok reach) now after) {r : Led} {o : Memory}
        (d : LeadsIn (settings s.inputs reach) steps m n r o) where
      -- a stretch is done
      pub stretched_next : Stretched s is_lent before first l r.steps r.cpu o after
      stretched_next =
          let next = stretch_reached d.leads a in
          record {
            going = record {
              within = omega (arith, d.leads.within, room_ahead room a);
              states = g.going.states + d.leads.states;
              bus = g.going.bus ++ d.leads.bus;
              reached = rw d.leads.steps (reaches_all g.going.reached (rw (logged_free g.logged) at next.0));
            };
            lent = lent_then g.lent d.lent;
            logged = logged_then g.logged next.1;
          }

      not_full : {x : Stop} → r.stop ≡ Some x → NotFull (free_after (free_if is_lent before) (g.going.bus ++ d.leads.bus))
      not_full e = rw (after_append (free_if is_lent before) g.going.bus d.leads.bus) (rw (logged_free g.logged) at (not_full_ahead d.leads a e))

      -- the next step stops after it
      pub stretched_stop : {x : Stop} → r.stop ≡ Some x → s.inputs.idle ≤ 255 → s.limit ≤ 1_000_000
          → AnswersIn call l (answer_of (Step x) r.steps (states_between first.ticks r.cpu.ticks) r.cpu) o is_lent before after
      unfolding stretched_next
      stretched_stop {x} e i j =
          let k = stretched_next in
          let stops : AheadIs s.inputs steps reach r.steps r.cpu (held o) (Some x) = subst (AheadIs s.inputs steps reach r.steps r.cpu (held o)) e d.leads.ahead in
          told (reaches_stop s.limit k.going.reached (omega (arith, stops.0, room_ahead room a)) (not_full e, stops.1)) (counted k i j) k.lent k.logged

-- the call that these are the steps of. The read-only part is after it what it was before
pub accepted_call : (s : Settings) (m : Lh5801) (l : Memory) {r : Answer} {n : Memory} {q : Pages} {is_lent : Bool} {before now : BusLog}
    → not_accepted s m (held l) ≡ None → q ≡ record (held n) { read_only = l.read_only }
    → AnswersIn (run_of s.limit s.inputs (free_if is_lent before) m (held l)) l r n is_lent before now
    → CallAnswers (call_of s (free_if is_lent before) m (held l)) r q is_lent before now
accepted_call s m l {n = n} {is_lent = is_lent} {before = before} h w a =
    let free = free_if is_lent before in
    let same = (run_written s.limit s.inputs free m (held l)).layout.read_only ∙ sym (ap (λ (p : Pages). p.read_only) a.answers.pages) in
    rw (call_run s free m (held l) (accepted_by s m (held l) h))
    (record { answers = record { answer = a.answers.answer; pages = rw same at w ∙ a.answers.pages }; logged = a.logged })
