-- What the loop over instructions keeps, and how a step, a stop and the limit go on from it. No log is looked at here.
use Rattle.std.proofs.Common.{◌≡◌, ℕ, ◌+◌, ◌<◌, ◌≤◌, Bool, true, false, ◌&&◌, List, [], ◌++◌, inl, inr, sym, refl, ap, ◌∙◌, subst, true≢false, arith}
use Rattle.std.specs.Prelude.{Option, None, Some, Result, Ok, Err}
use Rattle.arithmetic.specs.declared.record.Lh5801.{Lh5801}
use Rattle.arithmetic.specs.Record.{with_ir1, with_is_timer_reached}
use Rattle.execution.specs.declared.Inputs.{Inputs}
use Rattle.pages.specs.declared.Memory.{Memory}
use Rattle.pages.specs.Pages.{Pages}
use Rattle.pages.specs.Prog.{Access, mapped, exec}
use Rattle.pages.specs.Contract.{held, SameLent, Does}
use Rattle.pages.proofs.Does.{mapped_value, mapped_pages, lent_same, lent_then}
use Rattle.execution.specs.declared.Executed.{Executed}
use Rattle.execution.specs.declared.Stop.{Stop}
use Rattle.execution.specs.Step.{Kind, StepEnd, did, stopped, reached_of, step_of}
use Rattle.execution.specs.Code.Outcomes.{outcome_of}
use Rattle.execution.specs.Inputs.{equals_address, stops_at}
use Rattle.execution.specs.Code.Due.{due_of, Ready, executed_of}
use Rattle.execution.proofs.TimerReached.{reached_p, reached_ready, reached_back}
use Rattle.execution.proofs.Order.{step_reached}
use Rattle.execution.proofs.StopsClean.{stop_no_write}
use Rattle.run.specs.declared.Settings.{Settings}
use Rattle.run.specs.Run.{one_step}
use Rattle.run.specs.Reaches.{Reaches, start}
use Rattle.run.specs.Code.Leads.{Leads, LeadsIn, led, Passes, unmoved_of}
use Rattle.run.proofs.Ends.{reaches_then, reaches_none, reaches_from}

-- after so many completed steps: what they have led to, where so many entries of a log were free, or there is none
pub record Going (inputs : Inputs) (limit : ℕ) (free : Option ℕ) (first : Lh5801) (from : Pages) (steps : ℕ) (m : Lh5801) (p : Pages) : Type 0 where
  pub within : steps ≤ limit
  pub states : ℕ
  pub bus : List Access
  pub reached : Reaches inputs free steps first from m p states bus

-- the same without a log, in a memory that holds the same lent pages
pub record Kept (s : Settings) (first : Lh5801) (l : Memory) (steps : ℕ) (m : Lh5801) (n : Memory) : Type 0 where
  pub going : Going s.inputs s.limit None first (held l) steps m (held n)
  pub lent : SameLent l n

-- the same in the loop over instructions, where one is due: so many steps of the call were done before the loop
pub record Executing (s : Settings) (done : ℕ) (first : Lh5801) (l : Memory) (steps : ℕ) (m : Lh5801) (n : Memory) : Type 0 where
  pub more : ℕ
  pub steps_are : steps ≡ done + more
  pub within : steps ≤ s.limit
  pub kept : Kept s first l more m n
  pub ready : Ready m
  pub elsewhere : steps < s.limit → stops_at s.inputs m.p ≡ false

abbrev pub at_start_lem : (inputs : Inputs) (limit : ℕ) (free : Option ℕ) (m : Lh5801) (p : Pages) → Going inputs limit free m p 0 m p
at_start_lem inputs limit free m p =
    record { within = omega arith; states = 0; bus = []; reached = start }

-- what an instruction was found to have come to is what its step does
pub executed_by : (m : Lh5801) (inputs : Inputs) {p q : Memory} {r o : Result Executed Stop}
    → Does (mapped executed_of (step_of m inputs)) p r q
    → r ≡ o
    → Does (mapped executed_of (step_of m inputs)) p o q
executed_by m inputs {p} {q} d e = subst (λ (x : Result Executed Stop). Does (mapped executed_of (step_of m inputs)) p x q) e d

-- what a step of the code tells of the definition's, on the pages
record Outcome (inputs : Inputs) (m : Lh5801) (p : Pages) (r : Result Lh5801 Stop) (q : Pages) : Type 0 where
  value : r ≡ outcome_of (one_step inputs m p).answer
  pages : (one_step inputs m p).pages ≡ q

outcome : (inputs : Inputs) (m : Lh5801) {l n : Memory} {r : Result Lh5801 Stop} → Does (mapped outcome_of (step_of m inputs)) l r n
    → Outcome inputs m (held l) r (held n)
outcome inputs m d = record { value = mapped_value outcome_of (step_of m inputs) d; pages = mapped_pages outcome_of (step_of m inputs) d }

did_outcome : (e : StepEnd) {k : Lh5801} (P : Lh5801 → Type 0) → Ok k ≡ outcome_of e
    → ((s : ℕ) (kind : Kind) (l : Lh5801) → e ≡ did l s kind → P l)
    → P k
did_outcome (did l s kind) {k} P h f = let z : l ≡ k = cc in subst P z (f s kind l refl)
did_outcome (stopped x) P h f = absurd (true≢false cc)

stop_outcome : (e : StepEnd) {s : Stop} → Err s ≡ outcome_of e → e ≡ stopped s
stop_outcome (did l t kind) h = absurd (true≢false cc)
stop_outcome (stopped x) {s} h = let z : x ≡ s = cc in ap stopped z

-- a step that stops leaves the pages
stop_step : {inputs : Inputs} {m : Lh5801} {p q : Pages} {s : Stop} → Outcome inputs m p (Err s) q → ((one_step inputs m p).answer ≡ stopped s) × (q ≡ p)
stop_step {inputs} {m} {p} {s = s} d =
    let e : (one_step inputs m p).answer ≡ stopped s = stop_outcome (one_step inputs m p).answer d.value in
    (e, sym d.pages ∙ (stop_no_write m inputs p s e).1)

module _ {inputs : Inputs} {limit : ℕ} {first : Lh5801} {from : Pages} {steps : ℕ} {m : Lh5801} {p : Pages} (g : Going inputs limit None first from steps m p) where
  after_did : (s : ℕ) (kind : Kind) (k : Lh5801) → steps < limit → (one_step inputs m p).answer ≡ did k s kind → Going inputs limit None first from (steps + 1) k (one_step inputs m p).pages
  after_did s kind k h e =
      record {
        within = omega arith;
        states = g.states + s;
        bus = g.bus ++ (one_step inputs m p).accesses;
        reached = reaches_then g.reached refl e;
      }

  go_on : {k : Lh5801} {q : Pages} → steps < limit → Outcome inputs m p (Ok k) q → Going inputs limit None first from (steps + 1) k q
  go_on {q = q} h d =
      did_outcome (one_step inputs m p).answer (λ k. Going inputs limit None first from (steps + 1) k q) d.value
      (λ s kind k e. subst (Going inputs limit None first from (steps + 1) k) d.pages (after_did s kind k h e))

-- one step is a stretch
module _ {inputs : Inputs} {done limit : ℕ} {m : Lh5801} {p q : Pages} (room : done < limit) where
  did_leads : {k : Lh5801} → Outcome inputs m p (Ok k) q → Leads inputs done limit m p (led (done + 1) k None) q
  did_leads d =
      let g : Going inputs 1 None m p 1 _ q = go_on (at_start_lem inputs 1 None m p) (omega arith) d in
      record { more = 1; steps = refl; within = omega arith; states = g.states; bus = g.bus; reached = g.reached; ahead = omega arith }

  stop_leads : {s : Stop} → Outcome inputs m p (Err s) q → Leads inputs done limit m p (led done m (Some s)) q
  stop_leads d =
      let t = stop_step d in
      rw t.1 (record { more = 0; steps = omega arith; within = omega arith; states = 0; bus = []; reached = start; ahead = (room, t.0) })

pub one_did : {s : Settings} {done : ℕ} {m k : Lh5801} {l n : Memory} → done < s.limit → Does (mapped outcome_of (step_of m s.inputs)) l (Ok k) n
    → LeadsIn s done m l (led (done + 1) k None) n
one_did {s} {m = m} h d = record { leads = did_leads h (outcome s.inputs m d); lent = d.lent }

pub one_stops : {s : Settings} {done : ℕ} {m : Lh5801} {l n : Memory} {x : Stop} → done < s.limit → Does (mapped outcome_of (step_of m s.inputs)) l (Err x) n
    → LeadsIn s done m l (led done m (Some x)) n
one_stops {s} {m = m} h d = record { leads = stop_leads h (outcome s.inputs m d); lent = d.lent }

-- instruction after instruction: where one is due, timer reached first moves to IR1
same_step : (inputs : Inputs) (m : Lh5801) {first : Lh5801} → due_of m ≡ true → first ≡ reached_of m → step_of first inputs ≡ step_of m inputs
same_step inputs m due moved = ap (λ (k : Lh5801). step_of k inputs) moved ∙ step_reached m inputs due

-- and back
moved_back : (m : Lh5801) → unmoved_of (reached_of m) m ≡ m
unfolding unmoved_of
moved_back m = reached_back m

-- where nothing has moved, nothing changes
pub unmoved_same : (m : Lh5801) → unmoved_of m m ≡ m
unfolding unmoved_of with_ir1 with_is_timer_reached
unmoved_same m = refl

-- P is not the stop address where a stretch begins, if an instruction is due there, and after a step of it, if there is another
not_both : (a b : Bool) → a && b ≡ false → b ≡ true → a ≡ false
not_both true b e t = absurd (true≢false (sym t ∙ e))
not_both false b e t = refl

none_there : (inputs : Inputs) (p : ℕ) → inputs.stop_address ≡ None → stops_at inputs p ≡ false
none_there inputs p e = ap (λ (a : Option ℕ). equals_address a p) e

begins_elsewhere : (s : Settings) (done : ℕ) (m : Lh5801) → Passes s done m → due_of m ≡ true → stops_at s.inputs (reached_of m).p ≡ false
begins_elsewhere s done m (inl e) due = none_there s.inputs _ e
begins_elsewhere s done m (inr h) due = ap (stops_at s.inputs) (reached_p m) ∙ not_both _ _ h.1 due

goes_elsewhere : (s : Settings) (done : ℕ) (m : Lh5801) {steps : ℕ} (p : ℕ) → Passes s done m → done < steps → steps < s.limit → stops_at s.inputs p ≡ false
goes_elsewhere s done m p (inl e) i j = none_there s.inputs p e
goes_elsewhere s done m p (inr h) i j = absurd (omega (arith, h.0))

-- the loop over instructions, from its start on
pub executing_start : {s : Settings} {done : ℕ} (m : Lh5801) {l : Memory} {first : Lh5801} → due_of m ≡ true → done < s.limit → Passes s done m
    → first ≡ reached_of m
    → Executing s done first l done first l
executing_start {s} {done} m {l = l} due room passes moved =
    rw moved
    (record {
      more = 0;
      steps_are = omega arith;
      within = omega (arith, room);
      kept = record { going = at_start_lem s.inputs s.limit None (reached_of m) (held l); lent = lent_same };
      ready = reached_ready m due;
      elsewhere = λ _. begins_elsewhere s done m passes due;
    })

module _ {s : Settings} {done : ℕ} {first : Lh5801} {l : Memory} {steps : ℕ} {k : Lh5801} {n : Memory} (g : Executing s done first l steps k n) (room : steps < s.limit) where
  -- one more instruction
  kept_on : {j : Lh5801} {o : Memory} → Does (mapped outcome_of (step_of k s.inputs)) n (Ok j) o → Kept s first l (g.more + 1) j o
  kept_on d =
      record { going = go_on g.kept.going (omega (arith, g.steps_are, room)) (outcome s.inputs k d); lent = lent_then g.kept.lent d.lent }

  pub executing_next : (m : Lh5801) {j : Lh5801} {o : Memory} → Passes s done m → Does (mapped outcome_of (step_of k s.inputs)) n (Ok j) o → Ready j
      → Executing s done first l (steps + 1) j o
  executing_next m passes d r =
      record {
        more = g.more + 1;
        steps_are = omega (arith, g.steps_are);
        within = omega (arith, room);
        kept = kept_on d;
        ready = r;
        elsewhere = goes_elsewhere s done m _ passes (omega (arith, g.steps_are));
      }

  module _ {m : Lh5801} (due : due_of m ≡ true) (moved : first ≡ reached_of m) where
    -- nothing else is due after it
    pub executing_ends : {j : Lh5801} {o : Memory} → Does (mapped outcome_of (step_of k s.inputs)) n (Ok j) o → LeadsIn s done m l (led (steps + 1) j None) o
    executing_ends d =
        let t = kept_on d in
        record {
          leads = record {
            more = g.more + 1;
            steps = omega (arith, g.steps_are);
            within = omega (arith, room);
            states = t.going.states;
            bus = t.going.bus;
            reached = reaches_from (same_step s.inputs m due moved) (omega arith) t.going.reached;
            ahead = omega (arith, g.steps_are);
          };
          lent = t.lent;
        }

    -- the next one stops, after others
    pub executing_stops : {x : Stop} {o : Memory} → ¬ (steps ≡ done) → Does (mapped outcome_of (step_of k s.inputs)) n (Err x) o
        → LeadsIn s done m l (led steps k (Some x)) o
    executing_stops z d =
        let t = stop_step (outcome s.inputs k d) in
        record {
          leads =
              rw t.1
              (record {
                more = g.more;
                steps = g.steps_are;
                within = omega (arith, room);
                states = g.kept.going.states;
                bus = g.kept.going.bus;
                reached = reaches_from (same_step s.inputs m due moved) (omega (arith, z, g.steps_are)) g.kept.going.reached;
                ahead = (room, t.0);
              });
          lent = lent_then g.kept.lent d.lent;
        }

    -- the first of them stops: timer reached has not moved
    pub executing_none : {x : Stop} {o : Memory} {back : Lh5801} → steps ≡ done → back ≡ unmoved_of k m
        → Does (mapped outcome_of (step_of k s.inputs)) n (Err x) o
        → LeadsIn s done m l (led steps back (Some x)) o
    executing_none {x} {o} {back} e u d =
        let r = reaches_none g.kept.going.reached (omega (arith, g.steps_are)) in
        let t : Outcome s.inputs k (held n) (Err x) (held o) = outcome s.inputs k d in
        let z : step_of k s.inputs ≡ step_of m s.inputs = ap (λ (x : Lh5801). step_of x s.inputs) r.0 ∙ same_step s.inputs m due moved in
        let i : Outcome s.inputs m (held l) (Err x) (held o) =
        subst (λ (p : Pages). Outcome s.inputs m p (Err x) (held o)) r.1
        (record { value = t.value ∙ ap (λ y. outcome_of (exec y (held n)).answer) z; pages = ap (λ y. (exec y (held n)).pages) (sym z) ∙ t.pages }) in
        record {
          leads = rw (u ∙ ap (λ y. unmoved_of y m) (r.0 ∙ moved) ∙ moved_back m, e) (stop_leads (omega (arith, room)) i);
          lent = lent_then g.kept.lent d.lent;
        }

-- the limit is reached: all the steps from there on are instructions
pub executing_all : {s : Settings} {done : ℕ} {m first : Lh5801} {l : Memory} {steps : ℕ} {k : Lh5801} {n : Memory} → Executing s done first l steps k n
    → due_of m ≡ true → first ≡ reached_of m → s.limit ≤ steps → done < s.limit → LeadsIn s done m l (led s.limit k None) n
executing_all {s} {m = m} g due moved h room =
    record {
      leads = record {
        more = g.more;
        steps = omega (arith, g.steps_are, g.within);
        within = omega arith;
        states = g.kept.going.states;
        bus = g.kept.going.bus;
        reached = reaches_from (same_step s.inputs m due moved) (omega (arith, g.steps_are)) g.kept.going.reached;
        ahead = room;
      };
      lent = g.kept.lent;
    }
