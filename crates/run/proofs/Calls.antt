-- Every run call: its pages, its steps, its stops and its states.
use Rattle.std.proofs.Common.{◌≡◌, ℕ, ◌*◌, ◌<◌, ◌≤◌, ◌≢◌, ◌↔◌, List, true, sym, refl, ap, ◌∙◌, true≢false, arith}
use Rattle.std.specs.Prelude.{Option}
use Rattle.arithmetic.specs.declared.record.Lh5801.{Lh5801}
use Rattle.execution.specs.declared.Inputs.{Inputs}
use Rattle.pages.specs.Pages.{Pages}
use Rattle.pages.specs.Prog.{Access}
use Rattle.pages.specs.Written.{Written}
use Rattle.execution.specs.declared.Stop.{Stop}
use Rattle.execution.specs.declared.Opcode.TheVariants.{First, AfterFd}
use Rattle.execution.specs.declared.Stop.TheVariants.{Unlisted, Halted, AtAddress}
use Rattle.execution.specs.Stops.{stop_number, stop_byte}
use Rattle.execution.proofs.Stops.{stop_least, stop_not_11, stop_byte_0, stop_same}
use Rattle.execution.specs.Step.{stopped}
use Rattle.execution.specs.Conditions.{HaltedStop, AddressStop, FirstUnlisted, SecondUnlisted}
use Rattle.execution.proofs.StopConditions.{stops_5, stops_6, stops_7, stops_12}
use Rattle.run.specs.declared.Settings.{Settings}
use Rattle.run.specs.declared.End.{End}
use Rattle.run.specs.declared.End.TheVariants.{AllSteps, LogFull, Step}
use Rattle.run.specs.Acceptance.{end_number, end_byte, Accepted}
use Rattle.run.specs.BusLog.{free_after, Full, NotFull}
use Rattle.run.specs.Run.{CallResult, call_result, writes_of, no_step, one_step, run_of, call_of, call_number, call_byte}
use Rattle.run.specs.Reaches.{Reaches, ComesTo, StopsWith}
use Rattle.run.proofs.Steps.{no_step_written, run_written}
use Rattle.run.proofs.Acceptance.{Acceptance, page0, page1, timer, limit, accepted, acceptance_case, limit_most, call_run, call_each}
use Rattle.run.proofs.Numbers.{byte_0, number_1, number_2, number_3, number_4}
use Rattle.run.proofs.Ends.{Ended, all, none_free, early, run_ended, run_reaches, reaches_run, reaches_full, reaches_stop, reaches_ir0, reaches_most}

-- demand 1, byte by byte: the pages after any call are the old ones with the completed steps' writes stored in order
pub call_written : (s : Settings) (free : Option ℕ) (m : Lh5801) (p : Pages) → Written p (writes_of (call_of s free m p)) (call_of s free m p).pages
call_written s free m p =
    call_each s free m p (λ o. Written p (writes_of o) o.pages) (λ e. no_step_written e m p) (λ h. run_written s.limit s.inputs free m p)

run_steps_most : (n : ℕ) (inputs : Inputs) (free : Option ℕ) (m : Lh5801) (p : Pages) → (run_of n inputs free m p).answer.steps ≤ n
run_steps_most n inputs free m p = go (run_ended n inputs free m p)
  where
    go : {o : CallResult} → Ended inputs n free o → o.answer.steps ≤ n
    go (all e h) = omega arith
    go (none_free e h f) = omega arith
    go (early s e h x) = omega arith

-- no call does more steps than its limit
pub call_steps_most : (s : Settings) (free : Option ℕ) (m : Lh5801) (p : Pages) → (call_of s free m p).answer.steps ≤ s.limit
unfolding no_step
call_steps_most s free m p =
    call_each s free m p (λ o. o.answer.steps ≤ s.limit) (λ e. omega arith) (λ h. run_steps_most s.limit s.inputs free m p)

-- what holds where the steps come to, and what follows from it
comes_so : {inputs : Inputs} {free : Option ℕ} {n : ℕ} {m : Lh5801} {p : Pages} {C D : Option ℕ → Lh5801 → Pages → Type 0}
    → ((f : Option ℕ) (k : Lh5801) (q : Pages) → C f k q → D f k q) → ComesTo inputs free n m p C → ComesTo inputs free n m p D
comes_so {free = free} g c = record {
  steps = c.steps;
  states = c.states;
  cpu = c.cpu;
  pages = c.pages;
  bus = c.bus;
  fewer = c.fewer;
  reached = c.reached;
  holds = g (free_after free c.bus) c.cpu c.pages c.holds;
}

-- an accepted call
module _ (s : Settings) (free : Option ℕ) (m : Lh5801) (p : Pages) (h : Accepted s m p) where
  call_ended : Ended s.inputs s.limit free (call_of s free m p)
  call_ended = rw (call_run s free m p h) (run_ended s.limit s.inputs free m p)

  call_reaches : Reaches s.inputs free (call_of s free m p).answer.steps m p (call_of s free m p).answer.cpu (call_of s free m p).pages
      (call_of s free m p).answer.states (call_of s free m p).bus
  call_reaches = rw (call_run s free m p h) (run_reaches s.limit s.inputs free m p)

  -- 0 exactly when all the steps asked for were done
  pub all_steps : ((call_of s free m p).answer.end ≡ AllSteps) ↔ ((call_of s free m p).answer.steps ≡ s.limit)
  all_steps = go call_ended
    where
      go : {o : CallResult} → Ended s.inputs s.limit free o → (o.answer.end ≡ AllSteps) ↔ (o.answer.steps ≡ s.limit)
      go (all e i) = (λ x. i, λ x. e)
      go (none_free e i f) = (λ a. absurd (true≢false cc), λ a. absurd (omega arith))
      go (early t e i x) = (λ a. absurd (true≢false cc), λ a. absurd (omega arith))

  full_ends : (call_of s free m p).answer.end ≡ LogFull → ((call_of s free m p).answer.steps < s.limit) × Full (free_after free (call_of s free m p).bus)
  full_ends = go call_ended
    where
      go : {o : CallResult} → Ended s.inputs s.limit free o → o.answer.end ≡ LogFull → (o.answer.steps < s.limit) × Full (free_after free o.bus)
      go (all e i) a = absurd (true≢false cc)
      go (none_free e i f) a = (i, f)
      go (early y e i b) a = absurd (true≢false cc)

  stopping : {x : Stop} → (call_of s free m p).answer.end ≡ Step x
      → ((call_of s free m p).answer.steps < s.limit)
      × StopsWith s.inputs x (free_after free (call_of s free m p).bus) (call_of s free m p).answer.cpu (call_of s free m p).pages
  stopping {x} = go call_ended
    where
      go : {o : CallResult} → Ended s.inputs s.limit free o → o.answer.end ≡ Step x
          → (o.answer.steps < s.limit) × StopsWith s.inputs x (free_after free o.bus) o.answer.cpu o.pages
      go (all e i) a = absurd (true≢false cc)
      go (none_free e i f) a = absurd (true≢false cc)
      go (early y e i b) a = let z : y ≡ x = cc in (i, rw (← z) b)

  -- the call's own steps come to what holds at its end
  comes_to : {C : Option ℕ → Lh5801 → Pages → Type 0} → (call_of s free m p).answer.steps < s.limit
      → C (free_after free (call_of s free m p).bus) (call_of s free m p).answer.cpu (call_of s free m p).pages
      → ComesTo s.inputs free s.limit m p C
  comes_to i c =
      record {
        steps = (call_of s free m p).answer.steps;
        states = (call_of s free m p).answer.states;
        cpu = (call_of s free m p).answer.cpu;
        pages = (call_of s free m p).pages;
        bus = (call_of s free m p).bus;
        fewer = i;
        reached = call_reaches;
        holds = c;
      }

  -- 11 exactly when, after fewer completed steps, the log is full
  pub full_log : ((call_of s free m p).answer.end ≡ LogFull) ↔ ComesTo s.inputs free s.limit m p (λ f k q. Full f)
  full_log = (
    λ e. comes_to (full_ends e).0 (full_ends e).1,
    λ r. rw (call_run s free m p h, reaches_full s.limit r.reached r.fewer r.holds),
  )

  -- 5 to 7 and 12 exactly when, after fewer completed steps, the log is not full and the next one stops
  pub step_stops : (x : Stop) → ((call_of s free m p).answer.end ≡ Step x) ↔ ComesTo s.inputs free s.limit m p (StopsWith s.inputs x)
  step_stops x = (
    λ e. comes_to (stopping e).0 (stopping e).1,
    λ r. rw (call_run s free m p h, reaches_stop s.limit r.reached r.fewer r.holds),
  )

  -- the answer on 0: the steps, states, record, pages and accesses are those of the completed steps
  pub completes_with : (j t : ℕ) (k : Lh5801) (q : Pages) (l : List Access)
      → (call_of s free m p ≡ call_result AllSteps j t k q l) ↔ ((j ≡ s.limit) × Reaches s.inputs free j m p k q t l)
  completes_with j t k q l = (
    λ e. (ap (λ o. o.answer.steps) (sym e) ∙ all_steps.0 (ap (λ o. o.answer.end) e), rw e at call_reaches),
    λ r. rw (call_run s free m p h, ← r.0) (reaches_run r.1),
  )

  -- the answer on 11: the same of the completed steps, so that the record and pages are as before the step that is not begun
  pub full_with : (j t : ℕ) (k : Lh5801) (q : Pages) (l : List Access)
      → (call_of s free m p ≡ call_result LogFull j t k q l)
      ↔ ((j < s.limit) × Reaches s.inputs free j m p k q t l × Full (free_after free l))
  full_with j t k q l = (
    λ e.
        let a = full_ends (ap (λ o. o.answer.end) e) in
        (rw e at a.0, rw e at call_reaches, rw e at a.1),
    λ r. rw (call_run s free m p h) (reaches_full s.limit r.1 r.0 r.2),
  )

  -- the answer on 5 to 7 and 12: the same, so that the record and pages are as before the step that stops
  pub stops_with : (x : Stop) (j t : ℕ) (k : Lh5801) (q : Pages) (l : List Access)
      → (call_of s free m p ≡ call_result (Step x) j t k q l)
      ↔ ((j < s.limit) × Reaches s.inputs free j m p k q t l × StopsWith s.inputs x (free_after free l) k q)
  stops_with x j t k q l = (
    λ e.
        let a = stopping (ap (λ o. o.answer.end) e) in
        (rw e at a.0, rw e at call_reaches, rw e at a.1),
    λ r. rw (call_run s free m p h) (reaches_stop s.limit r.1 r.0 r.2),
  )

-- number 0, of every call
module _ (s : Settings) (free : Option ℕ) (m : Lh5801) (p : Pages) where
  zero_all : (h : Accepted s m p) → call_number s free m p ≡ 0 → (call_of s free m p).answer.end ≡ AllSteps
  zero_all h = go (call_ended s free m p h)
    where
      go : {o : CallResult} → Ended s.inputs s.limit free o → end_number o.answer.end ≡ 0 → o.answer.end ≡ AllSteps
      go (all e i) a = e
      go (none_free e i f) a = absurd (omega (arith, ap end_number e))
      go (early y e i b) a = absurd (omega (arith, stop_least y, ap end_number e))

  to_zero : Acceptance s m p → (call_number s free m p ≡ 0) ↔ (Accepted s m p × ((call_of s free m p).answer.steps ≡ s.limit))
  to_zero (page0 a) = (λ e. absurd (omega (arith, (number_1 s free m p).1 a)), λ r. absurd (r.0.page0 a))
  to_zero (page1 a b) = (λ e. absurd (omega (arith, (number_2 s free m p).1 (a, b))), λ r. absurd (r.0.page1 b))
  to_zero (timer a b c) = (λ e. absurd (omega (arith, (number_3 s free m p).1 (a, b, c))), λ r. absurd (r.0.timer c))
  to_zero (limit a b c d) = (λ e. absurd (omega (arith, (number_4 s free m p).1 (a, b, c, d))), λ r. absurd (r.0.limit d))
  to_zero (accepted h) = (λ e. (h, (all_steps s free m p h).0 (zero_all h e)), λ r. ap end_number ((all_steps s free m p h).1 r.1))

  pub number_0 : (call_number s free m p ≡ 0) ↔ (Accepted s m p × ((call_of s free m p).answer.steps ≡ s.limit))
  number_0 = to_zero (acceptance_case s m p)

-- the end of a stop, and that of a full log, are known by number and byte
stop_end : (e : End) (x : Stop) → end_number e ≡ stop_number x → end_byte e ≡ stop_byte x → e ≡ Step x
stop_end (Step y) x i j = ap Step (stop_same y x i j)
stop_end LogFull x i j = absurd (stop_not_11 x (sym i))
stop_end e x i j = absurd (omega (arith, stop_least x))

full_end : (e : End) → end_number e ≡ 11 → e ≡ LogFull
full_end LogFull i = refl
full_end (Step y) i = absurd (stop_not_11 y i)
full_end e i = absurd (omega arith)

-- a number above 4, of every call: only an accepted one gives it
module _ (s : Settings) (free : Option ℕ) (m : Lh5801) (p : Pages) where
  above_4 : {N C : Type 0} → (N → 5 ≤ call_number s free m p) → (Accepted s m p → N ↔ C) → Acceptance s m p → N ↔ (Accepted s m p × C)
  above_4 n f (page0 a) = (λ e. absurd (omega (arith, n e, (number_1 s free m p).1 a)), λ r. absurd (r.0.page0 a))
  above_4 n f (page1 a b) = (λ e. absurd (omega (arith, n e, (number_2 s free m p).1 (a, b))), λ r. absurd (r.0.page1 b))
  above_4 n f (timer a b c) = (λ e. absurd (omega (arith, n e, (number_3 s free m p).1 (a, b, c))), λ r. absurd (r.0.timer c))
  above_4 n f (limit a b c d) = (λ e. absurd (omega (arith, n e, (number_4 s free m p).1 (a, b, c, d))), λ r. absurd (r.0.limit d))
  above_4 n f (accepted h) = (λ e. (h, (f h).0 e), λ r. (f h).1 r.1)

  -- 11 exactly where, after fewer completed steps than the limit, a log is lent and full: ahead of 5, 6, 7 and 12
  pub number_11 : (call_number s free m p ≡ 11) ↔ (Accepted s m p × ComesTo s.inputs free s.limit m p (λ f k q. Full f))
  number_11 =
      above_4 (λ e. omega arith)
      (λ h. (λ e. (full_log s free m p h).0 (full_end _ e), λ r. ap end_number ((full_log s free m p h).1 r)))
      (acceptance_case s m p)

  -- a stop's number and byte exactly where, after fewer completed steps than the limit, the log is not full and the condition of that stop holds
  stop_where : (x : Stop) {C : Lh5801 → Pages → Type 0} → ((k : Lh5801) (q : Pages) → ((one_step s.inputs k q).answer ≡ stopped x) ↔ C k q)
      → ((call_number s free m p ≡ stop_number x) × (call_byte s free m p ≡ stop_byte x))
      ↔ (Accepted s m p × ComesTo s.inputs free s.limit m p (λ f k q. NotFull f × C k q))
  stop_where x g =
      above_4 (λ e. omega (arith, stop_least x, e.0))
      (λ h. (
        λ e. comes_so (λ f k q c. (c.0, (g k q).0 c.1)) ((step_stops s free m p h x).0 (stop_end _ x e.0 e.1)),
        λ r.
            let e = (step_stops s free m p h x).1 (comes_so (λ f k q c. (c.0, (g k q).1 c.1)) r) in
            (ap end_number e, ap end_byte e),
      ))
      (acceptance_case s m p)

  pub number_5 : (b : ℕ)
      → ((call_number s free m p ≡ 5) × (call_byte s free m p ≡ b))
      ↔ (Accepted s m p × ComesTo s.inputs free s.limit m p (λ f k q. NotFull f × FirstUnlisted s.inputs k q b))
  number_5 b = stop_where (Unlisted (First b)) (λ k q. stops_5 k s.inputs q b)

  pub number_6 : (b : ℕ)
      → ((call_number s free m p ≡ 6) × (call_byte s free m p ≡ b))
      ↔ (Accepted s m p × ComesTo s.inputs free s.limit m p (λ f k q. NotFull f × SecondUnlisted s.inputs k q b))
  number_6 b = stop_where (Unlisted (AfterFd b)) (λ k q. stops_6 k s.inputs q b)

  -- the same of a stop without a byte, which its number alone tells
  number_where : (x : Stop) {C : Lh5801 → Pages → Type 0} → stop_number x ≢ 5 → stop_number x ≢ 6
      → ((k : Lh5801) (q : Pages) → ((one_step s.inputs k q).answer ≡ stopped x) ↔ C k q)
      → (call_number s free m p ≡ stop_number x) ↔ (Accepted s m p × ComesTo s.inputs free s.limit m p (λ f k q. NotFull f × C k q))
  number_where x five six g =
      let t = stop_where x g in (
        λ e. t.0 (e, byte_0 (call_of s free m p).answer.end (λ z. five (sym e ∙ z)) (λ z. six (sym e ∙ z)) ∙ sym (stop_byte_0 x five six)),
        λ r. (t.1 r).0,
      )

  pub number_7 : (call_number s free m p ≡ 7)
      ↔ (Accepted s m p × ComesTo s.inputs free s.limit m p (λ f k q. NotFull f × HaltedStop s.inputs k))
  number_7 = number_where Halted (λ z. omega arith) (λ z. omega arith) (λ k q. stops_7 k s.inputs q)

  pub number_12 : (call_number s free m p ≡ 12)
      ↔ (Accepted s m p × ComesTo s.inputs free s.limit m p (λ f k q. NotFull f × AddressStop s.inputs k))
  number_12 = number_where AtAddress (λ z. omega arith) (λ z. omega arith) (λ k q. stops_12 k s.inputs q)

-- the states: a completed step adds at most 255, as the idle figure has 8 bits
run_states : (n : ℕ) (inputs : Inputs) → inputs.idle ≤ 255 → (free : Option ℕ) (m : Lh5801) (p : Pages)
    → (run_of n inputs free m p).answer.states ≤ 255 * (run_of n inputs free m p).answer.steps
run_states n inputs i free m p = reaches_most i (run_reaches n inputs free m p)

module _ (s : Settings) (i : s.inputs.idle ≤ 255) (free : Option ℕ) (m : Lh5801) (p : Pages) where
  pub call_states : (call_of s free m p).answer.states ≤ 255 * (call_of s free m p).answer.steps
  unfolding no_step
  call_states =
      call_each s free m p (λ o. o.answer.states ≤ 255 * o.answer.steps) (λ e. omega arith) (λ h. run_states s.limit s.inputs i free m p)

  pub call_states_most : (call_of s free m p).answer.states ≤ 255_000_000
  unfolding no_step
  call_states_most =
      call_each s free m p (λ o. o.answer.states ≤ 255_000_000) (λ e. omega arith)
      (λ h. omega (arith, run_states s.limit s.inputs i free m p, run_steps_most s.limit s.inputs free m p, limit_most h))

-- no call sets IR0
pub call_ir0 : (s : Settings) (free : Option ℕ) (m : Lh5801) (p : Pages) → (call_of s free m p).answer.cpu.ir0 ≡ true → m.ir0 ≡ true
unfolding no_step
call_ir0 s free m p =
    call_each s free m p (λ o. o.answer.cpu.ir0 ≡ true → m.ir0 ≡ true) (λ e z. z) (λ h. reaches_ir0 (run_reaches s.limit s.inputs free m p))
