-- A run that ends with 12 is a beginning of the run without a stop address and did not pass over it; any other is that run.
use Rattle.std.proofs.Common.{◌≡◌, ℕ, suc, ◌+◌, ◌<◌, ◌≤◌, ◌≢◌, ◌↔◌, List, [], ◌++◌, map, sym, refl, ap, ◌∙◌, subst, ⊎_elim, true≢false, le_of_suc-le-suc, arith}
use Rattle.std.specs.Prelude.{Option, None, Some}
use Rattle.arithmetic.specs.declared.record.Lh5801.{Lh5801}
use Rattle.execution.specs.declared.Inputs.{Inputs}
use Rattle.execution.specs.declared.Stop.{Stop}
use Rattle.execution.specs.declared.Stop.TheVariants.{AtAddress}
use Rattle.execution.specs.Inputs.{inputs_of, without_stop}
use Rattle.execution.specs.Step.{Kind, StepEnd, did, stopped}
use Rattle.execution.specs.Conditions.{AddressStop}
use Rattle.execution.proofs.StopConditions.{stops_12}
use Rattle.execution.proofs.WithoutStop.{step_same}
use Rattle.pages.specs.Pages.{Pages, at, inside, protected, stored, set_byte, store}
use Rattle.pages.specs.Timer.{shift_of, timer_inc_of}
use Rattle.pages.specs.Written.{writes}
use Rattle.pages.specs.Prog.{Access, Ran, Prog, exec}
use Rattle.run.specs.declared.Settings.{Settings}
use Rattle.run.specs.declared.End.{End}
use Rattle.run.specs.declared.End.TheVariants.{AllSteps, LogFull, Step}
use Rattle.run.specs.Acceptance.{Accepted, not_accepted}
use Rattle.run.specs.BusLog.{free_after, NotFull}
use Rattle.run.specs.Run.{call_result, no_step, completed, join, one_step, onward, run_of, call_unless, call_of, settings}
use Rattle.run.specs.Reaches.{Reaches, start, next}
use Rattle.run.specs.StopAddress.{NotPassed, StopsThere, code, AddressStep, address_steps, AddressCall, address_calls}
use Rattle.run.proofs.Acceptance.{limit_some, limit_most, accepted_by, call_run, call_end}
use Rattle.run.proofs.BusLog.{after_none}
use Rattle.run.proofs.AccessOrders.{stepped}
use Rattle.run.proofs.Calls.{completes_with, stops_with}
use Rattle.run.proofs.Steps.{run_full, run_did, run_stop, run_each, more, more_no_step, more_completed}

module _ (inputs : Inputs) where
  -- where a step does not stop with 12, it is the step without a stop address; and a completed step did not
  same_one : (m : Lh5801) (p : Pages) → ¬ AddressStop inputs m → one_step (without_stop inputs) m p ≡ one_step inputs m p
  same_one m p n = ap (λ (x : Prog StepEnd). exec x p) (step_same inputs m n)

  stopped_same : {x : StepEnd} {s : Stop} → x ≡ stopped AtAddress → x ≡ stopped s → s ≡ AtAddress
  stopped_same e f = cc

  did_elsewhere : (m : Lh5801) (p : Pages) {k : Lh5801} {t : ℕ} {kind : Kind} → (one_step inputs m p).answer ≡ did k t kind → ¬ AddressStop inputs m
  did_elsewhere m p e s = let f = (stops_12 m inputs p).1 s in true≢false cc

  did_same : (m : Lh5801) (p : Pages) {k : Lh5801} {t : ℕ} {kind : Kind} → (one_step inputs m p).answer ≡ did k t kind
      → one_step (without_stop inputs) m p ≡ one_step inputs m p
  did_same m p e = same_one m p (did_elsewhere m p e)

  run_did_same : (n : ℕ) (free : Option ℕ) (m : Lh5801) (p : Pages) → NotFull free → {k : Lh5801} {t : ℕ} {kind : Kind}
      → (one_step inputs m p).answer ≡ did k t kind
      → run_of (suc n) (without_stop inputs) free m p
      ≡ completed t (one_step inputs m p).accesses
      (run_of n (without_stop inputs) (free_after free (one_step inputs m p).accesses) k (one_step inputs m p).pages)
  run_did_same n free m p f {k} {t} e =
      let z = did_same m p e in
      subst (λ (x : Ran StepEnd).
      run_of (suc n) (without_stop inputs) free m p ≡ completed t x.accesses (run_of n (without_stop inputs) (free_after free x.accesses) k x.pages)) z
      (run_did (without_stop inputs) free m p n f (ap (λ (x : Ran StepEnd). x.answer) z ∙ e))

  -- the run without a stop address is the run with it, and then the rest
  rest_of_none : (n : ℕ) (free : Option ℕ) (m : Lh5801) (p : Pages) (e : End) (rest : ℕ) → (no_step e m p).answer.steps + rest ≡ n
      → run_of n (without_stop inputs) free m p ≡ more rest (without_stop inputs) free (no_step e m p)
  unfolding no_step
  rest_of_none n free m p e rest h =
      let same : n ≡ rest = omega (arith, h) in
      ap (λ (k : ℕ). run_of k (without_stop inputs) free m p) same ∙ sym (more_no_step rest (without_stop inputs) free e m p)

  run_rest : (n : ℕ) (free : Option ℕ) (m : Lh5801) (p : Pages) (rest : ℕ) → (run_of n inputs free m p).answer.steps + rest ≡ n
      → run_of n (without_stop inputs) free m p ≡ more rest (without_stop inputs) free (run_of n inputs free m p)
  unfolding completed
  run_rest =
      run_each inputs
      (λ n free m p o. (rest : ℕ) → o.answer.steps + rest ≡ n → run_of n (without_stop inputs) free m p ≡ more rest (without_stop inputs) free o)
      (λ free m p. rest_of_none 0 free m p AllSteps)
      (λ n free m p f. rest_of_none (suc n) free m p LogFull)
      (λ n free m p s f e. rest_of_none (suc n) free m p (Step s))
      (λ n free m p k t kind f e h rest z.
      run_did_same n free m p f e
      ∙ ap (completed t (one_step inputs m p).accesses) (h rest (omega (arith, z)))
      ∙ sym (more_completed rest (without_stop inputs) free t (one_step inputs m p).accesses _))

  -- where it does not end with 12, both are the same
  run_same : (n : ℕ) (free : Option ℕ) (m : Lh5801) (p : Pages) → (run_of n inputs free m p).answer.end ≢ Step AtAddress
      → run_of n (without_stop inputs) free m p ≡ run_of n inputs free m p
  unfolding no_step completed
  run_same =
      run_each inputs (λ n free m p o. o.answer.end ≢ Step AtAddress → run_of n (without_stop inputs) free m p ≡ o)
      (λ free m p z. unfold run_of in refl)
      (λ n free m p f z. run_full (without_stop inputs) free m p n f)
      (λ n free m p s f e z.
      let other = same_one m p (λ a. z (ap Step (stopped_same ((stops_12 m inputs p).1 a) e))) in
      run_stop (without_stop inputs) free m p n f (ap (λ (x : Ran StepEnd). x.answer) other ∙ e))
      (λ n free m p k t kind f e h z. run_did_same n free m p f e ∙ ap (completed t (one_step inputs m p).accesses) (h z))

-- a step that is the same with other inputs, and what comes after it
next_same : (inputs other : Inputs) {free : Option ℕ} {j : ℕ} {m n k : Lh5801} {p q : Pages} {s t : ℕ} {kind : Kind} {l : List Access}
    → one_step other m p ≡ one_step inputs m p
    → NotFull free
    → (one_step inputs m p).answer ≡ did n s kind
    → Reaches other (free_after free (one_step inputs m p).accesses) j n (one_step inputs m p).pages k q t l
    → Reaches other free (suc j) m p k q (s + t) ((one_step inputs m p).accesses ++ l)
next_same inputs other {free} {j} {m} {n} {k} {p} {q} {s} {t} {kind} {l} z f =
    subst (λ (x : Ran StepEnd).
    x.answer ≡ did n s kind → Reaches other (free_after free x.accesses) j n x.pages k q t l → Reaches other free (suc j) m p k q (s + t) (x.accesses ++ l)) z
    (λ e r. next f e r)

-- completed steps are steps of the run without a stop address, and before none of them an instruction was due there
reaches_without : {inputs : Inputs} {free : Option ℕ} {j : ℕ} {m k : Lh5801} {p q : Pages} {t : ℕ} {l : List Access}
    → Reaches inputs free j m p k q t l
    → Reaches (without_stop inputs) free j m p k q t l
reaches_without start = start
reaches_without {inputs} {m = m} {p = p} (next f e r) = next_same inputs (without_stop inputs) (did_same inputs m p e) f e (reaches_without r)

not_there : {inputs : Inputs} {free : Option ℕ} {j : ℕ} {m k : Lh5801} {p q : Pages} {t : ℕ} {l : List Access} {i : ℕ} {h : Lh5801} {o : Pages} {u : ℕ} {v : List Access}
    → Reaches inputs free j m p k q t l
    → i < j
    → Reaches (without_stop inputs) free i m p h o u v
    → ¬ AddressStop inputs h
not_there start h r = absurd (omega (arith, h))
not_there {inputs} {m = m} {p = p} (next f e r) h start = did_elsewhere inputs m p e
not_there {inputs} {free} {m = m} {p = p} (next {n = n} f e r) h (next {j = i} {n = n'} {k = k} {q = q} {t = t} {l = l} g d x) =
    let z = did_same inputs m p e in
    let y = subst (λ (o : Ran StepEnd). Reaches (without_stop inputs) (free_after free o.accesses) i n' o.pages k q t l) z x in
    let w : n' ≡ n = cc (d, ap (λ (o : Ran StepEnd). o.answer) z, e) in
    not_there r (le_of_suc-le-suc h) (rw w at y)

-- and the other way round
reaches_with : (s : Settings) {free : Option ℕ} {j : ℕ} {m k : Lh5801} {p q : Pages} {t : ℕ} {l : List Access}
    → Reaches (without_stop s.inputs) free j m p k q t l
    → NotPassed s free m p j
    → Reaches s.inputs free j m p k q t l
reaches_with s start h = start
reaches_with s {m = m} {p = p} (next f e r) h =
    next_same (without_stop s.inputs) s.inputs (sym (same_one s.inputs m p (h 0 m p 0 [] (omega arith) start))) f e
    (reaches_with s r (λ i k q t l b x. h (suc i) k q _ _ (omega (arith, b)) (next f e x)))

-- an accepted call
module _ (s : Settings) (free : Option ℕ) (m : Lh5801) (p : Pages) (h : Accepted s m p) where
  -- it ends with 12, with these steps, states, record, pages and accesses, exactly where the run without a stop address comes so far, and no further
  -- than to the first step at which an instruction is due there
  pub stops_there : (j t : ℕ) (k : Lh5801) (q : Pages) (l : List Access)
      → (call_of s free m p ≡ call_result (Step AtAddress) j t k q l) ↔ StopsThere s free m p j t k q l
  stops_there j t k q l =
      let w = stops_with s free m p h AtAddress j t k q l in (
        λ e.
            let x = w.0 e in
            record {
              fewer = x.0;
              reached = reaches_without x.1;
              room = x.2.0;
              there = (stops_12 k s.inputs q).0 x.2.1;
              not_passed = λ i k q t l b y. not_there x.1 b y;
            },
        λ x. w.1 (x.fewer, reaches_with s x.reached x.not_passed, (x.room, (stops_12 k s.inputs q).1 x.there)),
      )

  -- the run without one, of as many steps, does the same and ends with 0
  pub first_steps : {j t : ℕ} {k : Lh5801} {q : Pages} {l : List Access} → call_of s free m p ≡ call_result (Step AtAddress) j t k q l
      → 1 ≤ j
      → call_of (settings (without_stop s.inputs) j) free m p ≡ call_result AllSteps j t k q l
  first_steps {j} {t} {k} {q} {l} e i =
      let x = (stops_there j t k q l).0 e in
      let few : Accepted (settings (without_stop s.inputs) j) m p =
      record { page0 = h.page0; page1 = h.page1; timer = h.timer; limit = ⊎_elim (λ z. omega (arith, i)) (λ z. omega (arith, x.fewer, limit_most h)) } in
      (completes_with (settings (without_stop s.inputs) j) free m p few j t k q l).1 (refl, x.reached)

  any_address : Accepted (settings (without_stop s.inputs) s.limit) m p
  any_address = record { page0 = h.page0; page1 = h.page1; timer = h.timer; limit = h.limit }

  -- whatever it ends with, the run without one is this one, and then the rest from what it left
  pub goes_on : (rest : ℕ) → (call_of s free m p).answer.steps + rest ≡ s.limit
      → call_of (settings (without_stop s.inputs) s.limit) free m p
      ≡ join (call_of s free m p)
      (run_of rest (without_stop s.inputs) (free_after free (call_of s free m p).bus) (call_of s free m p).answer.cpu (call_of s free m p).pages)
  unfolding more
  goes_on rest e =
      let c = call_run s free m p h in
      rw (call_run (settings (without_stop s.inputs) s.limit) free m p any_address, c) (run_rest s.inputs s.limit free m p rest (rw c at e))

  -- a call that begins there ends there, with no step done: so does every later one
  pub at_once : NotFull free → AddressStop s.inputs m → call_of s free m p ≡ call_result (Step AtAddress) 0 0 m p []
  at_once f a =
      (stops_there 0 0 m p []).1
      (record {
        fewer = limit_some h;
        reached = start;
        room = rw (after_none free) f;
        there = a;
        not_passed = λ i k q t l b x. absurd (omega (arith, b));
      })

-- any call: where it does not end with 12, the stop address has changed nothing
module _ (s : Settings) (free : Option ℕ) (m : Lh5801) (p : Pages) where
  refused_same : {e : End} → not_accepted s m p ≡ Some e → call_of (settings (without_stop s.inputs) s.limit) free m p ≡ call_of s free m p
  unfolding not_accepted
  refused_same e = call_end (settings (without_stop s.inputs) s.limit) free m p e ∙ sym (call_end s free m p e)

  call_same : Accepted s m p → (call_of s free m p).answer.end ≢ Step AtAddress → call_of (settings (without_stop s.inputs) s.limit) free m p ≡ call_of s free m p
  call_same h z =
      let c = call_run s free m p h in
      rw (call_run (settings (without_stop s.inputs) s.limit) free m p (any_address s free m p h), c) (run_same s.inputs s.limit free m p (rw c at z))

  pub never_there : (call_of s free m p).answer.end ≢ Step AtAddress → call_of (settings (without_stop s.inputs) s.limit) free m p ≡ call_of s free m p
  never_there = go (not_accepted s m p) refl
    where
      go : (x : Option End) → not_accepted s m p ≡ x → (call_of s free m p).answer.end ≢ Step AtAddress
          → call_of (settings (without_stop s.inputs) s.limit) free m p ≡ call_of s free m p
      go (Some e) r z = refused_same r
      go None r z = call_same (accepted_by s m p r) z

-- the cases of specs/StopAddress.antt
pub address_steps_hold : map (λ (c : AddressStep). stepped (inputs_of 0 c.idle c.stop) c.cpu code) address_steps ≡ map (λ (c : AddressStep). c.comes) address_steps
unfolding address_steps stepped shift_of timer_inc_of at inside protected stored set_byte store
address_steps_hold = refl

pub address_calls_hold : map (λ (c : AddressCall). call_of (settings (inputs_of 0 0 (Some c.stop)) c.limit) c.free c.cpu code) address_calls
    ≡ map (λ (c : AddressCall). c.comes) address_calls
unfolding address_calls writes not_accepted no_step completed onward run_of call_unless call_of stepped shift_of timer_inc_of at inside protected stored set_byte store
address_calls_hold = refl
