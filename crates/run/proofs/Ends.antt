-- How the steps of a call end: what they reach, and whether the log is full before the next step or the next step stops.
use Rattle.std.proofs.Common.{◌≡◌, ℕ, zero, suc, ◌+◌, ◌*◌, ◌%◌, ◌^◌, ◌<◌, ◌≤◌, List, [], ◌++◌, refl, ap, append_assoc, append-nil, le_of_suc-le-suc, not-suc-le-zero, add-zero, add_assoc, suc-add, zero-add, arith, true, false}
use Rattle.std.specs.Prelude.{Option, None}
use Rattle.arithmetic.specs.declared.record.Lh5801.{Lh5801}
use Rattle.execution.specs.declared.Inputs.{Inputs}
use Rattle.pages.specs.Pages.{Pages}
use Rattle.pages.specs.Prog.{Access}
use Rattle.execution.specs.declared.Stop.{Stop}
use Rattle.execution.specs.Step.{Kind, did, step_of}
use Rattle.execution.proofs.StepKeeps.{step_small, step_ticks, step_ir0}
use Rattle.execution.proofs.StepStates.{step_states}
use Rattle.execution.proofs.Entered.{ir0_left}
use Rattle.run.specs.declared.End.TheVariants.{AllSteps, LogFull, Step}
use Rattle.run.specs.BusLog.{free_after, Full, NotFull}
use Rattle.run.specs.Run.{CallResult, call_result, no_step, completed, one_step, run_of}
use Rattle.run.specs.Reaches.{Reaches, start, next, StopsWith}
use Rattle.run.proofs.BusLog.{after_none, after_append}
use Rattle.run.proofs.Steps.{run_full, run_did, run_stop, run_each}

-- all n steps are completed, or fewer are and then the log is full or the next one stops
pub data Ended (inputs : Inputs) (n : ℕ) (free : Option ℕ) (o : CallResult) : Type 0 where
  all : o.answer.end ≡ AllSteps → o.answer.steps ≡ n → Ended inputs n free o
  none_free : o.answer.end ≡ LogFull → o.answer.steps < n → Full (free_after free o.bus) → Ended inputs n free o
  early : (s : Stop)
      → o.answer.end ≡ Step s
      → o.answer.steps < n
      → StopsWith inputs s (free_after free o.bus) o.answer.cpu o.pages
      → Ended inputs n free o

ended_more : {inputs : Inputs} {n : ℕ} {free : Option ℕ} {o : CallResult} (t : ℕ) (l : List Access) → Ended inputs n (free_after free l) o
    → Ended inputs (suc n) free (completed t l o)
unfolding completed
ended_more t l (all e h) = all e (ap suc h)
ended_more {free = free} {o = o} t l (none_free e h f) = none_free e (omega arith) (rw (after_append free l o.bus) f)
ended_more {free = free} {o = o} t l (early s e h x) = early s e (omega arith) (rw (after_append free l o.bus) x)

pub run_ended : (n : ℕ) (inputs : Inputs) (free : Option ℕ) (m : Lh5801) (p : Pages) → Ended inputs n free (run_of n inputs free m p)
unfolding no_step
run_ended n inputs =
    run_each inputs (λ n free m p o. Ended inputs n free o)
    (λ free m p. all refl refl)
    (λ n free m p f. none_free refl (omega arith) (rw (after_none free) f))
    (λ n free m p s f e. early s refl (omega arith) (rw (after_none free) (f, e)))
    (λ n free m p k t kind f e h. ended_more t _ h)
    n

-- what a call tells and leaves is what its completed steps lead to
pub run_reaches : (n : ℕ) (inputs : Inputs) (free : Option ℕ) (m : Lh5801) (p : Pages)
    → Reaches inputs free (run_of n inputs free m p).answer.steps m p (run_of n inputs free m p).answer.cpu (run_of n inputs free m p).pages
    (run_of n inputs free m p).answer.states (run_of n inputs free m p).bus
unfolding no_step completed
run_reaches n inputs =
    run_each inputs (λ n free m p o. Reaches inputs free o.answer.steps m p o.answer.cpu o.pages o.answer.states o.bus)
    (λ free m p. start)
    (λ n free m p f. start)
    (λ n free m p s f e. start)
    (λ n free m p k t kind f e h. next f e h)
    n

-- and the other way round
pub reaches_run : {inputs : Inputs} {free : Option ℕ} {j : ℕ} {m k : Lh5801} {p q : Pages} {t : ℕ} {l : List Access}
    → Reaches inputs free j m p k q t l
    → run_of j inputs free m p ≡ call_result AllSteps j t k q l
unfolding no_step completed
reaches_run start = unfold run_of in refl
reaches_run {inputs} {free} {m = m} {p = p} (next {j = j} f e r) = rw (run_did inputs free m p j f e, reaches_run r)

pub reaches_full : {inputs : Inputs} {free : Option ℕ} {j : ℕ} {m k : Lh5801} {p q : Pages} {t : ℕ} {l : List Access} (n : ℕ)
    → Reaches inputs free j m p k q t l
    → j < n
    → Full (free_after free l)
    → run_of n inputs free m p ≡ call_result LogFull j t k q l
unfolding no_step completed
reaches_full zero r h x = absurd (not-suc-le-zero h)
reaches_full {inputs} {free} {m = m} {p = p} (suc n) start h x = run_full inputs free m p n (rw after_none at x)
reaches_full {inputs} {free} {m = m} {p = p} (suc n) (next {l = l} f e r) h x =
    rw (run_did inputs free m p n f e, reaches_full {free = free_after free (one_step inputs m p).accesses} n r (le_of_suc-le-suc h) (rw (after_append free (one_step inputs m p).accesses l) at x))

pub reaches_stop : {inputs : Inputs} {free : Option ℕ} {j : ℕ} {m k : Lh5801} {p q : Pages} {t : ℕ} {l : List Access} {s : Stop} (n : ℕ)
    → Reaches inputs free j m p k q t l
    → j < n
    → StopsWith inputs s (free_after free l) k q
    → run_of n inputs free m p ≡ call_result (Step s) j t k q l
unfolding no_step completed
reaches_stop zero r h x = absurd (not-suc-le-zero h)
reaches_stop {inputs} {free} {m = m} {p = p} (suc n) start h x = run_stop inputs free m p n (rw after_none at x.0) x.1
reaches_stop {inputs} {free} {m = m} {p = p} (suc n) (next {l = l} f e r) h x =
    rw (run_did inputs free m p n f e, reaches_stop {free = free_after free (one_step inputs m p).accesses} n r (le_of_suc-le-suc h) (rw (after_append free (one_step inputs m p).accesses l) at x.0, x.1))

-- completed steps after completed steps
pub reaches_all : {inputs : Inputs} {free : Option ℕ} {i j : ℕ} {h m k : Lh5801} {o p q : Pages} {s t : ℕ} {l₁ l₂ : List Access}
    → Reaches inputs free i h o m p s l₁
    → Reaches inputs (free_after free l₁) j m p k q t l₂
    → Reaches inputs free (i + j) h o k q (s + t) (l₁ ++ l₂)
reaches_all start r = simp zero-add (rw after_none at r)
reaches_all {inputs} {free} {h = h} {o = o} {l₂ = l₂} (next {l = l} f e r₁) r =
    rw (suc-add, add_assoc, append_assoc) (next f e (reaches_all r₁ (rw (after_append free (one_step inputs h o).accesses l) at r)))

-- one more completed step after those
pub reaches_then : {inputs : Inputs} {free : Option ℕ} {j : ℕ} {m k n : Lh5801} {p q : Pages} {t s : ℕ} {l : List Access} {kind : Kind}
    → Reaches inputs free j m p k q t l
    → NotFull (free_after free l)
    → (one_step inputs k q).answer ≡ did n s kind
    → Reaches inputs free (j + 1) m p n (one_step inputs k q).pages (t + s) (l ++ (one_step inputs k q).accesses)
reaches_then {inputs} {free} {k = k} {n = n} {q = q} {s = s} {l = l} r f x =
    let one : Reaches inputs (free_after free l) 1 k q n (one_step inputs k q).pages (s + 0) ((one_step inputs k q).accesses ++ []) = next f x start in
    reaches_all r (rw (add-zero, append-nil) at one)

-- after no steps the record and the pages are the first ones, and nothing was done
pub reaches_none : {inputs : Inputs} {free : Option ℕ} {j : ℕ} {m k : Lh5801} {p q : Pages} {t : ℕ} {l : List Access}
    → Reaches inputs free j m p k q t l
    → j ≡ 0
    → (k ≡ m) × (q ≡ p) × (t ≡ 0) × (l ≡ [])
reaches_none start h = (refl, refl, refl, refl)
reaches_none (next f e r) h = absurd (omega arith)

-- from a record with the same step, one step and more lead to the same
pub reaches_from : {inputs : Inputs} {free : Option ℕ} {j : ℕ} {m l k : Lh5801} {p q : Pages} {t : ℕ} {v : List Access}
    → step_of m inputs ≡ step_of l inputs
    → 0 < j
    → Reaches inputs free j m p k q t v
    → Reaches inputs free j l p k q t v
reaches_from z h start = absurd (omega arith)
reaches_from {l = l} {p = p} {q = q} z h (next {free = free} {j = j} {n = n} {k = k} {s = s} {t = t} {kind = kind} {l = v} f e r) =
    rw z (next {free = free} {j = j} {m = l} {n = n} {k = k} {p = p} {q = q} {s = s} {t = t} {kind = kind} {l = v} f (rw (← z) e) (rw (← z) r))

-- no step leads to the same, whatever the log
reaches_nothing : {inputs : Inputs} {free other : Option ℕ} {j : ℕ} {m k : Lh5801} {p q : Pages} {t : ℕ} {l : List Access}
    → j ≡ 0
    → Reaches inputs free j m p k q t l
    → Reaches inputs other j m p k q t l
reaches_nothing z start = start
reaches_nothing z (next f e r) = absurd (omega arith)

-- one step at most that leads somewhere without a log does so with one that is not full
pub reaches_logged : {inputs : Inputs} {free : Option ℕ} {j : ℕ} {m k : Lh5801} {p q : Pages} {t : ℕ} {l : List Access}
    → NotFull free
    → j ≤ 1
    → Reaches inputs None j m p k q t l
    → Reaches inputs free j m p k q t l
reaches_logged f h start = start
reaches_logged f h (next g e r) = next f e (reaches_nothing (omega arith) r)

-- completed steps keep TM at most 511, set no IR0, leave it set only with BF clear, and add their states, at most 255 each, to the ticks
module _ {inputs : Inputs} where
  pub reaches_small : {free : Option ℕ} {j : ℕ} {m k : Lh5801} {p q : Pages} {t : ℕ} {l : List Access} → Reaches inputs free j m p k q t l
      → m.tm < 512 → k.tm < 512
  reaches_small start h = h
  reaches_small {m = m} {p = p} (next {n = n} {s = s} {kind = kind} f e r) h = reaches_small r (step_small m inputs h p n s kind e)

  pub reaches_ir0 : {free : Option ℕ} {j : ℕ} {m k : Lh5801} {p q : Pages} {t : ℕ} {l : List Access} → Reaches inputs free j m p k q t l
      → k.ir0 ≡ true → m.ir0 ≡ true
  reaches_ir0 start h = h
  reaches_ir0 {m = m} {p = p} (next {n = n} {s = s} {kind = kind} f e r) h = step_ir0 m inputs p n s kind e (reaches_ir0 r h)

  pub reaches_off : {free : Option ℕ} {j : ℕ} {m k : Lh5801} {p q : Pages} {t : ℕ} {l : List Access} → Reaches inputs free (suc j) m p k q t l
      → k.ir0 ≡ true → k.bf ≡ false
  reaches_off {m = m} {k = k} {p = p} (next {s = s} {kind = kind} f e start) h = (ir0_left m p inputs k s kind e h).2
  reaches_off (next f e (next g x r)) h = reaches_off (next g x r) h

  pub reaches_ticks : {free : Option ℕ} {j : ℕ} {m k : Lh5801} {p q : Pages} {t : ℕ} {l : List Access} → Reaches inputs free j m p k q t l
      → k.ticks % 2 ^ 64 ≡ (m.ticks + t) % 2 ^ 64
  reaches_ticks start = omega arith
  reaches_ticks {m = m} {p = p} (next {n = n} {s = s} {kind = kind} f e r) = omega (arith, reaches_ticks r, step_ticks m inputs p n s kind e)

  pub reaches_most : {free : Option ℕ} {j : ℕ} {m k : Lh5801} {p q : Pages} {t : ℕ} {l : List Access} → inputs.idle ≤ 255
      → Reaches inputs free j m p k q t l → t ≤ 255 * j
  reaches_most h start = omega arith
  reaches_most {m = m} {p = p} h (next {n = n} {s = s} {kind = kind} f e r) = omega (arith, reaches_most h r, step_states m inputs h p n s kind e)
