-- The laws of a call's steps, for any step that is an access program: `step_of` is never opened.
use Rattle.std.proofs.Common.{◌≡◌, ℕ, zero, suc, ◌+◌, ◌≤◌, Bool, true, false, List, [], ◌++◌, sym, refl, ap, ◌∙◌, append_assoc, not-suc-le-zero, add_assoc, suc-add, zero-add}
use Rattle.std.specs.Prelude.{Option}
use Rattle.arithmetic.specs.declared.record.Lh5801.{Lh5801}
use Rattle.execution.specs.declared.Inputs.{Inputs}
use Rattle.pages.specs.Pages.{Pages, SameLayout}
use Rattle.pages.specs.Prog.{Access, Ran}
use Rattle.pages.specs.Written.{Written, Agree}
use Rattle.pages.proofs.Exec.{writes_none, writes_append, exec_written, written_none, written_then}
use Rattle.pages.proofs.Agree.{Carried, exec_alike, agreeing}
use Rattle.execution.specs.declared.Stop.{Stop}
use Rattle.execution.specs.Step.{Kind, StepEnd, did, stopped, step_of}
use Rattle.run.specs.declared.End.{End}
use Rattle.run.specs.declared.End.TheVariants.{AllSteps, LogFull, Step}
use Rattle.run.specs.BusLog.{log_full, free_after, Full, NotFull}
use Rattle.run.specs.Run.{CallResult, writes_of, no_step, completed, join, one_step, onward, run_of, accesses_after, accesses_of}
use Rattle.run.proofs.BusLog.{after_none, after_append}

-- before the first step of a call the log is full; or the step is completed, or stops
module _ (inputs : Inputs) (free : Option ℕ) (m : Lh5801) (p : Pages) (n : ℕ) where
  pub run_full : Full free → run_of (suc n) inputs free m p ≡ no_step LogFull m p
  unfolding run_of
  run_full f = rw f

  pub run_did : NotFull free → {k : Lh5801} {t : ℕ} {kind : Kind} → (one_step inputs m p).answer ≡ did k t kind
      → run_of (suc n) inputs free m p
      ≡ completed t (one_step inputs m p).accesses (run_of n inputs (free_after free (one_step inputs m p).accesses) k (one_step inputs m p).pages)
  unfolding run_of onward
  run_did f e = rw (f, e)

  pub run_stop : NotFull free → {s : Stop} → (one_step inputs m p).answer ≡ stopped s → run_of (suc n) inputs free m p ≡ no_step (Step s) m p
  unfolding run_of onward
  run_stop f e = rw (f, e)

  pub accesses_did : NotFull free → {k : Lh5801} {t : ℕ} {kind : Kind} → (one_step inputs m p).answer ≡ did k t kind
      → accesses_of (suc n) inputs free m p
      ≡ (one_step inputs m p).accesses ++ accesses_of n inputs (free_after free (one_step inputs m p).accesses) k (one_step inputs m p).pages
  unfolding accesses_of accesses_after
  accesses_did f e = rw (f, e)

  pub accesses_stop : NotFull free → {s : Stop} → (one_step inputs m p).answer ≡ stopped s
      → accesses_of (suc n) inputs free m p ≡ (one_step inputs m p).accesses ++ []
  unfolding accesses_of accesses_after
  accesses_stop f e = rw (f, e)

-- what holds of the steps of every call: it is enough to see to no step, to a full log, to a step that stops, and to a completed one
module _
    (inputs : Inputs)
    (P : ℕ → Option ℕ → Lh5801 → Pages → CallResult → Type 0)
    (all : (free : Option ℕ) (m : Lh5801) (p : Pages) → P 0 free m p (no_step AllSteps m p))
    (none_free : (n : ℕ) (free : Option ℕ) (m : Lh5801) (p : Pages) → Full free → P (suc n) free m p (no_step LogFull m p))
    (stop : (n : ℕ) (free : Option ℕ) (m : Lh5801) (p : Pages) (s : Stop) → NotFull free → (one_step inputs m p).answer ≡ stopped s
    → P (suc n) free m p (no_step (Step s) m p))
    (next : (n : ℕ) (free : Option ℕ) (m : Lh5801) (p : Pages) (k : Lh5801) (t : ℕ) (kind : Kind)
    → NotFull free
    → (one_step inputs m p).answer ≡ did k t kind
    → P n (free_after free (one_step inputs m p).accesses) k (one_step inputs m p).pages
    (run_of n inputs (free_after free (one_step inputs m p).accesses) k (one_step inputs m p).pages)
    → P (suc n) free m p
    (completed t (one_step inputs m p).accesses (run_of n inputs (free_after free (one_step inputs m p).accesses) k (one_step inputs m p).pages)))
  where
    pub run_each : (n : ℕ) (free : Option ℕ) (m : Lh5801) (p : Pages) → P n free m p (run_of n inputs free m p)
    unfolding run_of
    run_each zero free m p = all free m p
    run_each (suc n) free m p = go (log_full free) refl x.answer refl (λ k. run_each n (free_after free x.accesses) k x.pages)
      where
        x : Ran StepEnd
        x = one_step inputs m p

        go : (b : Bool) → log_full free ≡ b → (e : StepEnd) → x.answer ≡ e
            → ((k : Lh5801) → P n (free_after free x.accesses) k x.pages (run_of n inputs (free_after free x.accesses) k x.pages))
            → P (suc n) free m p (run_of (suc n) inputs free m p)
        go true f e is h = rw (run_full inputs free m p n f) (none_free n free m p f)
        go false f (did k t kind) e h = rw (run_did inputs free m p n f e) (next n free m p k t kind f e (h k))
        go false f (stopped s) e h = rw (run_stop inputs free m p n f e) (stop n free m p s f e)

-- no step: no write
pub no_step_written : (e : End) (m : Lh5801) (p : Pages) → Written p (writes_of (no_step e m p)) (no_step e m p).pages
unfolding no_step
no_step_written e m p = rw writes_none (written_none p)

-- what the steps of a call leave of the pages, byte by byte
pub run_written : (n : ℕ) (inputs : Inputs) (free : Option ℕ) (m : Lh5801) (p : Pages)
    → Written p (writes_of (run_of n inputs free m p)) (run_of n inputs free m p).pages
unfolding completed
run_written n inputs =
    run_each inputs (λ n free m p o. Written p (writes_of o) o.pages)
    (λ free m p. no_step_written AllSteps m p)
    (λ n free m p f. no_step_written LogFull m p)
    (λ n free m p s f e. no_step_written (Step s) m p)
    (λ n free m p k t kind f e h. rw (writes_append (one_step inputs m p).accesses) (written_then (exec_written (step_of m inputs) p) h))
    n

join_no_step : (e : End) (m : Lh5801) (p : Pages) (y : CallResult) → join (no_step e m p) y ≡ y
unfolding join no_step
join_no_step e m p y = simp zero-add

join_completed : (t : ℕ) (l : List Access) (x y : CallResult) → join (completed t l x) y ≡ completed t l (join x y)
unfolding join completed
join_completed t l x y = simp (suc-add, add_assoc, append_assoc)

-- the result of a call with so many free entries, and then more steps
unfoldable pub more : ℕ → Inputs → Option ℕ → CallResult → CallResult
more n inputs free x = join x (run_of n inputs (free_after free x.bus) x.answer.cpu x.pages)

pub more_no_step : (n : ℕ) (inputs : Inputs) (free : Option ℕ) (e : End) (m : Lh5801) (p : Pages) → more n inputs free (no_step e m p) ≡ run_of n inputs free m p
unfolding more no_step
more_no_step n inputs free e m p = join_no_step e m p _ ∙ ap (λ (f : Option ℕ). run_of n inputs f m p) (after_none free)

pub more_completed : (n : ℕ) (inputs : Inputs) (free : Option ℕ) (t : ℕ) (l : List Access) (x : CallResult)
    → more n inputs free (completed t l x) ≡ completed t l (more n inputs (free_after free l) x)
unfolding more completed
more_completed n inputs free t l x =
    join_completed t l x _ ∙ ap (λ (f : Option ℕ). completed t l (join x (run_of n inputs f x.answer.cpu x.pages))) (after_append free l x.bus)

run_more : (n l : ℕ) (inputs : Inputs) (free : Option ℕ) (m : Lh5801) (p : Pages)
    → more (suc l) inputs free (run_of n inputs free m p) ≡ run_of (n + suc l) inputs free m p
run_more n l inputs =
    run_each inputs (λ n free m p o. more (suc l) inputs free o ≡ run_of (n + suc l) inputs free m p)
    (λ free m p. rw zero-add (more_no_step (suc l) inputs free AllSteps m p))
    (λ n free m p f. rw suc-add (more_no_step (suc l) inputs free LogFull m p ∙ run_full inputs free m p l f ∙ sym (run_full inputs free m p (n + suc l) f)))
    (λ n free m p s f e.
    rw suc-add (more_no_step (suc l) inputs free (Step s) m p ∙ run_stop inputs free m p l f e ∙ sym (run_stop inputs free m p (n + suc l) f e)))
    (λ n free m p k t kind f e h. rw suc-add (more_completed (suc l) inputs free t _ _ ∙ rw h (sym (run_did inputs free m p (n + suc l) f e))))
    n

-- the steps of a call, cut in two: the second part goes on from what the first left, also after a stop
pub run_split : (n l : ℕ) (inputs : Inputs) (free : Option ℕ) (m : Lh5801) (p : Pages) → 1 ≤ l
    → join (run_of n inputs free m p)
    (run_of l inputs (free_after free (run_of n inputs free m p).bus) (run_of n inputs free m p).answer.cpu (run_of n inputs free m p).pages)
    ≡ run_of (n + l) inputs free m p
unfolding more
run_split n zero inputs free m p h = absurd (not-suc-le-zero h)
run_split n (suc l) inputs free m p h = run_more n l inputs free m p

-- two results that differ at most in their pages
pub record SameButPages (x y : CallResult) : Type 0 where
  pub answer : y.answer ≡ x.answer
  pub bus : y.bus ≡ x.bus

same_no_step : (e : End) (m : Lh5801) (p q : Pages) → SameButPages (no_step e m p) (no_step e m q)
unfolding no_step
same_no_step e m p q = record { answer = refl; bus = refl }

same_completed : (t : ℕ) (l k : List Access) (x y : CallResult) → k ≡ l → SameButPages x y → SameButPages (completed t l x) (completed t k y)
unfolding completed
same_completed t l k x y e h = record { answer = rw h.answer; bus = rw (e, h.bus) }

-- on memories that give each read of the steps the same byte, they tell and do the same on the bus
pub run_alike : {R : List Access → Pages → Pages → Type 0} → Carried R → (n : ℕ) (inputs : Inputs) (free : Option ℕ) (m : Lh5801) (p q : Pages)
    → R (accesses_of n inputs free m p) p q
    → SameButPages (run_of n inputs free m p) (run_of n inputs free m q)
run_alike {R} c n inputs free m p q h =
    run_each inputs (λ n free m p o. (q : Pages) → R (accesses_of n inputs free m p) p q → SameButPages o (run_of n inputs free m q))
    (λ free m p q h. unfold run_of in same_no_step AllSteps m p q)
    (λ n free m p f q h. rw (run_full inputs free m q n f) (same_no_step LogFull m p q))
    (λ n free m p s f e q h.
    let both = exec_alike c (step_of m inputs) p q [] (rw (accesses_stop inputs free m p n f e) at h) in
    rw (run_stop inputs free m q n f (both.answer ∙ e)) (same_no_step (Step s) m p q))
    (λ n free m p k t kind f e ih q h.
    let both = exec_alike c (step_of m inputs) p q _ (rw (accesses_did inputs free m p n f e) at h) in
    rw (run_did inputs free m q n f (both.answer ∙ e))
    (same_completed t _ _ _ _ both.accesses (rw both.accesses (ih (one_step inputs m q).pages both.related))))
    n free m p q h

-- so they do on pages that agree where the steps read first
pub run_agree : (n : ℕ) (inputs : Inputs) (free : Option ℕ) (m : Lh5801) (p q : Pages) → SameLayout p q → Agree p q (accesses_of n inputs free m p)
    → SameButPages (run_of n inputs free m p) (run_of n inputs free m q)
run_agree n inputs free m p q l h = run_alike agreeing n inputs free m p q (l, h)
