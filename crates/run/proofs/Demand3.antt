-- Demand 3.
use Rattle.std.proofs.Common.{◌≡◌, ℕ, ◌+◌, ◌<◌, ◌≤◌, ◌≢◌, List, [], ◌∷◌, ◌++◌, map, sym, refl, ap, ◌∙◌, ⊎_elim, append-nil, add-zero, arith}
use mathlib.Core.List.{flatten, get_last, get_last-cons, cons-ne-nil}
use Rattle.std.specs.Prelude.{Option}
use Rattle.arithmetic.specs.declared.record.Lh5801.{Lh5801}
use Rattle.execution.specs.declared.Inputs.{Inputs}
use Rattle.pages.specs.Pages.{Pages, SameLayout}
use Rattle.pages.specs.Written.{Write, writes, Written}
use Rattle.pages.proofs.Exec.{writes_none, writes_append}
use Rattle.run.specs.declared.Settings.{Settings}
use Rattle.run.specs.Acceptance.{Accepted}
use Rattle.run.specs.BusLog.{free_after}
use Rattle.run.specs.Run.{CallResult, writes_of, join, run_of, settings, calls_of}
use Rattle.run.specs.Demand.{sum, AtLeastOne, AllAccepted, SameAsRun, Demand3}
use Rattle.run.proofs.Steps.{run_written, run_split, SameButPages, run_agree}
use Rattle.run.proofs.Acceptance.{limit_some, limit_most, call_run}
use Rattle.run.proofs.Ends.{run_reaches, reaches_small}

-- the results xs, one after another, come to the result x
record SumsTo (x : CallResult) (xs : List CallResult) : Type 0 where
  some_call : xs ≢ []
  end : (get_last xs some_call).answer.end ≡ x.answer.end
  cpu : (get_last xs some_call).answer.cpu ≡ x.answer.cpu
  pages : (get_last xs some_call).pages ≡ x.pages
  steps : sum (map (λ (o : CallResult). o.answer.steps) xs) ≡ x.answer.steps
  states : sum (map (λ (o : CallResult). o.answer.states) xs) ≡ x.answer.states
  bus : flatten (map (λ (o : CallResult). o.bus) xs) ≡ x.bus

sums_one : (x : CallResult) → SumsTo x (x ∷ [])
unfolding sum flatten
sums_one x =
    record {
      some_call = cons-ne-nil x [];
      end = refl;
      cpu = refl;
      pages = refl;
      steps = add-zero _;
      states = add-zero _;
      bus = append-nil _;
    }

sums_more : (x : CallResult) {y : CallResult} {ys : List CallResult} → SumsTo y ys → SumsTo (join x y) (x ∷ ys)
unfolding sum flatten join
sums_more x {y} {ys} h =
    record {
      some_call = cons-ne-nil x ys;
      end = rw (get_last-cons x h.some_call) h.end;
      cpu = rw (get_last-cons x h.some_call) h.cpu;
      pages = rw (get_last-cons x h.some_call) h.pages;
      steps = rw h.steps;
      states = rw h.states;
      bus = rw h.bus;
    }

-- one call, and one before others
sums_last : (l : ℕ) (inputs : Inputs) (free : Option ℕ) (m : Lh5801) (p : Pages) → Accepted (settings inputs l) m p
    → SumsTo (run_of (l + 0) inputs free m p) (calls_of (l ∷ []) inputs free m p)
unfolding calls_of
sums_last l inputs free m p h = rw (call_run (settings inputs l) free m p h, add-zero) (sums_one _)

sums_first : (l n : ℕ) (ls : List ℕ) (inputs : Inputs) (free : Option ℕ) (m : Lh5801) (p : Pages) → Accepted (settings inputs l) m p → 1 ≤ n
    → (let x = run_of l inputs free m p in
    SumsTo (run_of n inputs (free_after free x.bus) x.answer.cpu x.pages)
    (calls_of ls inputs (free_after free x.bus) x.answer.cpu x.pages))
    → SumsTo (run_of (l + n) inputs free m p) (calls_of (l ∷ ls) inputs free m p)
unfolding calls_of
sums_first l n ls inputs free m p h i rest = rw (call_run (settings inputs l) free m p h, ← run_split l n inputs free m p i) (sums_more _ rest)

-- the writes of all calls
wrote_flatten : (xs : List CallResult) → flatten (map writes_of xs) ≡ writes (flatten (map (λ (o : CallResult). o.bus) xs))
unfolding flatten
wrote_flatten [] = sym writes_none
wrote_flatten (x ∷ xs) = ap (λ (ws : List Write). writes_of x ++ ws) (wrote_flatten xs) ∙ sym (writes_append x.bus _)

-- the calls, from the pages q, come to a result that differs from the run's at most in its pages
same : {p q : Pages} {run x : CallResult} {xs : List CallResult} → SumsTo x xs → SameButPages run x
    → Written p (writes_of run) run.pages
    → Written q (writes_of x) x.pages
    → SameAsRun p q run xs
same {xs = xs} h t v w =
    record {
      some_call = h.some_call;
      end = h.end ∙ ap (λ a. a.end) t.answer;
      number = rw (h.end, t.answer);
      byte = rw (h.end, t.answer);
      cpu = h.cpu ∙ ap (λ a. a.cpu) t.answer;
      steps = h.steps ∙ ap (λ a. a.steps) t.answer;
      states = h.states ∙ ap (λ a. a.states) t.answer;
      bus = h.bus ∙ t.bus;
      wrote = wrote_flatten xs ∙ ap writes (h.bus ∙ t.bus);
      run_pages = v;
      list_pages = rw (wrote_flatten xs, h.bus, h.pages) w;
    }

-- a smaller limit, and pages of the same layout
pub first_accepted : (l n : ℕ) (inputs : Inputs) {m : Lh5801} {p : Pages} → Accepted (settings inputs (l + n)) m p → 1 ≤ l → Accepted (settings inputs l) m p
first_accepted l n inputs h i =
    record { page0 = h.page0; page1 = h.page1; timer = h.timer; limit = ⊎_elim (λ e. omega arith) (λ e. omega (arith, limit_most h)) }

layout_accepted : {s : Settings} {m : Lh5801} {p q : Pages} → Accepted s m p → SameLayout p q → Accepted s m q
layout_accepted h l = record { page0 = rw (← l.page0) h.page0; page1 = rw (← l.page1) h.page1; timer = h.timer; limit = h.limit }

-- the steps of a call keep TM at most 511
pub run_small : (n : ℕ) (inputs : Inputs) (free : Option ℕ) (m : Lh5801) (p : Pages) → m.tm < 512 → (run_of n inputs free m p).answer.cpu.tm < 512
run_small n inputs free m p = reaches_small (run_reaches n inputs free m p)

-- after the first call of a list, the others can be accepted
pub rest_accepted : (l n : ℕ) (inputs : Inputs) (free : Option ℕ) {m : Lh5801} {p : Pages} → Accepted (settings inputs (l + n)) m p → 1 ≤ n
    → Accepted (settings inputs n) (run_of l inputs free m p).answer.cpu (run_of l inputs free m p).pages
rest_accepted l n inputs free {m} {p} h i =
    record {
      page0 = rw (← (run_written l inputs free m p).layout.page0) h.page0;
      page1 = rw (← (run_written l inputs free m p).layout.page1) h.page1;
      timer = omega (arith, run_small l inputs free m p (omega (arith, h.timer)));
      limit = ⊎_elim (λ e. omega arith) (λ e. omega (arith, limit_most h));
    }

all_accepted : (l : ℕ) (ls : List ℕ) (inputs : Inputs) (free : Option ℕ) (m : Lh5801) (p : Pages)
    → Accepted (settings inputs (l + sum ls)) m p
    → 1 ≤ l
    → AtLeastOne ls
    → AllAccepted (l ∷ ls) inputs free m p
unfolding sum AtLeastOne AllAccepted
all_accepted l [] inputs free m p h i is = (first_accepted l 0 inputs h i, tt)
all_accepted l (k ∷ ks) inputs free m p h i is =
    let a = first_accepted l (k + sum ks) inputs h i in (
      a,
      rw (call_run (settings inputs l) free m p a)
          (all_accepted k ks inputs (free_after free (run_of l inputs free m p).bus) _ _ (rest_accepted l (k + sum ks) inputs free h (omega (arith, is.0))) is.0 is.1),
    )

-- the calls come to one run with the sum of their limits
calls_sum : (l : ℕ) (ls : List ℕ) (inputs : Inputs) (free : Option ℕ) (m : Lh5801) (p : Pages)
    → Accepted (settings inputs (l + sum ls)) m p
    → 1 ≤ l
    → AtLeastOne ls
    → SumsTo (run_of (l + sum ls) inputs free m p) (calls_of (l ∷ ls) inputs free m p)
unfolding sum AtLeastOne
calls_sum l [] inputs free m p h i is = sums_last l inputs free m p (first_accepted l 0 inputs h i)
calls_sum l (k ∷ ks) inputs free m p h i is =
    sums_first l (k + sum ks) (k ∷ ks) inputs free m p (first_accepted l (k + sum ks) inputs h i) (omega (arith, is.0))
    (calls_sum k ks inputs _ _ _ (rest_accepted l (k + sum ks) inputs free h (omega (arith, is.0))) is.0 is.1)

pub demand_3 : Demand3
unfolding Demand3 sum AtLeastOne
demand_3 s free m p h [] is e q l agree = absurd (omega (arith, limit_some h))
demand_3 s free m p h (k ∷ ks) is e q l agree =
    let a : Accepted (settings s.inputs (k + sum ks)) m q = rw e (layout_accepted h l) in (
      all_accepted k ks s.inputs free m q a is.0 is.1,
      rw (call_run s free m p h)
          (same (rw e at (calls_sum k ks s.inputs free m q a is.0 is.1)) (run_agree s.limit s.inputs free m p q l agree)
          (run_written s.limit s.inputs free m p)
          (run_written s.limit s.inputs free m q)),
    )
