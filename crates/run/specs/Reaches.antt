-- What completed steps lead to, step by step.
use Rattle.std.specs.Prelude.{◌≡◌, ℕ, suc, ◌+◌, ◌<◌, List, [], ◌++◌, Option}
use Rattle.arithmetic.specs.declared.record.Lh5801.{Lh5801}
use Rattle.execution.specs.declared.Inputs.{Inputs}
use Rattle.pages.specs.Pages.{Pages}
use Rattle.pages.specs.Prog.{Access}
use Rattle.execution.specs.declared.Stop.{Stop}
use Rattle.execution.specs.Step.{Kind, did, stopped}
use Rattle.run.specs.Run.{one_step}
use Rattle.run.specs.BusLog.{free_after, NotFull}

-- `Reaches inputs free j m p k q t l`: j completed steps lead from the record m and the pages p to k and q, with t states in all and the accesses l in
-- order. Of a log, if one is lent, so many entries are free at the start, and before none of the steps it is full
pub data Reaches (inputs : Inputs) : Option ℕ → ℕ → Lh5801 → Pages → Lh5801 → Pages → ℕ → List Access → Type 0 where
  start : {free : Option ℕ} {m : Lh5801} {p : Pages} → Reaches inputs free 0 m p m p 0 []
  next : {free : Option ℕ} {j : ℕ} {m n k : Lh5801} {p q : Pages} {s t : ℕ} {kind : Kind} {l : List Access}
      → NotFull free
      → (one_step inputs m p).answer ≡ did n s kind
      → Reaches inputs (free_after free (one_step inputs m p).accesses) j n (one_step inputs m p).pages k q t l
      → Reaches inputs free (suc j) m p k q (s + t) ((one_step inputs m p).accesses ++ l)

-- fewer than n completed steps lead to free entries, a record and pages at which C holds
pub record ComesTo (inputs : Inputs) (free : Option ℕ) (n : ℕ) (m : Lh5801) (p : Pages) (C : Option ℕ → Lh5801 → Pages → Type 0) : Type 0 where
  pub steps : ℕ
  pub states : ℕ
  pub cpu : Lh5801
  pub pages : Pages
  pub bus : List Access
  pub fewer : steps < n
  pub reached : Reaches inputs free steps m p cpu pages states bus
  pub holds : C (free_after free bus) cpu pages

-- the log is not full, and the next step stops with s
abbrev pub StopsWith : Inputs → Stop → Option ℕ → Lh5801 → Pages → Type 0
StopsWith inputs s free k q = NotFull free × ((one_step inputs k q).answer ≡ stopped s)
