-- What a waiting step leaves (document 02, F-1): the fields that change, and every other as it was.
use Rattle.std.specs.Prelude.{◌≡◌, ℕ, ◌+◌, ◌-◌, ◌%◌, ◌^◌, Bool, cond, ◌&&◌, ◌||◌, [], ◌==◌, nat_le}
use Rattle.arithmetic.specs.declared.record.Lh5801.{Lh5801}
use Rattle.execution.specs.declared.Inputs.{Inputs}
use Rattle.pages.specs.Pages.{Pages}
use Rattle.pages.specs.Prog.{Ran}
use Rattle.pages.specs.Timer.{shift_of}
use Rattle.execution.specs.Step.{StepEnd, did, waiting}

-- the timer states after the step's own
abbrev pub states_after : Lh5801 → ℕ → ℕ
states_after m idle = (m.timer_state + idle) % 2 ^ 64

-- 42 states or more have then passed since previous: the timer shifts, once
abbrev pub shifts : Lh5801 → ℕ → Bool
shifts m idle = nat_le 42 ((states_after m idle + (2 ^ 64 - m.step_previous_state)) % 2 ^ 64)

-- timer reached has moved to IR1, the states are counted, and the timer part is done; every other field is as it was
unfoldable pub waited_of : Lh5801 → ℕ → Lh5801
waited_of m idle = record m {
  tm = cond (shifts m idle) (shift_of m.tm) m.tm;
  ir1 = m.ir1 || m.is_timer_reached;
  is_timer_reached = shifts m idle && (shift_of m.tm == 0x1FF);
  timer_state = states_after m idle;
  step_previous_state = cond (shifts m idle) (states_after m idle) m.step_previous_state;
  ticks = (m.ticks + idle) % 2 ^ 64;
}

-- what it comes to: that record, the idle figure's states, the pages as they were, and no access
pub record Waited (inputs : Inputs) (m : Lh5801) (pages : Pages) (r : Ran StepEnd) : Type 0 where
  pub answer : r.answer ≡ did (waited_of m inputs.idle) inputs.idle waiting
  pub pages_are : r.pages ≡ pages
  pub accesses : r.accesses ≡ []
