use Rattle.std.proofs.Common.{sym, ◌∙◌}
use Rattle.execution.proofs.Order.{step_interrupt, step_halted, step_off}
use Rattle.execution.proofs.step_cpu.Goals as goal

pub returns-in-Some : goal.returns-in-Some
returns-in-Some c =
    step_interrupt _ _ c.if-cpu.true c.reached-moved.ensures (sym c.accepted.ensures ∙ c.in-Some.is) c.accept.ensures c.timer_part.ensures

pub returns-in-None : goal.returns-in-None
returns-in-None c =
    step_halted _ _ c.if-cpu.true c.reached-moved.ensures (sym c.accepted.ensures ∙ c.in-None.is) c.requires c.halted.ensures

pub returns-else-cpu : goal.returns-else-cpu
returns-else-cpu c = step_off _ _ c.if-cpu.false c.add_state.ensures
