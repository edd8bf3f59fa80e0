use Rattle.execution.proofs.Order.{executed_step}
use Rattle.run.proofs.Loop.{executing_start, executing_next, executing_ends, executing_stops, executing_none, executing_all}
use Rattle.run.proofs.instructions.Goals as goal

pub loop-steps-init : goal.loop-steps-init
loop-steps-init c = executing_start c.args.cpu c.requires.0 c.requires.1 c.requires.2 c.reached-current.ensures

pub instruction-requires : goal.instruction-requires
instruction-requires c = (c.loop-steps.invariant.ready, c.loop-steps.invariant.elsewhere c.loop-steps-test.true)

pub loop-steps-preserved : goal.loop-steps-preserved
loop-steps-preserved c =
    let e = c.in-Ok-Again in
    rw e.field-0-is
    (executing_next c.loop-steps.invariant c.loop-steps-test.true c.args.cpu c.requires.2 (executed_step _ _ (rw (e.is, e.field-0-is) at c.instruction.ensures.0))
    (rw (e.is, e.field-0-is) at c.instruction.ensures.1))

pub returns-in-Ok-Completed : goal.returns-in-Ok-Completed
returns-in-Ok-Completed c =
    let e = c.in-Ok-Completed in
    rw e.field-0-is
    (executing_ends c.loop-steps.invariant c.loop-steps-test.true c.requires.0 c.reached-current.ensures (executed_step _ _ (rw (e.is, e.field-0-is) at c.instruction.ensures.0)))

pub returns-then-steps-done : goal.returns-then-steps-done
returns-then-steps-done c =
    executing_none c.loop-steps.invariant c.loop-steps-test.true c.requires.0 c.reached-current.ensures c.if-steps-done.true c.unmoved-cpu.ensures (executed_step _ _ (rw c.in-Err.is at c.instruction.ensures.0))

pub returns-else-steps-done : goal.returns-else-steps-done
returns-else-steps-done c =
    executing_stops c.loop-steps.invariant c.loop-steps-test.true c.requires.0 c.reached-current.ensures c.if-steps-done.false (executed_step _ _ (rw c.in-Err.is at c.instruction.ensures.0))

pub returns : goal.returns
returns c =
    executing_all c.loop-steps.invariant c.requires.0 c.reached-current.ensures c.loop-steps-test.false c.requires.1
