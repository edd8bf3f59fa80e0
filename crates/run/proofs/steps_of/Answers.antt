use Rattle.std.proofs.Common.{rules}
use Rattle.run.proofs.Stretches.{stretched_start, stretched_all, stretched_ends, stretched_next, stretched_stop}
use Rattle.run.proofs.steps_of.Goals as goal

pub loop-steps-init : goal.loop-steps-init
loop-steps-init c = stretched_start

pub returns-in-Err : goal.returns-in-Err
returns-in-Err c =
    rw c.answered.ensures
    (stretched_ends c.loop-steps.invariant c.loop-steps-test.true (rw (c.view.ensures, c.in-Err.is) at c.before_stretch.ensures) (search rules) c.requires)

pub returns-in-Some : goal.returns-in-Some
returns-in-Some c =
    rw c.answered-in-Some.ensures
    (stretched_stop c.loop-steps.invariant c.loop-steps-test.true (rw (c.view.ensures, c.in-Ok.is) at c.before_stretch.ensures) c.advance-led.ensures
    c.in-Some.is (search rules) c.requires)

pub loop-steps-preserved : goal.loop-steps-preserved
loop-steps-preserved c =
    stretched_next c.loop-steps.invariant c.loop-steps-test.true (rw (c.view.ensures, c.in-Ok.is) at c.before_stretch.ensures) c.advance-led.ensures

pub returns : goal.returns
returns c = rw c.answered-2.ensures (stretched_all c.loop-steps.invariant c.loop-steps-test.false (search rules) c.requires)
