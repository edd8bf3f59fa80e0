use Rattle.std.proofs.Common.{◌-◌}
use Rattle.run.proofs.Stretches.{Stretched}
use Rattle.run.proofs.steps_of.Given as goal

abbrev pub invariant-loop-steps : goal.invariant-loop-steps
invariant-loop-steps l = Stretched l.settings l.is_lent l.fn.log l.fn.cpu l.fn.memory l.steps l.current l.memory l.log

abbrev pub decreases-loop-steps : goal.decreases-loop-steps
decreases-loop-steps l = l.settings.limit - l.steps
