use Rattle.run.proofs.Loop.{Executing}
use Rattle.run.proofs.instructions.Given as goal

abbrev pub invariant-loop-steps : goal.invariant-loop-steps
invariant-loop-steps l = Executing l.settings l.done l.initial.current l.initial.memory l.steps l.current l.memory
