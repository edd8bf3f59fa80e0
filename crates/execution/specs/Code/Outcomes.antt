-- How the code is built, and need not be believed (proofs/Order.antt ties it): what `step_cpu` answers of how a step ends.
use Rattle.std.specs.Prelude.{Result, Ok, Err}
use Rattle.arithmetic.specs.declared.record.Lh5801.{Lh5801}
use Rattle.execution.specs.declared.Stop.{Stop}
use Rattle.execution.specs.Step.{StepEnd, did, stopped}

abbrev pub outcome_of : StepEnd → Result Lh5801 Stop
outcome_of (did m states kind) = Ok m
outcome_of (stopped s) = Err s
