-- The accesses of a completed step (document 02, F-2: "Each access of a completed step").
use Rattle.std.specs.Prelude.{List, []}
use Rattle.pages.specs.Prog.{Access, Ran}
use Rattle.execution.specs.Step.{StepEnd, did, stopped}

-- these accesses, where the step is completed; none, where it stops
abbrev pub of_completed : StepEnd → List Access → List Access
of_completed (did m states kind) l = l
of_completed (stopped s) l = []

-- the accesses of a step, in order, where it is completed; none, where it stops
abbrev pub completed_accesses : Ran StepEnd → List Access
completed_accesses r = of_completed r.answer r.accesses
