use Rattle.std.proofs.Common.{◌≡◌, drop}
use Rattle.analyser.specs.Comparison.{writes_logged, writes_caught, comparison_of}
use Rattle.analyser.proofs.Verdict.{ahead}
use Rattle.analyser.proofs.compare.Given as goal

-- the answer is that of what is left of both, so many writes on
abbrev pub invariant-loop-entry : goal.invariant-loop-entry
invariant-loop-entry l = comparison_of l.log l.analyser ≡ ahead l.common (writes_logged (drop l.entry-index l.log)) (writes_caught (drop l.common l.analyser))
