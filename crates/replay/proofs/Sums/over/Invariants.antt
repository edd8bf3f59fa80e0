use Rattle.std.proofs.Common.{◌≡◌, ℕ, List, take}
use Rattle.std.specs.List.{AllZip}
use Rattle.replay.specs.Numbers.{sums_of}
use Rattle.replay.proofs.Sums.over.Given as goal

abbrev pub invariant-loop-number : goal.invariant-loop-number
invariant-loop-number g l = (values : List ℕ) × AllZip g.T.Into.converts (take l.number-index l.numbers) values × (l.sums ≡ sums_of values l.fn.self)
