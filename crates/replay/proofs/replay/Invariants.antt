use Rattle.std.proofs.Common.{◌+◌, ◌≤◌, length}
use Rattle.replay.proofs.Listed.{Counted}
use Rattle.replay.proofs.replay.Given as goal

abbrev pub invariant-loop-item : goal.invariant-loop-item
invariant-loop-item l = (l.tally.calls + length l.item-iterator.left.now ≤ length l.bytes) × (l.tally.differ ≤ l.tally.calls) × Counted l.bytes l.item-iterator.left.now l.tally
