use Rattle.std.proofs.Common.{◌≡◌, ◌-◌, ◌++◌, drop}
use lib.Seq.{sets}
use Rattle.replay.specs.Bytes.{rule_bytes, fill_of}
use Rattle.replay.proofs.fill.Given as goal

abbrev pub invariant-loop-i : goal.invariant-loop-i
invariant-loop-i l = sets (l.start ++ drop l.n l.fn.page) l.i (rule_bytes (l.len - l.i) l.byte l.rule.step l.i) ≡ fill_of l.fn.page l.len l.rule.first l.rule.step
