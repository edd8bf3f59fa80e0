use Rattle.std.proofs.Common.{rules}
use Rattle.run.proofs.record_numbers.from_record.Goals as goal

pub returns : goal.returns
returns c = (cc, search (rules, c.flags_of.ensures.1))
