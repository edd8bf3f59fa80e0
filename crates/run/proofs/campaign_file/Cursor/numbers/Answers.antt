use Rattle.std.proofs.Common.{arith, rules}
use Rattle.run.proofs.CampaignFile.InTurn.{read_more, read_stops, read_all}
use Rattle.run.proofs.campaign_file.Cursor.numbers.Goals as goal

pub returns-in_err-value : goal.returns-in_err-value
returns-in_err-value c = search (rules, read_stops c.loop-value.invariant (omega arith) c.in_err-value.ensures)

pub loop-value-preserved : goal.loop-value-preserved
loop-value-preserved c = read_more c.loop-value.invariant (omega arith) c.in_ok-value.ensures

pub returns : goal.returns
returns c = read_all c.loop-value.invariant (omega arith)
