use Rattle.run.proofs.CampaignFile.Groups.{Passed}
use Rattle.run.proofs.campaign_file.Cursor.number.Given as goal

-- The groups passed, with their value and the next one's weight, stand in front of those that the definition finds from here on.
abbrev pub invariant-loop-count : goal.invariant-loop-count
invariant-loop-count l = Passed l.fn.self l.self l.rest l.count l.weight l.value
