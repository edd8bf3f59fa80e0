use Rattle.run.specs.CampaignFile.{greatest_values}
use Rattle.run.proofs.CampaignFile.InTurn.{ReadSo}
use Rattle.run.proofs.campaign_file.Cursor.numbers.Given as goal

-- The values read so far stand in front of those that the definition reads from here on.
abbrev pub invariant-loop-value : goal.invariant-loop-value
invariant-loop-value l = ReadSo greatest_values l.fn.self l.value-items l.value-index l.cursor
