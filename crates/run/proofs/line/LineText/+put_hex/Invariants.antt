use Rattle.run.proofs.line.LineText.+put_hex.Given as goal

-- each call has a smaller digits
abbrev pub decreases-put_hex : goal.decreases-put_hex
decreases-put_hex l = l.digits
