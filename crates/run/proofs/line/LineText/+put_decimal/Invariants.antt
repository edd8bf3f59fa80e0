use Rattle.run.proofs.line.LineText.+put_decimal.Given as goal

-- each call has a smaller value
abbrev pub decreases-put_decimal : goal.decreases-put_decimal
decreases-put_decimal l = l.value
