use native.Mathlib.Omega.{arith}
use Rattle.lh5801.proofs.Words.{words_within}
use Rattle.lh5801.proofs.words_of.Goals as goal

-- `lh5801::words_of` meets its contract: the record's numbers, and the answer's four after them.
pub returns : goal.returns
returns c =
    let cpu = c.from_record.ensures in (
      rw (c.copy_from_slice-2.ensures.after, c.copy_from_slice.ensures.after, cpu.0, c.from.ensures, c.from-2.ensures, c.from-3.ensures, c.number.ensures, c.byte.ensures),
      words_within c.args.r cpu.1 (omega (arith, c.byte.ensures)) (omega arith) (omega arith),
    )
