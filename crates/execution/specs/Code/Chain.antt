-- Need not be believed: proofs/Table.antt shows that it is the table.
-- The rows of a page one after the other, tried each at its own first byte, and the first that lists the byte gives the instruction.
-- `chained (drop i rows) i byte` starts at row i. A byte outside of a row comes to a column past 15, where the row has no entry. The code
-- goes to a byte's row by its high digit.
use Rattle.std.specs.Prelude.{ℕ, suc, ◌+◌, ◌-◌, ◌*◌, ◌%◌, List, [], ◌∷◌, slice_index_or}
use Rattle.execution.specs.declared.instructions.Listed.{Listed}
use Rattle.std.specs.Prelude.{Option, Some, None}

abbrev pub or_else : Option Listed → Option Listed → Option Listed
or_else (Some l) e = Some l
or_else None e = e

-- the byte counted from the first of row i, in 8 bits
abbrev pub column : ℕ → ℕ → ℕ
column i byte = (byte + (256 - 16 * i)) % 256

unfoldable pub chained : List (List (Option Listed)) → ℕ → ℕ → Option Listed
chained [] i byte = None
chained (row ∷ rest) i byte = or_else (slice_index_or row (column i byte) None) (chained rest (suc i) byte)
