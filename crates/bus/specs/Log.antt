-- The entries of the bus log (document 02, F-2).
use Rattle.std.specs.Prelude.{ℕ, ◌+◌, ◌*◌, ◌%◌, List, [], ◌∷◌, slice_set}
use Rattle.pages.specs.Prog.{Access, read_of, write_of}

-- an access as an entry: "bit 25 is the write mark, bits 24 to 8 the address, bits 7 to 0 the byte, the rest zero"
abbrev pub entry_of : Access → ℕ
entry_of (read_of a b) = a % 0x20000 * 256 + b
entry_of (write_of a v) = 0x2000000 + (a % 0x20000 * 256 + v)

-- a log with the entries of these accesses from place i on; what would go past its end is dropped
abbrev pub noted : List ℕ → ℕ → List Access → List ℕ
noted log i [] = log
noted log i (x ∷ xs) = noted (slice_set log i (entry_of x)) (i + 1) xs
