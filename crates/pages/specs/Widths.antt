-- The widths of accesses and of the pages' bytes (document 01, "Record and pages"); the other definitions are over numbers of any size.
use Rattle.std.specs.Prelude.{ℕ, ◌<◌, List, [], ◌∷◌}
use Rattle.pages.specs.Pages.{Pages, at}
use Rattle.pages.specs.Prog.{Access, read_of, write_of}

-- every address reads a byte: past the end that is FF, so this is of the lent pages' own bytes
abbrev pub AllBytes : Pages → Type 0
AllBytes p = (a : ℕ) → at p a < 0x100

-- an access is at an address of page 0 or page 1, and of a byte
abbrev pub AccessFits : Access → Type 0
AccessFits (read_of a b) = (a < 0x20000) × (b < 0x100)
AccessFits (write_of a v) = (a < 0x20000) × (v < 0x100)

-- and so is each of a list
abbrev pub AllFit : List Access → Type 0
AllFit [] = Unit {0}
AllFit (x ∷ l) = AccessFits x × AllFit l
