-- How the code is built, and need not be believed (`line` ties it): the printed line in parts, each written after the others into a lent buffer.
use Rattle.std.specs.Prelude.{◌≡◌, ℕ, ◌≤◌, List, [], ◌∷◌, ◌++◌, length, take, drop}
use Rattle.std.specs.Borrow.{MutBor}
use denote.Triple.Both.{Both}
use Rattle.run.specs.Line.{space}
use Rattle.run.specs.declared.line.LineText.{LineText}

-- a part of a line, a space after each of its fields
abbrev pub spaced : List (List ℕ) → List ℕ
spaced [] = []
spaced (field ∷ fields) = field ++ (space ∷ spaced fields)

-- the bytes of a line, as far as it is written
unfoldable pub written : LineText → List ℕ
written text = take text.len text.buffer.now

-- it is written on: what comes after it stays, and the buffer is the same one
pub record KeepsRest (text : Both (MutBor LineText) (MutBor LineText)) : Type 0 where
  pub length_is : length text.exit.now.buffer.now ≡ length text.entry.now.buffer.now
  pub grows : text.entry.now.len ≤ text.exit.now.len
  pub rest : (k : ℕ) → text.exit.now.len ≤ k → drop k text.exit.now.buffer.now ≡ drop k text.entry.now.buffer.now
  pub lent : text.exit.now.buffer.ghost_name ≡ text.entry.now.buffer.ghost_name
