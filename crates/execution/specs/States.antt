-- The states of an instruction beside those that the opcode table prints: "A taken branch adds 2 forward, 3 backward", LOP as a backward
-- branch, "A vector taken .. adds 13 states".
use Rattle.std.specs.Prelude.{ℕ, ◌%◌, Bool, true, false, cond, not, ◌==◌}
use Rattle.arithmetic.specs.declared.record.Lh5801.{Lh5801}
use Rattle.execution.specs.declared.instructions.Condition.{Condition}
use Rattle.execution.specs.declared.instructions.Direction.{Direction}
use Rattle.execution.specs.declared.instructions.Direction.TheVariants.{Forward, Backward}
use Rattle.execution.specs.declared.instructions.Instruction.{Instruction}
use Rattle.execution.specs.declared.instructions.Instruction.TheVariants.{Branch, Lop, VectorIf, Vector}
use Rattle.execution.specs.Instructions.{holds_of}

-- what an instruction may add: only these four kinds do
pub data Adds : Type 0 where
  nothing : Adds
  branch : Condition → Direction → Adds
  loop : Adds
  vector_if : Condition → Adds
  vector : Adds

abbrev pub adds_of : Instruction → Adds
adds_of (Branch direction c) = branch c direction
adds_of Lop = loop
adds_of (VectorIf c) = vector_if c
adds_of (Vector nr) = vector
adds_of i = nothing

-- how much, where it is taken
abbrev pub amount : Adds → ℕ
amount nothing = 0
amount (branch c Forward) = 2
amount (branch c Backward) = 3
amount loop = 3
amount (vector_if c) = 13
amount vector = 13

abbrev pub added_when_taken : Instruction → ℕ
added_when_taken i = amount (adds_of i)

-- is it taken from this record?
abbrev pub taken_from : Lh5801 → Adds → Bool
taken_from m nothing = false
taken_from m (branch c direction) = holds_of m.t c
taken_from m loop = not (m.u % 256 == 0)
taken_from m (vector_if c) = holds_of m.t c
taken_from m vector = true

-- what the instruction adds from this record
abbrev pub added_of : Lh5801 → Instruction → ℕ
added_of m i = cond (taken_from m (adds_of i)) (amount (adds_of i)) 0
