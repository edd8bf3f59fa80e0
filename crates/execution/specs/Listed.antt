-- Which bytes are listed (document 01, "Opcodes"), and the places that an instruction has a meaning for.
use Rattle.std.specs.Prelude.{ℕ, zero, suc, Bool, true, false, cond, ◌||◌, List, [], ◌∷◌, ◌==◌}
use Rattle.execution.specs.declared.instructions.Listed.{Listed}
use Rattle.std.specs.Prelude.{Option, Some, None}
use Rattle.execution.specs.declared.instructions.Instruction.{Instruction}
use Rattle.execution.specs.declared.instructions.Instruction.TheVariants.{Sta, Memory, Bii}
use Rattle.execution.specs.declared.places.Place.{Place}
use Rattle.execution.specs.declared.places.Place.TheVariants.{InHalf, Pointer, Fixed, InCode}
use Rattle.execution.specs.Opcodes.{decoded}
use Rattle.execution.specs.OpcodesFd.{decoded_fd}

abbrev pub is_listed : Option Listed → Bool
is_listed (Some l) = true
is_listed None = false

-- is a first byte listed? FD is, though it names no instruction by itself
abbrev pub listed_first : ℕ → Bool
listed_first byte = byte == 0xFD || is_listed (decoded byte)

-- is a byte after FD listed?
abbrev pub listed_after_fd : ℕ → Bool
listed_after_fd byte = is_listed (decoded_fd byte)

-- the numbers from i on, n of them, that pass a test, in order
abbrev pub passing : (ℕ → Bool) → ℕ → ℕ → List ℕ
passing test i zero = []
passing test i (suc n) = cond (test i) (i ∷ passing test (suc i) n) (passing test (suc i) n)

-- the bytes that pass a test, in order
abbrev pub bytes_where : (ℕ → Bool) → List ℕ
bytes_where test = passing test 0 256

-- the places that an instruction has a meaning for: memory for ANI, ORI, ADI and BII, a half or memory for STA, any for an operation on A. The
-- others have no place
abbrev pub in_memory : Place → Bool
in_memory (InHalf h) = false
in_memory (Pointer page r) = true
in_memory (Fixed page) = true
in_memory InCode = false

abbrev pub can_store : Place → Bool
can_store (InHalf h) = true
can_store (Pointer page r) = true
can_store (Fixed page) = true
can_store InCode = false

abbrev pub place_fits : Instruction → Bool
place_fits (Sta place) = can_store place
place_fits (Memory o place) = in_memory place
place_fits (Bii place) = in_memory place
place_fits i = true
