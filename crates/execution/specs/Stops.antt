-- A step's stops, with document 01's number and byte for each, and document 02's 12.
use Rattle.std.specs.Prelude.{ℕ}
use Rattle.execution.specs.declared.Opcode.TheVariants.{First, AfterFd}
use Rattle.execution.specs.declared.Stop.{Stop}
use Rattle.execution.specs.declared.Stop.TheVariants.{Unlisted, Halted, AtAddress}

abbrev pub stop_number : Stop → ℕ
stop_number (Unlisted (First b)) = 5
stop_number (Unlisted (AfterFd b)) = 6
stop_number Halted = 7
stop_number AtAddress = 12

-- "The byte returned is 0 unless the number is 5 or 6"
abbrev pub stop_byte : Stop → ℕ
stop_byte (Unlisted (First b)) = b
stop_byte (Unlisted (AfterFd b)) = b
stop_byte Halted = 0
stop_byte AtAddress = 0
