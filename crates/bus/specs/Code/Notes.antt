-- How the code is built, and need not be believed: proofs/note_step/Answers.antt ties it. What a function does that appends the entries of
-- accesses to a lent log.
use Rattle.std.specs.Prelude.{◌≡◌, ℕ, ◌+◌, ◌<◌, false, List, length}
use Rattle.arithmetic.specs.declared.record.Lh5801.{Lh5801}
use Rattle.pages.specs.Prog.{Access, read_of, write_of, exec}
use Rattle.std.specs.Borrow.{MutBor}
use denote.Triple.Both.{Both}
use Rattle.pages.specs.declared.View.{View}
use Rattle.pages.specs.Contract.{as_shared}
use Rattle.execution.specs.declared.Inputs.{Inputs}
use Rattle.execution.specs.Step.{step_of}
use Rattle.execution.specs.Completed.{completed_accesses}
use Rattle.execution.specs.Code.Due.{stops_before_of}
use Rattle.bus.specs.declared.BusLog.{BusLog}
use Rattle.bus.specs.declared.Kind.{Kind}
use Rattle.bus.specs.declared.Kind.TheVariants.{Read, Write}
use Rattle.bus.specs.Log.{noted}

-- a lent log, at entry and at exit
abbrev pub LentLog : Type 0
LentLog = Both (MutBor BusLog) (MutBor BusLog)

-- the greatest count from which seven entries can be counted in 64 bits
abbrev pub most : ℕ
most = 0xFFFFFFFFFFFFFFF8

-- the entries of these accesses are appended to a log, and its list is the same one
pub record Appends (l : List Access) (log : LentLog) : Type 0 where
  pub entries : log.exit.now.entries.now ≡ noted log.entry.now.entries.now log.entry.now.used l
  pub used : log.exit.now.used ≡ log.entry.now.used + length l
  pub lent : log.exit.now.entries.ghost_name ≡ log.entry.now.entries.ghost_name

-- the log a becomes b in that way, if the count after the accesses is one of 64 bits: no function below `note_step` has to ask for room
pub record Grows (l : List Access) (a b : BusLog) : Type 0 where
  pub counted : a.used + length l < 0x10000000000000000 → (b.entries.now ≡ noted a.entries.now a.used l) × (b.used ≡ a.used + length l)
  pub lent : b.entries.ghost_name ≡ a.entries.ghost_name

-- a lent log does, from entry to exit
abbrev pub Notes : List Access → LentLog → Type 0
Notes l log = Grows l log.entry.now log.exit.now

-- the access of an entry
abbrev pub access_of : Kind → ℕ → ℕ → Access
access_of Read a b = read_of a b
access_of Write a b = write_of a b

-- the coming step's accesses, if it is completed
abbrev pub StepAccesses : (Lh5801 → Both View View → Inputs → List Access)
StepAccesses m view inputs = completed_accesses (exec (step_of m inputs) (as_shared view))

-- they are appended to a log, whatever the inputs are, where the step does not stop before the stop address
abbrev pub AppendsStep : Lh5801 → Both View View → LentLog → Type 0
AppendsStep m view log = (inputs : Inputs) → stops_before_of m inputs ≡ false → Appends (StepAccesses m view inputs) log
