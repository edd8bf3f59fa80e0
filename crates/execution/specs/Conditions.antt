-- The conditions of a step's stops, in the words of documents 01 and 02, on the record and the pages before the step.
use Rattle.std.specs.Prelude.{◌≡◌, ℕ, true, false, ◌≢◌, Some, None}
use Rattle.arithmetic.specs.declared.record.Lh5801.{Lh5801}
use Rattle.execution.specs.declared.Inputs.{Inputs}
use Rattle.pages.specs.Pages.{Pages, at}
use Rattle.pages.specs.Stack.{up16}
use Rattle.execution.specs.Interrupts.{accepted}
use Rattle.execution.specs.Listed.{listed_first, listed_after_fd}
use Rattle.execution.specs.Step.{Kind, StepEnd, did}

-- a halted step: "BF set, halted, IR0 clear, no interrupt accepted". A set IR0 is an interrupt that is accepted (document 02, F-6)
pub record Halting (m : Lh5801) : Type 0 where
  pub on : m.bf ≡ true
  pub halted : m.is_halted ≡ true
  pub none : accepted m ≡ None

-- 7: that, and the idle figure is 0 (document 02, F-1)
pub record HaltedStop (inputs : Inputs) (m : Lh5801) : Type 0 where
  pub halting : Halting m
  pub idle : inputs.idle ≡ 0

-- the step waits: that, and the idle figure is not 0
pub record Waits (inputs : Inputs) (m : Lh5801) : Type 0 where
  pub halting : Halting m
  pub idle : inputs.idle ≢ 0

-- an instruction is due: BF set, no interrupt accepted, not halted
pub record Due (m : Lh5801) : Type 0 where
  pub on : m.bf ≡ true
  pub none : accepted m ≡ None
  pub running : m.is_halted ≡ false

-- 12: that, and P equals the stop address (document 02, F-5)
pub record AddressStop (inputs : Inputs) (m : Lh5801) : Type 0 where
  pub due : Due m
  pub address : inputs.stop_address ≡ Some m.p

-- the opcode is read: an instruction is due, and P does not equal the stop address
pub record Fetches (inputs : Inputs) (m : Lh5801) : Type 0 where
  pub due : Due m
  pub elsewhere : inputs.stop_address ≢ Some m.p

-- the byte at P, and the one after it
abbrev pub first_byte : Lh5801 → Pages → ℕ
first_byte m pages = at pages m.p

abbrev pub second_byte : Lh5801 → Pages → ℕ
second_byte m pages = at pages (up16 m.p)

-- 5: "first byte unlisted". FD is listed
pub record FirstUnlisted (inputs : Inputs) (m : Lh5801) (pages : Pages) (b : ℕ) : Type 0 where
  pub fetches : Fetches inputs m
  pub first : first_byte m pages ≡ b
  pub unlisted : listed_first b ≡ false

-- 6: "byte after FD", "that byte unlisted"
pub record SecondUnlisted (inputs : Inputs) (m : Lh5801) (pages : Pages) (b : ℕ) : Type 0 where
  pub fetches : Fetches inputs m
  pub first : first_byte m pages ≡ 0xFD
  pub second : second_byte m pages ≡ b
  pub unlisted : listed_after_fd b ≡ false

-- a completed step, with its record, states and kind
pub record Completes (e : StepEnd) : Type 0 where
  pub after : Lh5801
  pub states : ℕ
  pub kind : Kind
  pub is : e ≡ did after states kind

-- no condition of a stop holds
pub record NoStop (inputs : Inputs) (m : Lh5801) (pages : Pages) : Type 0 where
  pub seven : ¬ HaltedStop inputs m
  pub twelve : ¬ AddressStop inputs m
  pub five : (b : ℕ) → ¬ FirstUnlisted inputs m pages b
  pub six : (b : ℕ) → ¬ SecondUnlisted inputs m pages b
