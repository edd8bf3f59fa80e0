-- What a reader's answer says, with the place where its cursor is left: the field that the definition finds.
use Rattle.std.specs.Prelude.{◌≡◌, ℕ, Result, Ok, Err, OnErr}
use Rattle.std.specs.Borrow.{MutBor}
use denote.Triple.Both.{Both}
use Rattle.run.specs.CampaignFile.{Field, Reader, read, refused}
use Rattle.run.specs.declared.campaign_file.Refusal.{Refusal}
use Rattle.run.specs.declared.campaign_file.Cursor.{Cursor}

-- what was read, with the place after it
abbrev pub field_of : {A : Type 0} → Result A Refusal → ℕ → Field A
field_of (Ok value) next = read value next
field_of (Err stop) next = refused stop

-- from a cursor the definition's reader finds what the answer says, up to where the cursor is left, in the same file; a field that is turned down
-- leaves it where it was
pub record ReadOn {A : Type 0} (reader : Reader A) (before after : Cursor) (answer : Result A Refusal) : Type 0 where
  pub field : reader before.bytes.now before.at ≡ field_of answer after.at
  pub file : after.bytes ≡ before.bytes
  pub stays : OnErr answer (after ≡ before)

-- the same of a cursor that a function gets lent
abbrev pub ReadsField : {A : Type 0} → Reader A → Both (MutBor Cursor) (MutBor Cursor) → Result A Refusal → Type 0
ReadsField reader cursor answer = ReadOn reader cursor.entry.now cursor.exit.now answer
