-- The sixteen words of the C entry: the record and the answer as numbers of 64 bits.
use Rattle.std.specs.Prelude.{ℕ, ◌-◌, ◌%◌, ◌^◌, Bool, min, List, [], ◌∷◌, ◌++◌, ◌≡◌, get_or}
use Rattle.arithmetic.specs.declared.record.Lh5801.{Lh5801}
use Rattle.pages.specs.Pages.{Pages}
use Rattle.run.specs.declared.Answer.{Answer}
use Rattle.run.specs.Acceptance.{end_number, end_byte}
use Rattle.run.specs.BusLog.{Log, appended_if}
use Rattle.run.specs.Run.{CallResult}
use Rattle.run.specs.RecordNumbers.{record_numbers, record_of, AllWithin, widths}

-- words 0 to 11 are the record's numbers, each taken at its field's width: modulo 256 or 65,536. A TM above 65,535 counts as 65,535, which is
-- too large as well. Of the flags the nine lowest bits are looked at
unfoldable pub taken_of : List ℕ → List ℕ
taken_of words =
    get_or words 0 0 % 256 ∷ get_or words 1 0 % 256
    ∷ get_or words 2 0 % 65536 ∷ get_or words 3 0 % 65536 ∷ get_or words 4 0 % 65536 ∷ get_or words 5 0 % 65536 ∷ get_or words 6 0 % 65536
    ∷ min (get_or words 7 0) 65535
    ∷ get_or words 8 0 ∷ get_or words 9 0 ∷ get_or words 10 0 ∷ get_or words 11 0 ∷ []

abbrev pub cpu_of : List ℕ → Lh5801
cpu_of words = record_of (taken_of words)

-- the record's numbers after the call, and then document 01's number, byte, steps and states
abbrev pub words_of : Answer → List ℕ
words_of r = record_numbers r.cpu ++ (end_number r.end ∷ end_byte r.end ∷ r.steps ∷ r.states ∷ [])

-- the greatest values of the words that come back
abbrev pub word_widths : List ℕ
word_widths = widths ++ (12 ∷ 255 ∷ (2 ^ 32 - 1) ∷ (2 ^ 64 - 1) ∷ [])

-- what the entry leaves: the words, the pages and the log of the definition's call; a list and a count that are not lent as a log stay as they are. A
-- call that is passed these words starts from the record that this one ended with
pub record Left (o : CallResult) (lent : Bool) (before after : Log) (words : List ℕ) (left : Pages) : Type 0 where
  pub words_are : words ≡ words_of o.answer
  pub within : AllWithin word_widths words
  pub continues : cpu_of words ≡ o.answer.cpu
  pub pages : left ≡ o.pages
  pub log : after ≡ appended_if lent before o.bus
