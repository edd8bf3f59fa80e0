-- How the code is built, and need not be believed (proofs/Stretches.antt ties it): the answer is put together at its end, and its states are counted by the ticks.
use Rattle.std.specs.Prelude.{ℕ, Bool, ◌+◌, ◌-◌, ◌%◌, ◌^◌}
use Rattle.arithmetic.specs.declared.record.Lh5801.{Lh5801}
use Rattle.pages.specs.declared.Memory.{Memory}
use Rattle.pages.specs.Contract.{held, SameLent}
use Rattle.bus.specs.declared.BusLog.{BusLog}
use Rattle.run.specs.declared.End.{End}
use Rattle.run.specs.declared.Answer.{Answer}
use Rattle.run.specs.Run.{CallResult}
use Rattle.run.specs.Answers.{Answers, Logged}

abbrev pub answer_of : End → ℕ → ℕ → Lh5801 → Answer
answer_of e steps states m = record { end = e; steps = steps; states = states; cpu = m }

-- the states from one count of ticks to another, which wraps on 64 bits. proofs/Stretches.antt shows that over a call they are the sum of the steps' states
abbrev pub states_between : ℕ → ℕ → ℕ
states_between first now = (now + (2 ^ 64 - first % 2 ^ 64)) % 2 ^ 64

-- an answer, the pages and a log that may be lent, in a memory that holds the same lent pages
pub record AnswersIn (o : CallResult) (l : Memory) (r : Answer) (n : Memory) (is_lent : Bool) (before after : BusLog) : Type 0 where
  pub answers : Answers o r (held n)
  pub lent : SameLent l n
  pub logged : Logged is_lent o.bus before after
