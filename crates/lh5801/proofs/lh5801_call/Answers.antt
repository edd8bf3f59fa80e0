use Rattle.std.proofs.Common.{ap, ◌∙◌, arith, rules}
use Rattle.run.specs.BusLog.{log_of}
use Rattle.lh5801.specs.Words.{taken_of}
use Rattle.lh5801.proofs.Words.{taken_within, left}
use Rattle.lh5801.proofs.lh5801_call.Goals as goal

-- `lh5801::lh5801_call` meets its contract: the run call of the record that the words give, and its answer's words.
pub record_of-cpu-requires : goal.record_of-cpu-requires
unfolding taken_of
record_of-cpu-requires c = rw c.taken-numbers.ensures (omega arith, taken_within c.args.words.now)

pub returns : goal.returns
returns c =
    let a = rw (c.record_of-cpu.ensures, c.taken-numbers.ensures, c.then_some.ensures) at c.run-answer.ensures in
    left a.answers (ap (λ l. log_of l c.run-answer.new.log.used) (search rules) ∙ a.logged.log) c.words_of.ensures
