use Rattle.std.proofs.Common.{ap, ◌∙◌, rules}
use Rattle.run.specs.BusLog.{log_of}
use Rattle.replay.specs.Calls.{call_result_of, call_differs_of}
use Rattle.replay.proofs.Called.{called, lent_by, left_by}
use Rattle.replay.proofs.Item.call_differs.Goals as goal

pub returns : goal.returns
unfolding call_differs_of call_result_of
returns c =
    let log = c.args.self.now.lent.log in
    let r = rw (c.patch.ensures.page0, c.patch.ensures.page1, c.prepare.ensures, c.prepare-2.ensures, c.from-asked.ensures, c.is_some.ensures, c.unwrap_or.ensures, lent_by log) at c.run-answer.ensures in
    rw (c.ne.ensures, c.ne-2.ensures, c.answer_line-n.ensures.bytes_are, c.sums_after-sums.ensures)
    (called log {left = log_of _ _} c.args.self.now.want.now c.args.self.now.want_sums r.answers
    (ap (λ l. log_of l c.run-answer.new.log.used) (search rules) ∙ r.logged.log ∙ left_by log _))
