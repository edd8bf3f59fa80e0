use Rattle.std.proofs.Common.{sym, ◌∙◌, refl, rules}
use Rattle.run.specs.Run.{no_step}
use Rattle.run.proofs.BusLog.{logged_none}
use Rattle.run.proofs.Acceptance.{accepted_by, limit_most, call_end}
use Rattle.run.proofs.Stretches.{accepted_call}
use Rattle.run.proofs.run.Goals as goal

pub returns-in-Some : goal.returns-in-Some
unfolding no_step
returns-in-Some c =
    rw (call_end c.args.settings _ c.args.cpu _ (sym c.not_accepted.ensures ∙ c.in-Some.is))
    (record { answers = record { answer = refl; pages = refl }; logged = logged_none })

pub steps_of-requires : goal.steps_of-requires
steps_of-requires c =
    let a = accepted_by _ _ _ (sym c.not_accepted.ensures ∙ c.in_default.is) in
    limit_most a

pub returns : goal.returns
returns c = accepted_call c.args.settings c.args.cpu _ (sym c.not_accepted.ensures ∙ c.in_default.is) (search rules) c.steps_of.ensures
