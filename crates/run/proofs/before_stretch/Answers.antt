use Rattle.std.proofs.Common.{sym, ◌∙◌, arith}
use Rattle.run.specs.Code.Leads.{at_address, one_step_alone}
use Rattle.run.proofs.BusLog.{logged_unlent, logged_by}
use Rattle.run.proofs.Stretches.{ahead_unwatched, ahead_full, room_counted}
use Rattle.run.proofs.before_stretch.Goals as goal
use Rattle.run.proofs.before_stretch.Goals.{then-is_lent, else-is_lent}

pub returns-then-is_lent-is_none : goal.returns-then-is_lent-is_none
returns-then-is_lent-is_none c = ahead_unwatched _ _ _ _ _ _ _ c.is_none.ensures c.if-is_lent-is_none.true

pub returns-then-log_full : goal.returns-then-log_full
returns-then-log_full c = ahead_full _ _ _ _ _ _ (sym c.log_full.ensures ∙ c.if-log_full.true)

pub returns-then-stops_before : goal.returns-then-stops_before
returns-then-stops_before c = at_address (sym c.log_full.ensures ∙ c.if-log_full.false) (sym c.stops_before.ensures ∙ c.if-stops_before.true)

pub note_step-requires : goal.note_step-requires
note_step-requires c =
    let counted = room_counted _ c.args.log.now c.if-is_lent.true (sym c.log_full.ensures ∙ c.if-log_full.false) in
    omega (arith, counted)

pub returns : goal.returns
returns c =
    let elsewhere = sym c.stops_before.ensures ∙ c.if-stops_before.false in
    one_step_alone (sym c.log_full.ensures ∙ c.if-log_full.false) elsewhere
    (elim c.if-is_lent.branch [
      | then-is_lent w ↦ rw (w.if-is_lent.true, w.log-is) (logged_by _ (w.note_step.ensures _ elsewhere))
      | else-is_lent w ↦ rw (w.if-is_lent.false, w.log-is) logged_unlent
    ])
