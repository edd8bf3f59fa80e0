use Rattle.std.proofs.Common.{sym, ap, ◌∙◌}
use Rattle.execution.specs.Code.Shapes.{accept_accesses}
use Rattle.bus.proofs.Notes.{by_interrupt, step_appends, grows_none}
use Rattle.bus.proofs.note_step.Goals as goal

pub returns-in-Some : goal.returns-in-Some
returns-in-Some c inputs s =
    let way = by_interrupt c.args.cpu _ c.if-cpu.true (sym c.accepted.ensures ∙ c.in-Some.is) in
    step_appends _ inputs _ s c.requires (way ∙ ap (accept_accesses c.args.cpu _) (sym c.vector.ensures)) c.accept.ensures

pub returns-in-None : goal.returns-in-None
returns-in-None c inputs s =
    let way = by_interrupt c.args.cpu _ c.if-cpu.true (sym c.accepted.ensures ∙ c.in-None.is) in
    step_appends _ inputs _ s c.requires (way ∙ rw c.if-cpu-2.true) grows_none

pub returns-in-None-2 : goal.returns-in-None-2
returns-in-None-2 c inputs s =
    let way = by_interrupt c.args.cpu _ c.if-cpu.true (sym c.accepted.ensures ∙ c.in-None.is) in
    step_appends _ inputs _ s c.requires (way ∙ rw c.if-cpu-2.false) c.instruction.ensures

pub returns-else-cpu : goal.returns-else-cpu
returns-else-cpu c inputs s = step_appends _ inputs _ s c.requires (rw c.if-cpu.false) grows_none
