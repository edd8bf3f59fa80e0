use Rattle.std.proofs.Common.{sym, refl, ◌∙◌}
use Rattle.pages.proofs.Does.{does_gives}
use Rattle.execution.proofs.Order.{instruction_listed, instruction_unlisted}
use Rattle.execution.proofs.DueAgain.{again}
use Rattle.execution.proofs.instruction.Goals as goal

pub returns-then-k : goal.returns-then-k
returns-then-k c =
    let listed = sym c.decode.ensures ∙ c.in-Some.is in
    let executed = rw c.with_p.ensures at c.execute-next.ensures in
    let settled = sym c.settled.ensures ∙ c.if-settled.true in
    (instruction_listed _ _ c.requires.0 c.requires.1 (does_gives c.view.ensures c.fetch-opcode.ensures) listed executed c.add_state.ensures c.timer_part-k.ensures settled c.if-k.true, tt)

pub returns-else-k : goal.returns-else-k
returns-else-k c =
    let listed = sym c.decode.ensures ∙ c.in-Some.is in
    let executed = rw c.with_p.ensures at c.execute-next.ensures in
    let settled = sym c.settled.ensures ∙ c.if-settled.true in
    let states = c.add_state.ensures in
    let timed = c.timer_part-k.ensures in (
      instruction_listed _ _ c.requires.0 c.requires.1 (does_gives c.view.ensures c.fetch-opcode.ensures) listed executed states timed settled c.if-k.false,
      again _ _ _ _ _ _ settled c.requires.0 executed.value states timed c.if-k.false,
    )

pub returns-else-settled : goal.returns-else-settled
returns-else-settled c =
    let listed = sym c.decode.ensures ∙ c.in-Some.is in
    let executed = rw c.with_p.ensures at c.execute-next.ensures in
    let settled = sym c.settled.ensures ∙ c.if-settled.false in
    (instruction_listed _ _ c.requires.0 c.requires.1 (does_gives c.view.ensures c.fetch-opcode.ensures) listed executed c.add_state-else-settled.ensures c.timer_part.ensures settled refl, tt)

pub returns-in_default : goal.returns-in_default
returns-in_default c = (instruction_unlisted _ _ c.requires.0 c.requires.1 (does_gives c.view.ensures c.fetch-opcode.ensures) (sym c.decode.ensures ∙ c.in_default.is) refl, tt)
