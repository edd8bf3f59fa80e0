use Rattle.std.proofs.Common.{◌≡◌, rules, arith}
use Rattle.replay.proofs.Listed.{none_counted, all_counted, item_differs, item_counted, from_bool_small}
use Rattle.replay.proofs.replay.Goals as goal

pub loop-item-init : goal.loop-item-init
loop-item-init c = rw c.into_iter-item-iterator.ensures.into_iter_gives (omega arith, omega arith, none_counted c.args.bytes.now c.default-tally.ensures)

pub loop-item-preserved : goal.loop-item-preserved
loop-item-preserved c =
    let next = item_counted c.loop-item.item-iterator c.in-Some.item c.next.new.self c.loop-item.invariant.2 c.in-Some.ensures.steps in
    let differs : c.is_none_or-differs.result ≡ item_differs c.in-Some.item = grind (arith, c.is_none_or-differs.ensures) in (
      omega (arith, next.0),
      omega (arith, c.from.ensures, from_bool_small c.is_none_or-differs.result),
      rw (c.from.ensures, differs) next.1,
    )

pub returns : goal.returns
returns c = (all_counted c.loop-item.invariant.2 (omega (arith, c.in-None.ensures.steps)), search rules, omega arith)
