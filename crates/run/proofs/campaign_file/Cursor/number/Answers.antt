use Rattle.std.proofs.Common.{◌<◌, length, arith, rules, drop_of_length-le}
use Rattle.run.specs.CampaignFile.{number_of}
use Rattle.run.proofs.CampaignFile.Groups.{passed_more, passed_fits, weight_fits, number_ends, passed_read, passed_unfit, tenth_unfit}
use Rattle.run.proofs.campaign_file.Cursor.number.Goals as goal

pub returns-in_default : goal.returns-in_default
unfolding number_of
returns-in_default c =
    let past : length c.args.self.now.bytes.now < c.args.self.now.at = search (rules, c.in_default.ensures.lookup) in
    record { field = rw (drop_of_length-le c.args.self.now.bytes.now {i = c.args.self.now.at} (omega arith)); file = search rules; stays = search rules }

pub returns-then-count-group : goal.returns-then-count-group
returns-then-count-group c = tenth_unfit c.loop-count.invariant c.loop-count-test.true c.from-group.ensures _ c.if-count-group.true (omega arith)

pub overflow_mul-value : goal.overflow_mul-value
overflow_mul-value c = omega (arith, passed_fits c.loop-count.invariant c.loop-count-test.true c.from-group.ensures c.if-count-group.false)

pub overflow_add-value : goal.overflow_add-value
overflow_add-value c = omega (arith, passed_fits c.loop-count.invariant c.loop-count-test.true c.from-group.ensures c.if-count-group.false)

pub returns-then-value-greatest : goal.returns-then-value-greatest
returns-then-value-greatest c = passed_read c.loop-count.invariant c.loop-count-test.true c.from-group.ensures _ c.if-group-lt128.true c.if-shortest.true c.if-value-greatest.true

pub returns-then-group-lt128 : goal.returns-then-group-lt128
returns-then-group-lt128 c = passed_unfit c.loop-count.invariant c.loop-count-test.true c.from-group.ensures _ c.if-group-lt128.true c.else-shortest.either

pub overflow_mul-weight : goal.overflow_mul-weight
overflow_mul-weight c = omega (arith, weight_fits c.loop-count.invariant c.loop-count-test.true c.from-group.ensures c.if-count-group.false c.if-group-lt128.false)

pub loop-count-preserved : goal.loop-count-preserved
loop-count-preserved c = passed_more c.loop-count.invariant c.loop-count-test.true c.from-group.ensures c.if-count-group.false c.if-group-lt128.false

pub returns : goal.returns
returns c = number_ends c.loop-count.invariant _ c.loop-count-test.false
