use Rattle.std.proofs.Common.{◌∷◌, ◌++◌, [], refl, add-one, take-suc}
use Rattle.replay.specs.Numbers.{sums_of}
use Rattle.replay.proofs.Summed.{last_number, zip_more}
use Rattle.replay.proofs.Sums.over.Goals as goal

pub loop-number-init : goal.loop-number-init
unfolding sums_of
loop-number-init g c = ([], tt, refl)

pub loop-number-preserved : goal.loop-number-preserved
loop-number-preserved g c =
    let before = c.loop-number.invariant in (
      before.0 ++ (c.into.result ∷ []),
      rw (add-one, take-suc c.args.numbers.now c.loop-number.number-index c.number-item.result c.loop-number-test.true, ← c.number-item.is)
          (zip_more g.T.Into.converts _ before.0 before.1 c.into.ensures),
      rw (c.with_number-sums.ensures, last_number, ← before.2),
    )
