use Rattle.std.proofs.Common.{◌≡◌, ◌/◌, ◌%◌, arith}
use Rattle.pages.specs.Stack.{push_word_of}
use Rattle.pages.proofs.Does.{does_then}
use Rattle.pages.proofs.push_word.Goals as goal

pub returns : goal.returns
unfolding push_word_of
returns c =
    let high : c.args.w / 256 % 256 ≡ c.args.w / 256 = omega (arith, c.ranges.w.fits) in
    does_then _ (rw c.to_be_bytes.ensures at c.push-once.ensures) (rw (c.to_be_bytes.ensures, high) at c.push.ensures)
