use Rattle.std.proofs.Common.{rules}
use Rattle.pages.proofs.Does.{does_gives}
use Rattle.execution.proofs.Choices.{either_rotated}
use Rattle.execution.proofs.operations.rotate.Goals as goal

pub returns : goal.returns
returns g c =
    rw c.with_a.ensures
    (either_rotated _ _ _ (does_gives c.view.ensures (rw c.paged-at.ensures at c.read_byte-b.ensures)) (search rules) (rw c.paged-at.ensures at c.write_byte.ensures))
