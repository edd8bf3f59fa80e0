use Rattle.std.proofs.Common.{refl}
use Rattle.pages.proofs.Does.{does_then, does_done}
use Rattle.execution.specs.Instructions.{sin_of, sde_of, store_at_of}
use Rattle.execution.proofs.Choices.{either_end}
use Rattle.execution.proofs.transfers.store_and_count.Goals as goal

pub returns : goal.returns
unfolding sin_of sde_of store_at_of
returns g c =
    either_end _ _ _ _
    (does_then _ (does_then _ (rw (c.from.ensures, c.get_word-w.ensures) at c.write_byte.ensures) (does_done refl))
    (does_done c.count_word.ensures))
