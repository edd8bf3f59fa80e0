use Rattle.pages.proofs.Does.{gives_then, gives_done}
use Rattle.execution.specs.Instructions.{lin_of, lde_of, load_at_of}
use Rattle.execution.proofs.Choices.{either_given}
use Rattle.execution.proofs.transfers.load_and_count.Goals as goal

pub returns : goal.returns
unfolding lin_of lde_of load_at_of
returns g c =
    either_given _ _ _ _
    (gives_then _ (gives_then _ (rw (c.from.ensures, c.get_word-w.ensures) at c.read_byte-b.ensures) (gives_done c.lda.ensures))
    (gives_done c.count_word.ensures))
