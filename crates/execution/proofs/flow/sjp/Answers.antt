use Rattle.pages.proofs.Does.{does_then, does_done, does_gives}
use Rattle.execution.specs.Instructions.{sjp_of}
use Rattle.execution.proofs.flow.sjp.Goals as goal

pub returns : goal.returns
unfolding sjp_of
returns c =
    does_then _ (does_gives c.view.ensures c.readop_word-w.ensures)
    (does_then _ c.push_word.ensures (does_done c.with_p.ensures))
