use Rattle.pages.proofs.Does.{does_then, does_done, does_gives}
use Rattle.pages.specs.Stack.{accept_of}
use Rattle.pages.proofs.accept.Goals as goal

pub returns : goal.returns
unfolding accept_of
returns c = does_then _ c.push_state-pushed.ensures (does_then _ (does_gives c.view.ensures c.get_mem16-at.ensures) (does_done (rw (c.with_is_halted.ensures, c.with_p.ensures))))
