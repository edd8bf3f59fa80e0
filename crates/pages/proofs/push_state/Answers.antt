use Rattle.pages.proofs.Does.{does_then}
use Rattle.pages.specs.Stack.{push_state_of}
use Rattle.pages.proofs.push_state.Goals as goal

pub returns : goal.returns
unfolding push_state_of
returns c =
    does_then _ c.push-first.ensures
    (rw (c.with_t.ensures, c.set_flag-t.ensures) at c.push_word.ensures)
