use Rattle.pages.specs.Stack.{readop_word_of}
use Rattle.pages.proofs.Does.{gives_then, gives_done}
use Rattle.pages.proofs.View.readop_word.Goals as goal

pub returns : goal.returns
unfolding readop_word_of
returns c = gives_then _ c.cpu_readop-hi.ensures (gives_then _ c.cpu_readop-lo.ensures (gives_done (rw c.word-value.ensures)))
