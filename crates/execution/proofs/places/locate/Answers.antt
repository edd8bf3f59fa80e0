use Rattle.pages.proofs.Does.{gives_then, gives_done}
use Rattle.execution.specs.Places.{locate_of}
use Rattle.execution.proofs.places.locate.Goals as goal

pub returns-in-Fixed : goal.returns-in-Fixed
unfolding locate_of
returns-in-Fixed c = rw c.in-Fixed.is (gives_then _ c.readop_word-w.ensures (gives_done (rw c.paged-in-Fixed.ensures)))
