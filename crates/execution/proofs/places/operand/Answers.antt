use Rattle.std.proofs.Common.{refl}
use Rattle.pages.proofs.Does.{gives_then, gives_done}
use Rattle.execution.specs.Places.{operand_of}
use Rattle.execution.proofs.places.operand.Goals as goal

pub returns-in-Pointer : goal.returns-in-Pointer
unfolding operand_of
returns-in-Pointer c = rw c.in-Pointer.is (gives_then _ (rw (c.paged.ensures, c.get_word.ensures) at c.read_byte.ensures) (gives_done refl))

pub returns-in-Fixed : goal.returns-in-Fixed
unfolding operand_of
returns-in-Fixed c = rw c.in-Fixed.is (gives_then _ c.readop_word-w.ensures (gives_then _ (rw c.paged-in-Fixed.ensures at c.read_byte-in-Fixed.ensures) (gives_done refl)))
