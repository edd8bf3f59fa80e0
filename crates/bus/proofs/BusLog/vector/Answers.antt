use Rattle.pages.proofs.Does.{read_value}
use Rattle.bus.proofs.BusLog.vector.Goals as goal

pub returns : goal.returns
returns c =
    rw (read_value _ c.read_byte-high.ensures, read_value _ c.read_byte-low.ensures, c.from.ensures, c.from-2.ensures, c.from-vector.ensures) at c.push_and_vector.ensures
