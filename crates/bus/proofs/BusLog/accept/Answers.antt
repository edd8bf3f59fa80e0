use Rattle.pages.proofs.Does.{read_value}
use Rattle.bus.proofs.Notes.{grows_then}
use Rattle.bus.proofs.BusLog.accept.Goals as goal

pub returns : goal.returns
returns c =
    let vector =
    rw (c.after_write-high.ensures, c.after_write-low.ensures, read_value _ c.read_byte.ensures, read_value _ c.read_byte-2.ensures, c.from-addr.ensures)
    at c.push_and_vector.ensures in
    grows_then (rw c.from.ensures at c.note.ensures) vector
