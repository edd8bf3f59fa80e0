use Rattle.pages.specs.Contract.{seen}
use Rattle.execution.proofs.AccessesAhead.{fixed_bytes, other_bytes}
use Rattle.bus.proofs.Notes.{grows_then}
use Rattle.bus.proofs.BusLog.place.Goals.{in-Fixed, in_default}
use Rattle.bus.proofs.BusLog.place.Goals as goal

pub returns : goal.returns
returns c =
    let there = rw c.locate-l.ensures.value at c.at.ensures in
    elim c.match-place.branch [
      | in-Fixed w ↦
          rw (w.in-Fixed.is, fixed_bytes c.args.cpu w.in-Fixed.field-0 (seen c.args.view))
          (grows_then w.bytes.ensures (rw (w.in-Fixed.is, w.self-is) at there))
      | in_default w ↦
          rw (other_bytes c.args.cpu c.args.place (seen c.args.view) w.in_default.not-Fixed) (rw w.self-is at there)
    ]
