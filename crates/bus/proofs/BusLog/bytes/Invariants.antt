use Rattle.std.proofs.Common.{◌≡◌, ◌+◌, ◌-◌, ◌%◌, List, ◌++◌}
use Rattle.pages.specs.Prog.{Access}
use Rattle.pages.specs.Contract.{seen}
use Rattle.execution.specs.Code.Shapes.{bytes_from}
use Rattle.bus.specs.Code.Notes.{Grows}
use Rattle.bus.proofs.BusLog.bytes.Given as goal

-- the bytes so far are noted, and before those that are left they make all
abbrev pub invariant-loop-i : goal.invariant-loop-i
invariant-loop-i l =
    (done : List Access) × Grows done l.initial.self l.self
    × (done ++ bytes_from (seen l.view) ((l.from + l.i) % 65536) (l.k - l.i) ≡ bytes_from (seen l.view) l.from l.k)
