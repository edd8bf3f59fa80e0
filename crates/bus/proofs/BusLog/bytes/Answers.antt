use Rattle.std.proofs.Common.{[], ◌∷◌, ◌++◌, ◌+◌, ◌%◌, ◌∙◌, ap, append_assoc}
use Rattle.pages.specs.Pages.{at}
use Rattle.pages.specs.Prog.{read_of}
use Rattle.pages.specs.Contract.{seen}
use Rattle.bus.proofs.Notes.{grows_then, bytes_next}
use Rattle.bus.proofs.BusLog.bytes.Goals as goal

pub loop-i-preserved : goal.loop-i-preserved
loop-i-preserved c =
    let done = c.loop-i.invariant.0 in
    let place = (c.args.from + c.loop-i.i) % 65536 in
    let next = read_of place (at (seen c.args.view) place) in (
      done ++ (next ∷ []),
      grows_then c.loop-i.invariant.1 (rw (c.from-in-loop-i.ensures, c.from.ensures) at c.read.ensures.0),
      append_assoc done (next ∷ []) _ ∙ ap (λ l. done ++ l) (bytes_next (seen c.args.view) c.args.from c.args.k c.loop-i.i c.loop-i-test.true) ∙ c.loop-i.invariant.2,
    )
