-- The order of two reads that no answer shows: BII reads the memory byte before the immediate.
use Rattle.std.proofs.Common.{◌≡◌, [], ◌∷◌, ap, ◌∙◌}
use Rattle.arithmetic.specs.declared.record.Lh5801.{Lh5801}
use Rattle.pages.specs.Pages.{Pages, at}
use Rattle.pages.specs.Prog.{read_of, exec}
use Rattle.pages.proofs.Exec.{done_then, read_then_readop}
use Rattle.execution.specs.declared.places.Register.{Register}
use Rattle.execution.specs.declared.places.Page.{Page}
use Rattle.execution.specs.declared.places.Place.TheVariants.{Pointer}
use Rattle.execution.specs.Places.{word_in, address_of, locate_of}
use Rattle.execution.specs.Instructions.{bii_of}

pub bii_reads : (m : Lh5801) (r : Register) (page : Page) (p : Pages)
    → (exec (bii_of m (Pointer page r)) p).accesses
    ≡ read_of (address_of (word_in m r) page) (at p (address_of (word_in m r) page)) ∷ read_of m.p (at p m.p) ∷ []
unfolding bii_of locate_of
bii_reads m r page p = ap (λ q. (exec q p).accesses) (done_then _ _) ∙ read_then_readop _ m.p _ p
