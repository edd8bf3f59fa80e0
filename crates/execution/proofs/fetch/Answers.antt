use Rattle.pages.proofs.Does.{gives_then, gives_done}
use Rattle.std.proofs.Common.{refl, eq-eqb, ne_eqb}
use Rattle.execution.specs.Step.{fetch_of}
use Rattle.execution.proofs.fetch.Goals as goal

pub returns-then-first : goal.returns-then-first
unfolding fetch_of
returns-then-first c = gives_then _ c.cpu_readop-first.ensures (rw (ne_eqb _ 0xFD c.if-first.true) (gives_done refl))

pub returns : goal.returns
unfolding fetch_of
returns c = gives_then _ c.cpu_readop-first.ensures (rw (eq-eqb _ 0xFD c.if-first.false) (gives_then _ c.cpu_readop-second.ensures (gives_done refl)))
