use Rattle.std.proofs.Common.{refl, sym, ◌∙◌, rules}
use Rattle.pages.proofs.Does.{does_write0, does_write1, does_dropped}
use Rattle.pages.proofs.Memory.write_byte.Goals as goal

pub returns-then-addr-lt65536 : goal.returns-then-addr-lt65536
returns-then-addr-lt65536 c =
    does_write0 _ _ (record { page0 = cc; page1 = cc }) (rw c.view.ensures at (sym c.stored.ensures ∙ c.if-stored.true)) (search rules)
    (rw c.put_at.ensures refl)

pub returns-else-addr-lt65536 : goal.returns-else-addr-lt65536
returns-else-addr-lt65536 c =
    does_write1 _ _ (record { page0 = cc; page1 = cc }) (rw c.view.ensures at (sym c.stored.ensures ∙ c.if-stored.true)) (search rules)
    (rw c.put_at-else-addr-lt65536.ensures refl)

pub returns-else-stored : goal.returns-else-stored
returns-else-stored c = does_dropped _ _ (rw c.view.ensures at (sym c.stored.ensures ∙ c.if-stored.false))
