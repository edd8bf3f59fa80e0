-- The widths of the registers (document 01, "Record and pages"); the other definitions are over numbers of any size.
use Rattle.std.specs.Prelude.{◌<◌}
use Rattle.arithmetic.specs.declared.record.Lh5801.{Lh5801}

-- A and T have 8 bits, the register pairs, S and P have 16. No address and no byte of an access comes from another field
pub record Widths (m : Lh5801) : Type 0 where
  pub a : m.a < 0x100
  pub t : m.t < 0x100
  pub x : m.x < 0x10000
  pub y : m.y < 0x10000
  pub u : m.u < 0x10000
  pub s : m.s < 0x10000
  pub p : m.p < 0x10000
