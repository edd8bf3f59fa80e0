-- An entry of the log read back: its byte, its address and its write mark. What stands above the mark is zero.
use Rattle.std.proofs.Common.{◌≡◌, ℕ, ◌/◌, ◌%◌, ◌<◌, arith}
use Rattle.pages.specs.Prog.{read_of, write_of}
use Rattle.bus.specs.Log.{entry_of}

module _ (a b : ℕ) (address : a < 0x20000) (byte : b < 256) where
  -- bits 7 to 0, bits 24 to 8, and all from bit 25 on
  pub entry_read : (entry_of (read_of a b) % 256 ≡ b) × (entry_of (read_of a b) / 256 % 0x20000 ≡ a) × (entry_of (read_of a b) / 0x2000000 ≡ 0)
  entry_read = (omega (arith, byte), omega (arith, address, byte), omega (arith, address, byte))

  pub entry_write : (entry_of (write_of a b) % 256 ≡ b) × (entry_of (write_of a b) / 256 % 0x20000 ≡ a) × (entry_of (write_of a b) / 0x2000000 ≡ 1)
  entry_write = (omega (arith, byte), omega (arith, address, byte), omega (arith, address, byte))
