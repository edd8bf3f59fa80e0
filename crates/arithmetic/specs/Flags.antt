-- T, the flags (document 01, "Record and pages"): bit 0 is C, 1 is IE, 2 is Z, 3 is V and 4 is H. The upper three bits mean nothing and
-- are kept by all that goes through this file.
use Rattle.std.specs.Prelude.{◌≡◌, ℕ, ◌+◌, ◌-◌, ◌*◌, ◌/◌, ◌%◌, Bool, true, false, cond, not, ◌==◌, bit_and, bit_or}

-- the weights of the flags in T
abbrev pub CF : ℕ
CF = 1

abbrev pub IE : ℕ
IE = 2

abbrev pub ZF : ℕ
ZF = 4

abbrev pub VF : ℕ
VF = 8

abbrev pub HF : ℕ
HF = 16

-- a flag as a number, 1 where it is set
abbrev pub bit_of : Bool → ℕ
bit_of true = 1
bit_of false = 0

-- is one of the mask's bits set in the byte?
abbrev pub has_flag : ℕ → ℕ → Bool
has_flag t mask = not (bit_and t mask == 0)

-- T with the mask's bits set or cleared, and all others kept
abbrev pub set_flag : ℕ → ℕ → Bool → ℕ
set_flag t mask v = cond v (bit_or t mask) (bit_and t (255 - mask))

-- T with Z from a value, and all else kept: `check_z`
abbrev pub check_z : ℕ → ℕ → ℕ
check_z t value = set_flag t ZF (value == 0)

-- T with C, Z, V and H as given; its upper three bits and IE are kept
unfoldable pub with_flags : ℕ → Bool → Bool → Bool → Bool → ℕ
with_flags t c z v h = t / 32 * 32 + bit_of h * HF + bit_of v * VF + bit_of z * ZF + t / 2 % 2 * IE + bit_of c * CF

-- what a new T tells beside the old one: C, Z, V and H are as given, IE and the upper three bits are the old ones
pub record FlagsAre (old : ℕ) (c z v h : Bool) (new : ℕ) : Type 0 where
  pub carry : has_flag new CF ≡ c
  pub zero : has_flag new ZF ≡ z
  pub overflow : has_flag new VF ≡ v
  pub half : has_flag new HF ≡ h
  pub enable : has_flag new IE ≡ has_flag old IE
  pub upper : new / 32 ≡ old / 32

-- what T tells where one flag was set or cleared: that flag is as given, all other bits are the old ones
pub record OnlyFlag (old mask : ℕ) (v : Bool) (new : ℕ) : Type 0 where
  pub given : has_flag new mask ≡ v
  pub others : bit_and new (255 - mask) ≡ bit_and old (255 - mask)
