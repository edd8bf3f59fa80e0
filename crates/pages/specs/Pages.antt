-- The two lent pages as one memory (document 01, "Record and pages"), and the read-only part of page 0 (document 02, F-4).
use Rattle.std.specs.Prelude.{◌≡◌, ℕ, ◌-◌, Bool, cond, not, ◌&&◌, List, length, nat_lt, nat_le, slice_index_or, slice_set}
use Rattle.pages.specs.declared.ReadOnly.{ReadOnly}

-- page 0 is addressed 0 to FFFF, page 1 is 10000 to 1FFFF; each may be shorter, or empty
pub record Pages : Type 0 where
  pub page0 : List ℕ
  pub page1 : List ℕ
  pub read_only : ReadOnly

abbrev pub pages : List ℕ → List ℕ → ReadOnly → Pages
pages l0 l1 r = record { page0 = l0; page1 = l1; read_only = r }

-- the read-only part "from the first up to, not including, the end"
abbrev pub read_only_of : ℕ → ℕ → ReadOnly
read_only_of first end = record { first = first; end = end }

-- nothing is read-only
abbrev pub no_read_only : ReadOnly
no_read_only = read_only_of 0 0

-- pages of which nothing is
abbrev pub writable : List ℕ → List ℕ → Pages
writable l0 l1 = pages l0 l1 no_read_only

-- the same pages with this part read-only
abbrev pub with_read_only : ReadOnly → Pages → Pages
with_read_only r m = record m { read_only = r }

-- the byte that an address reads: "an address past the end reads FF"
unfoldable pub at : Pages → ℕ → ℕ
at m a = cond (nat_lt a 0x10000) (slice_index_or m.page0 a 0xFF) (slice_index_or m.page1 (a - 0x10000) 0xFF)

-- a lent page has a byte at this address
unfoldable pub inside : Pages → ℕ → Bool
inside m a = cond (nat_lt a 0x10000) (nat_lt a (length m.page0)) (nat_lt (a - 0x10000) (length m.page1))

-- this address is one of page 0, and in the read-only part: none "with the end at or below the first", and none of page 1, whatever the end is
unfoldable pub protected : ReadOnly → ℕ → Bool
protected r a = nat_lt a 0x10000 && (nat_le r.first a && nat_lt a r.end)

-- a write at this address is kept, document 01's "a write is stored". This is the one place that says so
unfoldable pub stored : Pages → ℕ → Bool
stored m a = inside m a && not (protected m.read_only a)

-- the pages with one byte set
unfoldable pub set_byte : Pages → ℕ → ℕ → Pages
set_byte m a v =
    cond (nat_lt a 0x10000) (record m { page0 = slice_set m.page0 a v }) (record m { page1 = slice_set m.page1 (a - 0x10000) v })

-- the pages after a write. One that is not stored is document 01's "dropped" write, and changes nothing
unfoldable pub store : Pages → ℕ → ℕ → Pages
store m a v = cond (stored m a) (set_byte m a v) m

-- equally long pages, and the same part of page 0 read-only
pub record SameLayout (m n : Pages) : Type 0 where
  pub page0 : length m.page0 ≡ length n.page0
  pub page1 : length m.page1 ≡ length n.page1
  pub read_only : m.read_only ≡ n.read_only
