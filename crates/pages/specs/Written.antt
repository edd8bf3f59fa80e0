-- What a list of accesses says of each byte of the pages (document 01, "The runs of demand 3").
use Rattle.std.specs.Prelude.{◌≡◌, ℕ, Bool, false, cond, not, ◌&&◌, ◌||◌, T, List, [], ◌∷◌, ◌==◌}
use Rattle.pages.specs.declared.ReadOnly.{ReadOnly}
use Rattle.pages.specs.Pages.{Pages, at, inside, protected, stored, SameLayout}
use Rattle.pages.specs.Prog.{Access, read_of, write_of}

-- a write of the sequence, a dropped one included: its address and its byte
pub record Write : Type 0 where
  pub address : ℕ
  pub byte : ℕ

-- the writes among the accesses, in order
unfoldable pub writes : List Access → List Write
writes [] = []
writes (read_of a b ∷ l) = writes l
writes (write_of a v ∷ l) = record { address = a; byte = v } ∷ writes l

-- what was last written at a, or d where nothing was
unfoldable pub latest : ℕ → List Write → ℕ → ℕ
latest a [] d = d
latest a (w ∷ ws) d = latest a ws (cond (a == w.address) w.byte d)

-- from the pages m and with the writes ws, the pages e are what they must be: as long, with the same read-only part, and at every address, a byte that
-- stores its writes holds what was last written there, if anything was, and every other byte is its own
pub record Written (m : Pages) (ws : List Write) (e : Pages) : Type 0 where
  pub layout : SameLayout m e
  pub bytes : (a : ℕ) → at e a ≡ cond (stored m a) (latest a ws (at m a)) (at m a)

-- the byte at a is read, and before that no write was stored in it: "a dropped write leaves its byte unwritten"
unfoldable pub read_first : Pages → ℕ → List Access → Bool
read_first m a [] = false
read_first m a (read_of b v ∷ l) = a == b || read_first m a l
read_first m a (write_of b v ∷ l) = not (stored m a && a == b) && read_first m a l

-- the pages n agree with m at each byte of a lent page that the accesses t read before they have written it
unfoldable pub Agree : Pages → Pages → List Access → Type 0
Agree m n t = (a : ℕ) → T (inside m a) → T (read_first m a t) → at n a ≡ at m a

-- the byte at a is read
unfoldable pub is_read : ℕ → List Access → Bool
is_read a [] = false
is_read a (read_of b v ∷ l) = a == b || is_read a l
is_read a (write_of b v ∷ l) = is_read a l

-- no protected byte is read after a write to it
unfoldable pub NotReadBack : ReadOnly → List Access → Type 0
NotReadBack r [] = Unit {0}
NotReadBack r (read_of b v ∷ l) = NotReadBack r l
NotReadBack r (write_of b v ∷ l) = (T (protected r b) → is_read b l ≡ false) × NotReadBack r l
