-- Access programs: what is read and written, one access after another, and what comes of it.
use Rattle.std.specs.Prelude.{ℕ, List, [], ◌∷◌}
use Rattle.pages.specs.Pages.{Pages, at, store}

-- `done a`: the answer is a. `get a k`: the byte at a is read, and k goes on with it. `put a v p`: v is written at a, and p goes on
pub data Prog (A : Type 0) : Type 0 where
  done : A → Prog A
  get : ℕ → (ℕ → Prog A) → Prog A
  put : ℕ → ℕ → Prog A → Prog A

infixl 20 ◌>>=◌
-- one program, and then the next with its answer: what `x ← p` of a `do` block means
unfoldable pub ◌>>=◌ : {A B : Type 0} → Prog A → (A → Prog B) → Prog B
done a >>= f = f a
get a k >>= f = get a (λ b. k b >>= f)
put a v p >>= f = put a v (p >>= f)

-- the same accesses, and another answer
unfoldable pub mapped : {A B : Type 0} → (A → B) → Prog A → Prog B
mapped f p = p >>= (λ a. done (f a))

unfoldable pub read : ℕ → Prog ℕ
read a = get a (λ b. done b)

unfoldable pub write : ℕ → ℕ → Prog Unit
write a v = put a v (done tt)

-- document 01's "access": a read or a write, with its address and its byte. A dropped write is one too
pub data Access : Type 0 where
  read_of : ℕ → ℕ → Access
  write_of : ℕ → ℕ → Access

-- what a program comes to: its answer, the pages after it, and its accesses in order
pub record Ran (A : Type 0) : Type 0 where
  pub answer : A
  pub pages : Pages
  pub accesses : List Access

unfoldable pub after : {A : Type 0} → Access → Ran A → Ran A
after x r = record r { accesses = x ∷ r.accesses }

unfoldable pub exec : {A : Type 0} → Prog A → Pages → Ran A
exec (done a) m = record { answer = a; pages = m; accesses = [] }
exec (get a k) m = after (read_of a (at m a)) (exec (k (at m a)) m)
exec (put a v p) m = after (write_of a v) (exec p (store m a v))
