-- A program is a function of the bytes that it reads: on two memories that give each of its reads the same byte it does the same. So it is where they agree
-- at each byte that is read before it is written.
use Rattle.std.proofs.Common.{◌≡◌, ℕ, Bool, true, false, cond, not, ◌&&◌, ◌||◌, T, eqb, List, [], ◌∷◌, ◌++◌, sym, refl, ap, ◌∙◌}
use lib.Dec.{eqb_refl}
use Rattle.pages.specs.Pages.{Pages, at, inside, stored, store, SameLayout}
use Rattle.pages.specs.Prog.{Prog, done, get, put, Access, read_of, write_of, Ran, after, exec}
use Rattle.pages.specs.Written.{read_first, Agree}
use Rattle.pages.proofs.Pages.{layout_sym, layout_trans, store_layout, inside_layout, stored_layout, at_store, at_outside}

pub or_left : (a b : Bool) → T a → T (a || b)
or_left true b t = tt
or_left false b t = absurd t

pub or_right : (a b : Bool) → T b → T (a || b)
or_right true b t = tt
or_right false b t = t

-- what is read first goes by the layout of the pages alone
pub read_first_layout : {m n : Pages} → SameLayout m n → (a : ℕ) (t : List Access) → read_first n a t ≡ read_first m a t
unfolding read_first
read_first_layout s a [] = refl
read_first_layout s a (read_of b v ∷ t) = cc (read_first_layout s a t)
read_first_layout s a (write_of b v ∷ t) = cc (stored_layout s a, read_first_layout s a t)

-- a relation of two memories, by the accesses to come: the next read gives the same byte on both, and the relation goes on after a read and after a write
pub record Carried (R : List Access → Pages → Pages → Type 0) : Type 0 where
  pub same_read : (m n : Pages) (b v : ℕ) (t : List Access) → R (read_of b v ∷ t) m n → at n b ≡ at m b
  pub then_read : (m n : Pages) (b v : ℕ) (t : List Access) → R (read_of b v ∷ t) m n → R t m n
  pub then_write : (m n : Pages) (b v : ℕ) (t : List Access) → R (write_of b v ∷ t) m n → R t (store m b v) (store n b v)

-- two runs of a program that come to the same answer by the same accesses, with memories so related for the accesses t after them
pub record Alike {A : Type 0} (R : List Access → Pages → Pages → Type 0) (x y : Ran A) (t : List Access) : Type 0 where
  pub answer : y.answer ≡ x.answer
  pub accesses : y.accesses ≡ x.accesses
  pub related : R t x.pages y.pages

after_alike : {A : Type 0} {R : List Access → Pages → Pages → Type 0} (a : Access) (x y : Ran A) (t : List Access) → Alike R x y t → Alike R (after a x) (after a y) t
unfolding after
after_alike a x y t h = record { answer = h.answer; accesses = ap (λ l. a ∷ l) h.accesses; related = h.related }

-- so a program does the same on both
pub exec_alike : {A : Type 0} {R : List Access → Pages → Pages → Type 0} → Carried R → (p : Prog A) (m n : Pages) (t : List Access)
    → R ((exec p m).accesses ++ t) m n
    → Alike R (exec p m) (exec p n) t
unfolding exec after
exec_alike c (done a) m n t h = record { answer = refl; accesses = refl; related = h }
exec_alike c (get b k) m n t h =
    rw (c.same_read m n b (at m b) _ h)
    (after_alike (read_of b (at m b)) _ _ t (exec_alike c (k (at m b)) m n t (c.then_read m n b (at m b) _ h)))
exec_alike c (put b v p) m n t h = after_alike (write_of b v) _ _ t (exec_alike c p (store m b v) (store n b v) t (c.then_write m n b v _ h))

-- ---- pages of one layout that agree where they are read first

abbrev pub Agreeing : List Access → Pages → Pages → Type 0
Agreeing t m n = SameLayout m n × Agree m n t

-- what comes after a read
agree_read : (m n : Pages) (b v : ℕ) (t : List Access) → Agreeing (read_of b v ∷ t) m n → Agreeing t m n
unfolding Agree read_first
agree_read m n b v t h = (h.0, λ a i f. h.1 a i (or_right (eqb a b) (read_first m a t) f))

-- where the next access reads, they read the same: past the end both read FF
agree_here : (m n : Pages) (b v : ℕ) (t : List Access) → Agreeing (read_of b v ∷ t) m n → at n b ≡ at m b
unfolding Agree read_first
agree_here m n b v t h = go (inside m b) refl (h.1 b)
  where
    go : (i : Bool) → inside m b ≡ i → (T i → T (eqb b b || read_first m b t) → at n b ≡ at m b) → at n b ≡ at m b
    go true p g = g tt (or_left (eqb b b) (read_first m b t) (eqb_refl b))
    go false p g = at_outside n b (inside_layout h.0 b ∙ p) ∙ sym (at_outside m b p)

-- and after a write, on both sides
agree_write : (m n : Pages) (b v : ℕ) (t : List Access) → Agreeing (write_of b v ∷ t) m n → Agreeing t (store m b v) (store n b v)
unfolding Agree read_first
agree_write m n b v t h = (
  layout_trans (layout_sym (store_layout m b v)) (layout_trans h.0 (store_layout n b v)),
  λ a i f. same a (rw (inside_layout (store_layout m b v) a) at i)
      (rw (read_first_layout (store_layout m b v) a t) at f),
)
  where
    go : (a : ℕ) (x : Bool) → T (read_first m a t) → (T (not x && read_first m a t) → at n a ≡ at m a) → cond x v (at n a) ≡ cond x v (at m a)
    go a true f g = refl
    go a false f g = g f

    same : (a : ℕ) → T (inside m a) → T (read_first m a t) → at (store n b v) a ≡ at (store m b v) a
    same a i f = at_store n b v a ∙ rw (stored_layout h.0 a) (go a (stored m a && eqb a b) f (h.1 a i)) ∙ sym (at_store m b v a)

pub agreeing : Carried Agreeing
agreeing = record { same_read = agree_here; then_read = agree_read; then_write = agree_write }
