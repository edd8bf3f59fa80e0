-- The laws of the two pages as one memory.
use Rattle.std.proofs.Common.{◌≡◌, ℕ, ◌-◌, ◌<◌, ◌≤◌, Bool, true, false, cond, not, ◌&&◌, eqb, ltb, length, get_or, set, sym, refl, ap, ◌∙◌, arith, length-set, get_or-set_other, get_or-set_same, ltb-false, ltb-true, le-ltb, lt-ltb, eqb-true}
use Rattle.std.proofs.lemmas.Bool.{and_parts}
use lib.ListN.{get_or-eq_default}
use borrow.Author.Tests.{eqb-false}
use Rattle.pages.specs.Pages.{Pages, at, inside, protected, stored, set_byte, store, SameLayout}

pub layout_refl : (m : Pages) → SameLayout m m
layout_refl m = record { page0 = refl; page1 = refl; read_only = refl }

pub layout_sym : {m n : Pages} → SameLayout m n → SameLayout n m
layout_sym p = record { page0 = sym p.page0; page1 = sym p.page1; read_only = sym p.read_only }

pub layout_trans : {l m n : Pages} → SameLayout l m → SameLayout m n → SameLayout l n
layout_trans p q = record { page0 = p.page0 ∙ q.page0; page1 = p.page1 ∙ q.page1; read_only = p.read_only ∙ q.read_only }

-- which bytes the pages have, and which store their writes, goes by their layout alone
pub inside_layout : {m n : Pages} → SameLayout m n → (a : ℕ) → inside n a ≡ inside m a
unfolding inside
inside_layout s a = rw (← s.page0, ← s.page1)

pub stored_layout : {m n : Pages} → SameLayout m n → (a : ℕ) → stored n a ≡ stored m a
unfolding stored
stored_layout s a = rw (inside_layout s a, ← s.read_only)

-- what is stored goes into a byte of a lent page
pub stored_inside : (m : Pages) (a : ℕ) → stored m a ≡ true → inside m a ≡ true
unfolding stored
stored_inside m a h = (and_parts (inside m a) (not (protected m.read_only a)) h).0

-- past the end reads FF
pub at_outside : (m : Pages) (a : ℕ) → inside m a ≡ false → at m a ≡ 0xFF
unfolding at inside
at_outside m a = go (ltb a 0x10000)
  where
    go : (t : Bool)
        → cond t (ltb a (length m.page0)) (ltb (a - 0x10000) (length m.page1)) ≡ false
        → cond t (get_or m.page0 a 0xFF) (get_or m.page1 (a - 0x10000) 0xFF) ≡ 0xFF
    go true h = get_or-eq_default m.page0 0xFF (ltb-false a (length m.page0) h)
    go false h = get_or-eq_default m.page1 0xFF (ltb-false (a - 0x10000) (length m.page1) h)

-- a write that is stored sets its byte, and one that is not changes nothing
pub store_kept : (m : Pages) (a v : ℕ) → stored m a ≡ true → store m a v ≡ set_byte m a v
unfolding store
store_kept m a v h = rw h

pub store_dropped : (m : Pages) (a v : ℕ) → stored m a ≡ false → store m a v ≡ m
unfolding store
store_dropped m a v h = rw h

-- a write keeps the layout
set_layout : (m : Pages) (a v : ℕ) → SameLayout m (set_byte m a v)
unfolding set_byte
set_layout m a v = go (ltb a 0x10000)
  where
    go : (t : Bool) → SameLayout m (cond t (record m { page0 = set m.page0 a v }) (record m { page1 = set m.page1 (a - 0x10000) v }))
    go true = record { page0 = simp length-set; page1 = refl; read_only = refl }
    go false = record { page0 = refl; page1 = simp length-set; read_only = refl }

pub store_layout : (m : Pages) (a v : ℕ) → SameLayout m (store m a v)
unfolding store
store_layout m a v = go (stored m a)
  where
    go : (t : Bool) → SameLayout m (cond t (set_byte m a v) m)
    go true = set_layout m a v
    go false = layout_refl m

set_same : (m : Pages) (a v : ℕ) → inside m a ≡ true → at (set_byte m a v) a ≡ v
unfolding at set_byte inside
set_same m a v = go (ltb a 0x10000) refl
  where
    go : (t : Bool)
        → ltb a 0x10000 ≡ t
        → cond t (ltb a (length m.page0)) (ltb (a - 0x10000) (length m.page1)) ≡ true
        → at (set_byte m a v) a ≡ v
    go true p h = rw p (get_or-set_same m.page0 a v 0xFF (ltb-true a (length m.page0) h))
    go false p h = rw p (get_or-set_same m.page1 (a - 0x10000) v 0xFF (ltb-true (a - 0x10000) (length m.page1) h))

set_other : (m : Pages) (b v a : ℕ) → (a ≡ b → ⊥) → at (set_byte m b v) a ≡ at m a
unfolding at set_byte
set_other m b v a h = go (ltb a 0x10000) refl (ltb b 0x10000) refl
  where
    go : (t : Bool) → ltb a 0x10000 ≡ t → (u : Bool) → ltb b 0x10000 ≡ u → at (set_byte m b v) a ≡ at m a
    go true p true q = rw (p, q) (get_or-set_other m.page0 b a v 0xFF h)
    go true p false q = rw (p, q)
    go false p true q = rw (p, q)
    go false p false q =
        rw (p, q)
        (get_or-set_other m.page1 (b - 0x10000) (a - 0x10000) v 0xFF
        (λ e. h (omega (arith, ltb-false a 0x10000 p, ltb-false b 0x10000 q))))

-- read after a write: at its address where it is stored, and at any other address
pub at_store_same : (m : Pages) (a v : ℕ) → stored m a ≡ true → at (store m a v) a ≡ v
at_store_same m a v h = rw (store_kept m a v h) (set_same m a v (stored_inside m a h))

pub at_store_other : (m : Pages) (b v a : ℕ) → (a ≡ b → ⊥) → at (store m b v) a ≡ at m a
at_store_other m b v a h = go (stored m b) refl
  where
    go : (t : Bool) → stored m b ≡ t → at (store m b v) a ≡ at m a
    go true p = rw (store_kept m b v p) (set_other m b v a h)
    go false p = rw (store_dropped m b v p)

-- and at every address
pub at_store : (m : Pages) (b v a : ℕ) → at (store m b v) a ≡ cond (stored m a && eqb a b) v (at m a)
at_store m b v a = go (eqb a b) refl (stored m a) refl
  where
    go : (e : Bool) → eqb a b ≡ e → (s : Bool) → stored m a ≡ s → at (store m b v) a ≡ cond (s && e) v (at m a)
    go true p true q = rw (← eqb-true a b p) (at_store_same m a v q)
    go true p false q = rw (← eqb-true a b p) (ap (λ (n : Pages). at n a) (store_dropped m a v q))
    go false p true q = at_store_other m b v a (eqb-false a b p)
    go false p false q = at_store_other m b v a (eqb-false a b p)

-- by the page that an address goes to: what the functions of the source that reach into a page do
pub at_page0 : (m : Pages) (a : ℕ) → a < 0x10000 → at m a ≡ get_or m.page0 a 0xFF
unfolding at
at_page0 m a h = rw (lt-ltb a 0x10000 h)

pub at_page1 : (m : Pages) (a : ℕ) → 0x10000 ≤ a → at m a ≡ get_or m.page1 (a - 0x10000) 0xFF
unfolding at
at_page1 m a h = rw (le-ltb a 0x10000 h)

pub inside_page0 : (m : Pages) (a : ℕ) → a < 0x10000 → inside m a ≡ ltb a (length m.page0)
unfolding inside
inside_page0 m a h = rw (lt-ltb a 0x10000 h)

pub inside_page1 : (m : Pages) (a : ℕ) → 0x10000 ≤ a → inside m a ≡ ltb (a - 0x10000) (length m.page1)
unfolding inside
inside_page1 m a h = rw (le-ltb a 0x10000 h)

pub set_page0 : (m : Pages) (a v : ℕ) → a < 0x10000 → set_byte m a v ≡ record m { page0 = set m.page0 a v }
unfolding set_byte
set_page0 m a v h = rw (lt-ltb a 0x10000 h)

pub set_page1 : (m : Pages) (a v : ℕ) → 0x10000 ≤ a → set_byte m a v ≡ record m { page1 = set m.page1 (a - 0x10000) v }
unfolding set_byte
set_page1 m a v h = rw (le-ltb a 0x10000 h)
