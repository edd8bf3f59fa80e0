-- Access programs one after the other, and what one leaves of the pages.
use Rattle.std.proofs.Common.{◌≡◌, ℕ, Bool, true, false, cond, ◌&&◌, eqb, List, [], ◌∷◌, ◌++◌, sym, refl, ap, ◌∙◌}
use Rattle.pages.specs.Pages.{Pages, at, stored, store, SameLayout}
use Rattle.pages.specs.declared.Code.{Code}
use Rattle.pages.specs.Prog.{Access, Prog, done, get, put, ◌>>=◌, read, read_of, write_of, after, exec}
use Rattle.pages.specs.Stack.{readop_of}
use Rattle.pages.specs.Written.{Write, writes, latest, Written}
use Rattle.pages.proofs.Pages.{layout_refl, layout_trans, store_layout, stored_layout, at_store}

-- a program after another: the second goes on from the first's answer and pages, and its accesses come after
pub exec_bind : {A B : Type 0} (p : Prog A) (f : A → Prog B) (m : Pages)
    → exec (p >>= f) m
    ≡ (let r = exec (f (exec p m).answer) (exec p m).pages in record r { accesses = (exec p m).accesses ++ r.accesses })
unfolding ◌>>=◌ exec after
exec_bind (done a) f m = refl
exec_bind (get a k) f m = ap (after (read_of a (at m a))) (exec_bind (k (at m a)) f m)
exec_bind (put a v p) f m = ap (after (write_of a v)) (exec_bind p f (store m a v))

pub done_answer : {A : Type 0} (a : A) (m : Pages) → (exec (done a) m).answer ≡ a
unfolding exec
done_answer a m = refl

-- without an access the pages are as they were
pub done_none : {A : Type 0} (a : A) (m : Pages) → ((exec (done a) m).pages ≡ m) × ((exec (done a) m).accesses ≡ [])
unfolding exec
done_none a m = (refl, refl)

-- an answer, and then the next
pub done_then : {A B : Type 0} (a : A) (f : A → Prog B) → done a >>= f ≡ f a
unfolding ◌>>=◌
done_then a f = refl

-- a byte, and then a byte of the code: two reads, in this order
pub read_then_readop : {A : Type 0} (a p : ℕ) (f : ℕ → Code ℕ → A) (m : Pages)
    → (exec (read a >>= (λ b. readop_of p >>= (λ c. done (f b c)))) m).accesses ≡ read_of a (at m a) ∷ read_of p (at m p) ∷ []
unfolding exec after read readop_of ◌>>=◌
read_then_readop a p f m = refl

-- a program whose answer is only changed, and then the next
pub bind_done : {A B C : Type 0} (p : Prog A) (g : A → B) (f : B → Prog C) → (p >>= (λ a. done (g a))) >>= f ≡ p >>= (λ a. f (g a))
unfolding ◌>>=◌
bind_done (done a) g f = refl
bind_done (get a k) g f = λ i. get a (λ b. bind_done (k b) g f i)
bind_done (put a v p) g f = ap (put a v) (bind_done p g f)

pub bind_answer : {A B : Type 0} (p : Prog A) (f : A → Prog B) (m : Pages)
    → (exec (p >>= f) m).answer ≡ (exec (f (exec p m).answer) (exec p m).pages).answer
bind_answer p f m = ap (λ x. x.answer) (exec_bind p f m)

pub bind_pages : {A B : Type 0} (p : Prog A) (f : A → Prog B) (m : Pages)
    → (exec (p >>= f) m).pages ≡ (exec (f (exec p m).answer) (exec p m).pages).pages
bind_pages p f m = ap (λ x. x.pages) (exec_bind p f m)

pub bind_accesses : {A B : Type 0} (p : Prog A) (f : A → Prog B) (m : Pages)
    → (exec (p >>= f) m).accesses ≡ (exec p m).accesses ++ (exec (f (exec p m).answer) (exec p m).pages).accesses
bind_accesses p f m = ap (λ x. x.accesses) (exec_bind p f m)

-- a program keeps the layout
pub exec_layout : {A : Type 0} (p : Prog A) (m : Pages) → SameLayout m (exec p m).pages
unfolding exec after
exec_layout (done a) m = layout_refl m
exec_layout (get a k) m = exec_layout (k (at m a)) m
exec_layout (put a v p) m = layout_trans (store_layout m a v) (exec_layout p (store m a v))

cond_same : (t : Bool) (x : ℕ) → x ≡ cond t x x
cond_same true x = refl
cond_same false x = refl

exec_bytes : {A : Type 0} (p : Prog A) (m : Pages) (a : ℕ)
    → at (exec p m).pages a ≡ cond (stored m a) (latest a (writes (exec p m).accesses) (at m a)) (at m a)
unfolding exec after writes latest
exec_bytes (done x) m a = cond_same (stored m a) (at m a)
exec_bytes (get b k) m a = exec_bytes (k (at m b)) m a
exec_bytes (put b v p) m a =
    exec_bytes p (store m b v) a ∙ rw (stored_layout (store_layout m b v) a, at_store m b v a) (go (stored m a) (eqb a b))
  where
    ws : List Write
    ws = writes (exec p (store m b v)).accesses

    go : (s e : Bool)
        → cond s (latest a ws (cond (s && e) v (at m a))) (cond (s && e) v (at m a))
        ≡ cond s (latest a ws (cond e v (at m a))) (at m a)
    go true e = refl
    go false e = refl

-- the writes of no access, and of accesses after accesses
pub writes_none : writes [] ≡ []
unfolding writes
writes_none = refl

pub writes_append : (k l : List Access) → writes (k ++ l) ≡ writes k ++ writes l
unfolding writes
writes_append [] l = refl
writes_append (read_of a b ∷ k) l = writes_append k l
writes_append (write_of a v ∷ k) l = ap (λ (ws : List Write). record { address = a; byte = v } ∷ ws) (writes_append k l)

-- what any program leaves, byte by byte
pub exec_written : {A : Type 0} (p : Prog A) (m : Pages) → Written m (writes (exec p m).accesses) (exec p m).pages
exec_written p m = record { layout = exec_layout p m; bytes = exec_bytes p m }

latest_append : (a : ℕ) (xs ys : List Write) (d : ℕ) → latest a (xs ++ ys) d ≡ latest a ys (latest a xs d)
unfolding latest
latest_append a [] ys d = refl
latest_append a (x ∷ xs) ys d = latest_append a xs ys (cond (eqb a x.address) x.byte d)

-- no write, and writes after writes
pub written_none : (m : Pages) → Written m [] m
unfolding latest
written_none m = record { layout = layout_refl m; bytes = λ a. cond_same (stored m a) (at m a) }

pub written_then : {l m n : Pages} {xs ys : List Write} → Written l xs m → Written m ys n → Written l (xs ++ ys) n
written_then {l} {m} {n} {xs} {ys} p q = record { layout = layout_trans p.layout q.layout; bytes = bytes }
  where
    go : (a : ℕ) (s : Bool)
        → cond s (latest a ys (cond s (latest a xs (at l a)) (at l a))) (cond s (latest a xs (at l a)) (at l a))
        ≡ cond s (latest a (xs ++ ys) (at l a)) (at l a)
    go a true = sym (latest_append a xs ys (at l a))
    go a false = refl

    bytes : (a : ℕ) → at n a ≡ cond (stored l a) (latest a (xs ++ ys) (at l a)) (at l a)
    bytes a = q.bytes a ∙ rw (stored_layout p.layout a, p.bytes a) (go a (stored l a))
