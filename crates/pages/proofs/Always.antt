-- What holds of a program's answer, whatever it reads.
use Rattle.std.proofs.Common.{ℕ}
use Rattle.pages.specs.Pages.{Pages, at, store}
use Rattle.pages.specs.Prog.{Prog, done, get, put, ◌>>=◌, after, exec}

-- every answer that the program can come to has P
abbrev pub Always : {A : Type 0} → (A → Type 0) → Prog A → Type 0
Always P (done a) = P a
Always P (get a k) = (b : ℕ) → Always P (k b)
Always P (put a v p) = Always P p

-- so has the one that it comes to
pub always_exec : {A : Type 0} (P : A → Type 0) (p : Prog A) → Always P p → (m : Pages) → P (exec p m).answer
unfolding exec after
always_exec P (done a) h m = h
always_exec P (get a k) h m = always_exec P (k (at m a)) (h (at m a)) m
always_exec P (put a v p) h m = always_exec P p h (store m a v)

-- a program after another
pub always_bind : {A B : Type 0} (Q : A → Type 0) (P : B → Type 0) (p : Prog A) (f : A → Prog B)
    → Always Q p
    → ((a : A) → Q a → Always P (f a))
    → Always P (p >>= f)
unfolding ◌>>=◌
always_bind Q P (done a) f h g = g a h
always_bind Q P (get a k) f h g = λ b. always_bind Q P (k b) f (h b) g
always_bind Q P (put a v p) f h g = always_bind Q P p f h g

-- whatever the first program comes to
pub always_then : {A B : Type 0} (P : B → Type 0) (p : Prog A) (f : A → Prog B) → ((a : A) → Always P (f a)) → Always P (p >>= f)
unfolding ◌>>=◌
always_then P (done a) f h = h a
always_then P (get a k) f h = λ b. always_then P (k b) f h
always_then P (put a v p) f h = always_then P p f h

-- and what follows from it
pub always_map : {A : Type 0} (Q P : A → Type 0) (p : Prog A) → ((a : A) → Q a → P a) → Always Q p → Always P p
always_map Q P (done a) g h = g a h
always_map Q P (get a k) g h = λ b. always_map Q P (k b) g (h b)
always_map Q P (put a v p) g h = always_map Q P p g h
