-- Programs that have written nothing where their answer lacks R: after a write every answer has R.
use Rattle.std.proofs.Common.{◌≡◌, ℕ, [], refl}
use Rattle.pages.specs.Pages.{Pages, at, store}
use Rattle.pages.specs.Prog.{Prog, done, get, put, ◌>>=◌, read, after, exec}
use Rattle.pages.specs.Stack.{readop_of}
use Rattle.pages.specs.Written.{writes}
use Rattle.pages.proofs.Always.{Always, always_exec}

-- the program only reads
abbrev pub ReadsOnly : {A : Type 0} → Prog A → Type 0
ReadsOnly (done a) = Unit {0}
ReadsOnly (get a k) = (b : ℕ) → ReadsOnly (k b)
ReadsOnly (put a v p) = ⊥

pub reads_then : {A B : Type 0} (p : Prog A) (f : A → Prog B) → ReadsOnly p → ((a : A) → ReadsOnly (f a)) → ReadsOnly (p >>= f)
unfolding ◌>>=◌
reads_then (done a) f r h = h a
reads_then (get a k) f r h = λ b. reads_then (k b) f (r b) h
reads_then (put a v p) f r h = absurd r

pub reads_readop : (p : ℕ) → ReadsOnly (readop_of p)
unfolding readop_of read ◌>>=◌
reads_readop p = λ b. tt

abbrev pub Clean : {A : Type 0} → (A → Type 0) → Prog A → Type 0
Clean R (done a) = Unit {0}
Clean R (get a k) = (b : ℕ) → Clean R (k b)
Clean R (put a v p) = Always R p

pub clean_exec : {A : Type 0} (R : A → Type 0) (p : Prog A) → Clean R p → (m : Pages) → (R (exec p m).answer → ⊥)
    → (writes (exec p m).accesses ≡ []) × ((exec p m).pages ≡ m)
unfolding exec after writes
clean_exec R (done a) h m n = (refl, refl)
clean_exec R (get a k) h m n = clean_exec R (k (at m a)) (h (at m a)) m n
clean_exec R (put a v p) h m n = absurd (n (always_exec R p h (store m a v)))

pub clean_always : {A : Type 0} (R : A → Type 0) (p : Prog A) → Always R p → Clean R p
clean_always R (done a) h = tt
clean_always R (get a k) h = λ b. clean_always R (k b) (h b)
clean_always R (put a v p) h = h

pub clean_after : {A B : Type 0} (R : B → Type 0) (p : Prog A) (f : A → Prog B) → ReadsOnly p → ((a : A) → Clean R (f a)) → Clean R (p >>= f)
unfolding ◌>>=◌
clean_after R (done a) f r h = h a
clean_after R (get a k) f r h = λ b. clean_after R (k b) f (r b) h
clean_after R (put a v p) f r h = absurd r
