-- How what functions do in the memory is put together. Callers cite these laws and open neither `exec` nor the pages.
use Rattle.std.proofs.Common.{◌≡◌, ℕ, ◌-◌, ◌<◌, ◌≤◌, true, false, get_or, set, sym, refl, ap, ◌∙◌, subst}
use Rattle.pages.specs.declared.Memory.{Memory}
use Rattle.pages.specs.Pages.{Pages, at, stored, store}
use Rattle.pages.specs.Prog.{Prog, done, ◌>>=◌, mapped, read, write, after, exec}
use Rattle.pages.specs.Contract.{held, SameLent, Does, Gives}
use Rattle.pages.proofs.Pages.{at_page0, at_page1, store_kept, store_dropped, set_page0, set_page1}
use Rattle.pages.proofs.Exec.{bind_answer, bind_pages}

pub lent_same : {m : Memory} → SameLent m m
lent_same = record { page0 = refl; page1 = refl }

pub lent_then : {l m n : Memory} → SameLent l m → SameLent m n → SameLent l n
lent_then a b = record { page0 = b.page0 ∙ a.page0; page1 = b.page1 ∙ a.page1 }

-- no access, and the answer
pub does_done : {A : Type 0} {a r : A} {m : Memory} → r ≡ a → Does (done a) m r m
unfolding exec
does_done e = record { value = e; pages = refl; lent = lent_same }

-- one program, and then the next with its answer
pub does_then : {A B : Type 0} {p : Prog A} (f : A → Prog B) {l m n : Memory} {r : A} {s : B}
    → Does p l r m
    → Does (f r) m s n
    → Does (p >>= f) l s n
does_then {p = p} f {l = l} d e =
    record { value = cc (bind_answer p f (held l)); pages = cc (bind_pages p f (held l)); lent = lent_then d.lent e.lent }

-- the same program, with another answer
pub does_mapped : {A B : Type 0} (f : A → B) {p : Prog A} {m n : Memory} {r : A} → Does p m r n → Does (mapped f p) m (f r) n
unfolding mapped
does_mapped f d = does_then _ d (does_done refl)

-- and back: what the other answer says of the program's own, and the pages that it leaves
module _ {A B : Type 0} (f : A → B) (p : Prog A) {m n : Memory} {r : B} (d : Does (mapped f p) m r n) where
  pub mapped_value : r ≡ f (exec p (held m)).answer
  unfolding mapped exec
  mapped_value = d.value ∙ bind_answer p (λ a. done (f a)) (held m)

  pub mapped_pages : (exec p (held m)).pages ≡ held n
  unfolding mapped exec
  mapped_pages = sym (bind_pages p (λ a. done (f a)) (held m)) ∙ d.pages

-- an answer that the program's own answer gives by f gives the one by g
pub does_through : {A B C : Type 0} (f : A → B) (g : A → C) (h : B → C) → ((a : A) → h (f a) ≡ g a) → (p : Prog A) {m n : Memory} {r : B}
    → Does (mapped f p) m r n
    → Does (mapped g p) m (h r) n
does_through f g h e p {m} {n} d =
    subst (λ c. Does (mapped g p) m c n) (sym (ap h (mapped_value f p d) ∙ e (exec p (held m)).answer))
    (does_mapped g (record { value = refl; pages = mapped_pages f p d; lent = d.lent }))

-- pages that are only read: no access, one program after another
pub gives_done : {A : Type 0} {a r : A} {q : Pages} → r ≡ a → Gives (done a) q r
unfolding exec
gives_done e = record { value = e; pages = refl }

pub gives_then : {A B : Type 0} {p : Prog A} (f : A → Prog B) {q : Pages} {r : A} {s : B} → Gives p q r → Gives (f r) q s → Gives (p >>= f) q s
gives_then {p = p} f {q} d e = record { value = cc (bind_answer p f q); pages = cc (bind_pages p f q) }

-- what is read in a memory is done in it
pub does_gives : {A : Type 0} {p : Prog A} {m : Memory} {q : Pages} {r : A} → q ≡ held m → Gives p q r → Does p m r m
does_gives {p = p} {m = m} {r = r} e d =
    let g : Gives p (held m) r = subst (λ q. Gives p q r) e d in
    record { value = g.value; pages = g.pages; lent = lent_same }

-- one access
pub gives_read : (a : ℕ) {b : ℕ} {q : Pages} → b ≡ at q a → Gives (read a) q b
unfolding exec after read
gives_read a e = record { value = e; pages = refl }

-- and back: what one read gave is the byte there
pub read_value : (a : ℕ) {b : ℕ} {q : Pages} → Gives (read a) q b → b ≡ at q a
unfolding exec after read
read_value a d = d.value

pub does_write : (a v : ℕ) {m n : Memory} → SameLent m n → held n ≡ store (held m) a v → Does (write a v) m tt n
unfolding exec after write
does_write a v s e = record { value = refl; pages = sym e; lent = s }

-- one access, by the page that it goes to: only `read_byte` and `write_byte` need these
pub gives_read0 : {a b : ℕ} {q : Pages} → a < 0x10000 → b ≡ get_or q.page0 a 0xFF → Gives (read a) q b
gives_read0 {a} {q = q} h e = gives_read a (e ∙ sym (at_page0 q a h))

pub gives_read1 : {a b : ℕ} {q : Pages} → 0x10000 ≤ a → b ≡ get_or q.page1 (a - 0x10000) 0xFF → Gives (read a) q b
gives_read1 {a} {q = q} h e = gives_read a (e ∙ sym (at_page1 q a h))

pub does_write0 : (a v : ℕ) {m n : Memory} → SameLent m n → stored (held m) a ≡ true → a < 0x10000
    → held n ≡ record (held m) { page0 = set m.page0.now a v }
    → Does (write a v) m tt n
does_write0 a v {m} s k h e = does_write a v s (e ∙ sym (store_kept (held m) a v k ∙ set_page0 (held m) a v h))

pub does_write1 : (a v : ℕ) {m n : Memory} → SameLent m n → stored (held m) a ≡ true → 0x10000 ≤ a
    → held n ≡ record (held m) { page1 = set m.page1.now (a - 0x10000) v }
    → Does (write a v) m tt n
does_write1 a v {m} s k h e = does_write a v s (e ∙ sym (store_kept (held m) a v k ∙ set_page1 (held m) a v h))

-- and one that is dropped
pub does_dropped : (a v : ℕ) {m : Memory} → stored (held m) a ≡ false → Does (write a v) m tt m
does_dropped a v {m} k = does_write a v lent_same (sym (store_dropped (held m) a v k))
