-- Programs whose accesses fit, on pages that hold bytes: the laws of access programs, of the stack and of the timer.
use Rattle.std.proofs.Common.{ℕ, ◌+◌, ◌/◌, ◌<◌, Bool, true, false, cond, ◌&&◌, eqb, leb, List, [], ◌∷◌, ◌++◌, arith}
use Rattle.arithmetic.specs.declared.record.Lh5801.{Lh5801}
use Rattle.arithmetic.specs.Flags.{IE}
use Rattle.arithmetic.specs.Record.{with_t, with_s, with_p, with_tm, with_timer_state, with_step_previous_state}
use Rattle.arithmetic.specs.Widths.{Widths}
use Rattle.arithmetic.proofs.Widths.{flag_byte, widths_t, widths_s, widths_p, widths_halted, widths_tm, widths_reached, widths_states, widths_previous, widths_ticks, widths_lda}
use Rattle.pages.specs.declared.Code.{Code}
use Rattle.pages.specs.declared.Popped.{Popped}
use Rattle.pages.specs.Pages.{Pages, at, stored, store}
use Rattle.pages.specs.Prog.{Access, Ran, Prog, done, get, put, ◌>>=◌, read, write, write_of, after, exec}
use Rattle.pages.specs.Stack.{readop_of, readop_word_of, mem16_of, push_of, push_word_of, pop_of, pop_word_of, push_state_of, accept_of}
use Rattle.pages.specs.Timer.{timer_inc_of, add_state_of, passed_of, timer_part_of}
use Rattle.pages.specs.Widths.{AllBytes, AccessFits, AllFit}
use Rattle.pages.proofs.Pages.{at_store}

-- a byte written into pages that hold bytes
store_bytes : (m : Pages) → AllBytes m → (a v : ℕ) → v < 0x100 → AllBytes (store m a v)
store_bytes m bytes b v h a = rw (at_store m b v a) (go (stored m a && eqb a b))
  where
    go : (t : Bool) → cond t v (at m a) < 0x100
    go true = h
    go false = bytes a

-- accesses after accesses
pub fit_append : (k l : List Access) → AllFit k → AllFit l → AllFit (k ++ l)
fit_append [] l f g = g
fit_append (x ∷ k) l f g = (f.0, fit_append k l f.1 g)

-- where each read gives a byte, each access of the program fits, and each answer has P
abbrev pub InWidth : {A : Type 0} → (A → Type 0) → Prog A → Type 0
InWidth P (done a) = P a
InWidth P (get a k) = (a < 0x20000) × ((b : ℕ) → b < 0x100 → InWidth P (k b))
InWidth P (put a v p) = AccessFits (write_of a v) × InWidth P p

-- what a program comes to: its answer has P, each of its accesses fits, and the pages after it hold bytes
pub record RanInWidth {A : Type 0} (P : A → Type 0) (r : Ran A) : Type 0 where
  pub answer : P r.answer
  pub accesses : AllFit r.accesses
  pub pages : AllBytes r.pages

-- so it is on pages that hold bytes, and they hold bytes after it
pub width_exec : {A : Type 0} (P : A → Type 0) (p : Prog A) → InWidth P p → (m : Pages) → AllBytes m → RanInWidth P (exec p m)
unfolding exec after
width_exec P (done a) h m bytes = record { answer = h; accesses = tt; pages = bytes }
width_exec P (get a k) h m bytes =
    let r = width_exec P (k (at m a)) (h.1 (at m a) (bytes a)) m bytes in
    record { answer = r.answer; accesses = ((h.0, bytes a), r.accesses); pages = r.pages }
width_exec P (put a v p) h m bytes =
    let r = width_exec P p h.1 (store m a v) (store_bytes m bytes a v h.0.1) in
    record { answer = r.answer; accesses = (h.0, r.accesses); pages = r.pages }

-- a program after another
pub width_bind : {A B : Type 0} (Q : A → Type 0) (P : B → Type 0) (p : Prog A) (f : A → Prog B)
    → InWidth Q p
    → ((a : A) → Q a → InWidth P (f a))
    → InWidth P (p >>= f)
unfolding ◌>>=◌
width_bind Q P (done a) f h g = g a h
width_bind Q P (get a k) f h g = (h.0, λ b c. width_bind Q P (k b) f (h.1 b c) g)
width_bind Q P (put a v p) f h g = (h.0, width_bind Q P p f h.1 g)

-- one access, and then the next
pub width_read : {A : Type 0} (P : A → Type 0) (a : ℕ) (f : ℕ → Prog A) → a < 0x20000 → ((b : ℕ) → b < 0x100 → InWidth P (f b)) → InWidth P (read a >>= f)
unfolding read ◌>>=◌
width_read P a f h g = (h, g)

pub width_write : {A : Type 0} (P : A → Type 0) (a v : ℕ) (f : Unit {0} → Prog A) → AccessFits (write_of a v) → InWidth P (f tt) → InWidth P (write a v >>= f)
unfolding write ◌>>=◌
width_write P a v f h g = (h, g)

-- ---- bytes and words of the code and of the stack

-- what was read in the code is less than n, and P after it is a word
abbrev pub Coded : ℕ → Code ℕ → Type 0
Coded n c = (c.value < n) × (c.p < 0x10000)

pub width_readop : (p : ℕ) → p < 0x10000 → InWidth (Coded 0x100) (readop_of p)
unfolding readop_of
width_readop p h = width_read _ p _ (omega arith) (λ b c. (c, omega arith))

pub width_readop_word : (p : ℕ) → p < 0x10000 → InWidth (Coded 0x10000) (readop_word_of p)
unfolding readop_word_of
width_readop_word p h =
    width_bind _ _ _ _ (width_readop p h) (λ high c. width_bind _ _ _ _ (width_readop high.p c.1) (λ low d. (omega (arith, c.0, d.0), d.1)))

pub width_mem16 : (a : ℕ) → a + 1 < 0x20000 → InWidth (λ w. w < 0x10000) (mem16_of a)
unfolding mem16_of
width_mem16 a h = width_read _ a _ (omega arith) (λ high c. width_read _ (a + 1) _ h (λ low d. omega (arith, c, d)))

-- a word that was popped, and S after it
abbrev pub PoppedWords : Popped → Type 0
PoppedWords w = (w.value < 0x10000) × (w.s < 0x10000)

pub width_pop_word : (s : ℕ) → InWidth PoppedWords (pop_word_of s)
unfolding pop_word_of
width_pop_word s = width_read _ _ _ (omega arith) (λ high c. width_read _ _ _ (omega arith) (λ low d. (omega (arith, c, d), omega arith)))

module _ (m : Lh5801) (w : Widths m) where
  pub width_push : (v : ℕ) → v < 0x100 → InWidth Widths (push_of m v)
  unfolding push_of
  width_push v h = width_write _ _ _ _ (omega (arith, w.s), h) (widths_s m w _ (omega arith))

  pub width_pop : InWidth Widths (pop_of m)
  unfolding pop_of
  width_pop = width_read _ _ _ (omega arith) (λ b c. widths_lda (with_s m _) (widths_s m w _ (omega arith)) b c)

pub width_push_word : (m : Lh5801) → Widths m → (v : ℕ) → v < 0x10000 → InWidth Widths (push_word_of m v)
unfolding push_word_of
width_push_word m w v h = width_bind _ _ _ _ (width_push m w _ (omega arith)) (λ k x. width_push k x (v / 256) (omega arith))

width_push_state : (m : Lh5801) → Widths m → InWidth Widths (push_state_of m)
unfolding push_state_of
width_push_state m w =
    width_bind _ _ _ _ (width_push m w m.t w.t)
    (λ k x. width_push_word (with_t k _) (widths_t k x _ (flag_byte m.t IE w.t (omega arith) false)) m.p w.p)

-- an accepted interrupt
pub width_accept : (m : Lh5801) → Widths m → (vector : ℕ) → vector + 1 < 0x20000 → InWidth Widths (accept_of m vector)
unfolding accept_of
width_accept m w vector h =
    width_bind _ _ _ _ (width_push_state m w)
    (λ k x. width_bind _ _ _ _ (width_mem16 vector h) (λ to l. widths_halted (with_p k to) (widths_p k x to l) false))

-- ---- states and the timer change no register

module _ (m : Lh5801) (w : Widths m) where
  pub widths_add_state : (n : ℕ) → Widths (add_state_of m n)
  unfolding add_state_of
  widths_add_state n = widths_ticks (with_timer_state m _) (widths_states m w _) _

  pub widths_timer_part : Widths (timer_part_of m)
  unfolding timer_part_of timer_inc_of
  widths_timer_part = go (leb 42 (passed_of m))
    where
      go : (t : Bool) → Widths (cond t (with_step_previous_state (timer_inc_of m) m.timer_state) m)
      go true = widths_previous _ (widths_reached (with_tm m _) (widths_tm m w _) _) _
      go false = w
