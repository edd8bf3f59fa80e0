-- How many accesses a program makes.
use Rattle.std.proofs.Common.{ℕ, zero, suc, ◌+◌, ◌≤◌, length, le_of_suc-le-suc, not-suc-le-zero, suc-add, arith}
use Rattle.arithmetic.specs.declared.record.Lh5801.{Lh5801}
use Rattle.pages.specs.Pages.{Pages, at, store}
use Rattle.pages.specs.Prog.{Prog, done, get, put, ◌>>=◌, read, write, after, exec}
use Rattle.pages.specs.Stack.{readop_of, readop_word_of, mem16_of, push_of, push_word_of, pop_of, pop_word_of, push_state_of, accept_of}

-- the program makes at most n accesses, whatever it reads
abbrev pub AtMost : {A : Type 0} → ℕ → Prog A → Type 0
AtMost n (done a) = Unit {0}
AtMost zero (get a k) = ⊥
AtMost (suc n) (get a k) = (b : ℕ) → AtMost n (k b)
AtMost zero (put a v p) = ⊥
AtMost (suc n) (put a v p) = AtMost n p

-- and so it does on any pages
pub most_exec : {A : Type 0} (n : ℕ) (p : Prog A) → AtMost n p → (pages : Pages) → length (exec p pages).accesses ≤ n
unfolding exec after
most_exec n (done a) h pages = omega arith
most_exec zero (get a k) h pages = absurd h
most_exec (suc n) (get a k) h pages = omega (arith, most_exec n (k (at pages a)) (h (at pages a)) pages)
most_exec zero (put a v p) h pages = absurd h
most_exec (suc n) (put a v p) h pages = omega (arith, most_exec n p h (store pages a v))

pub most_more : {A : Type 0} (i j : ℕ) (p : Prog A) → i ≤ j → AtMost i p → AtMost j p
most_more i j (done a) l h = tt
most_more zero j (get a k) l h = absurd h
most_more (suc i) zero (get a k) l h = absurd (not-suc-le-zero l)
most_more (suc i) (suc j) (get a k) l h = λ b. most_more i j (k b) (le_of_suc-le-suc l) (h b)
most_more zero j (put a v p) l h = absurd h
most_more (suc i) zero (put a v p) l h = absurd (not-suc-le-zero l)
most_more (suc i) (suc j) (put a v p) l h = most_more i j p (le_of_suc-le-suc l) h

-- a program after another: the numbers add up
pub most_then : {A B : Type 0} (i j : ℕ) (p : Prog A) (f : A → Prog B) → AtMost i p → ((a : A) → AtMost j (f a)) → AtMost (i + j) (p >>= f)
unfolding ◌>>=◌
most_then i j (done a) f h g = most_more j (i + j) (f a) (omega arith) (g a)
most_then zero j (get a k) f h g = absurd h
most_then (suc i) j (get a k) f h g = rw suc-add (λ b. most_then i j (k b) f (h b) g)
most_then zero j (put a v p) f h g = absurd h
most_then (suc i) j (put a v p) f h g = rw suc-add (most_then i j p f h g)

-- one access, bytes and words of the code and of the stack
pub most_read : (a : ℕ) → AtMost 1 (read a)
unfolding read
most_read a = λ b. tt

pub most_write : (a v : ℕ) → AtMost 1 (write a v)
unfolding write
most_write a v = tt

pub most_readop : (p : ℕ) → AtMost 1 (readop_of p)
unfolding readop_of read ◌>>=◌
most_readop p = λ b. tt

pub most_readop_word : (p : ℕ) → AtMost 2 (readop_word_of p)
unfolding readop_word_of readop_of read ◌>>=◌
most_readop_word p = λ high low. tt

pub most_mem16 : (a : ℕ) → AtMost 2 (mem16_of a)
unfolding mem16_of read ◌>>=◌
most_mem16 a = λ high low. tt

pub most_push : (m : Lh5801) (v : ℕ) → AtMost 1 (push_of m v)
unfolding push_of write ◌>>=◌
most_push m v = tt

pub most_push_word : (m : Lh5801) (w : ℕ) → AtMost 2 (push_word_of m w)
unfolding push_word_of push_of write ◌>>=◌
most_push_word m w = tt

pub most_pop : (m : Lh5801) → AtMost 1 (pop_of m)
unfolding pop_of read ◌>>=◌
most_pop m = λ b. tt

pub most_pop_word : (s : ℕ) → AtMost 2 (pop_word_of s)
unfolding pop_word_of read ◌>>=◌
most_pop_word s = λ high low. tt

-- an accepted interrupt: three writes and two reads
pub most_accept : (m : Lh5801) (vector : ℕ) → AtMost 5 (accept_of m vector)
unfolding accept_of push_state_of push_word_of push_of mem16_of read write ◌>>=◌
most_accept m vector = λ high low. tt
