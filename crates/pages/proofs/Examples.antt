-- The definitions on concrete pages and counts, by computation: the order and the addresses of accesses, dropped writes, registers that
-- wrap, and the timer at the differences 41, 42 and 84.
use Rattle.std.proofs.Common.{◌≡◌, ℕ, ◌-◌, ◌^◌, Bool, true, false, List, [], ◌∷◌, map, refl}
use Rattle.arithmetic.specs.declared.record.Lh5801.{Lh5801}
use Rattle.arithmetic.specs.Record.{with_a, with_t, with_s, with_tm, with_is_timer_reached, with_timer_state, with_step_previous_state}
use Rattle.arithmetic.specs.Logic.{lda_of}
use Rattle.pages.specs.declared.Code.{Code}
use Rattle.pages.specs.declared.Popped.{Popped}
use Rattle.pages.specs.declared.ReadOnly.{ReadOnly}
use Rattle.pages.specs.Pages.{Pages, writable, read_only_of, at, inside, protected, stored, set_byte, store}
use Rattle.pages.specs.Prog.{Prog, done, ◌>>=◌, read, write, Access, read_of, write_of, Ran, after, exec}
use Rattle.pages.specs.Written.{read_first}
use Rattle.pages.specs.Stack.{readop_of, readop_word_of, mem16_of, push_of, push_word_of, pop_of, pop_word_of}
use Rattle.pages.specs.Timer.{shift_of, timer_inc_of, passed_of, timer_part_of}

-- a program that answers with numbers, and what it must come to on the pages below
pub record Example : Type 0 where
  pub program : Prog (List ℕ)
  pub comes : Ran (List ℕ)

-- page 0 has the bytes 10 to 13 at 0 to 3, page 1 the bytes 20 and 21 at 10000 and 10001
abbrev pub small : Pages
small = writable (0x10 ∷ 0x11 ∷ 0x12 ∷ 0x13 ∷ []) (0x20 ∷ 0x21 ∷ [])

-- what the answers tell
abbrev pub code : Prog (Code ℕ) → Prog (List ℕ)
code p = p >>= (λ w. done (w.value ∷ w.p ∷ []))

abbrev pub popped : Prog Popped → Prog (List ℕ)
popped p = p >>= (λ w. done (w.value ∷ w.s ∷ []))

abbrev pub number : Prog ℕ → Prog (List ℕ)
number p = p >>= (λ w. done (w ∷ []))

abbrev pub stack : Prog Lh5801 → Prog (List ℕ)
stack p = p >>= (λ m. done (m.s ∷ []))

abbrev pub loaded : Prog Lh5801 → Prog (List ℕ)
loaded p = p >>= (λ m. done (m.a ∷ m.s ∷ []))

abbrev pub nothing : Prog Unit → Prog (List ℕ)
nothing p = p >>= (λ _. done [])

-- an example by its program, answer, accesses, and the pages that it leaves
abbrev pub example : Prog (List ℕ) → List ℕ → List Access → Pages → Example
example p r l n = record { program = p; comes = record { answer = r; pages = n; accesses = l } }

unfoldable pub examples : Lh5801 → List Example
examples m =
    -- a word of the code is read high byte first, and P wraps
    example (code (readop_word_of 1)) (0x1112 ∷ 3 ∷ []) (read_of 1 0x11 ∷ read_of 2 0x12 ∷ []) small
    ∷ example (code (readop_word_of 0xFFFF)) (0xFF10 ∷ 1 ∷ []) (read_of 0xFFFF 0xFF ∷ read_of 0 0x10 ∷ []) small
    -- a vector's word is read high byte first, and its second address does not wrap
    ∷ example (number (mem16_of 2)) (0x1213 ∷ []) (read_of 2 0x12 ∷ read_of 3 0x13 ∷ []) small
    ∷ example (number (mem16_of 0xFFFF)) (0xFF20 ∷ []) (read_of 0xFFFF 0xFF ∷ read_of 0x10000 0x20 ∷ []) small
    -- a word is pushed low byte first, and S wraps; a dropped write still is an access
    ∷ example (stack (push_word_of (with_s m 3) 0xAABB)) (1 ∷ []) (write_of 3 0xBB ∷ write_of 2 0xAA ∷ [])
    (writable (0x10 ∷ 0x11 ∷ 0xAA ∷ 0xBB ∷ []) (0x20 ∷ 0x21 ∷ []))
    ∷ example (stack (push_word_of (with_s m 0) 0xAABB)) (0xFFFE ∷ []) (write_of 0 0xBB ∷ write_of 0xFFFF 0xAA ∷ [])
    (writable (0xBB ∷ 0x11 ∷ 0x12 ∷ 0x13 ∷ []) (0x20 ∷ 0x21 ∷ []))
    ∷ example (stack (push_of (with_s m 4) 0xAA)) (3 ∷ []) (write_of 4 0xAA ∷ []) small
    -- a write on page 1
    ∷ example (nothing (write 0x10001 0xAA)) [] (write_of 0x10001 0xAA ∷ [])
    (writable (0x10 ∷ 0x11 ∷ 0x12 ∷ 0x13 ∷ []) (0x20 ∷ 0xAA ∷ []))
    ∷ example (nothing (write 0x10002 0xAA)) [] (write_of 0x10002 0xAA ∷ []) small
    -- S moves up before a byte is popped; a word is popped high first, and S wraps
    ∷ example (loaded (pop_of (with_s m 1))) (0x12 ∷ 2 ∷ []) (read_of 2 0x12 ∷ []) small
    ∷ example (popped (pop_word_of 0)) (0x1112 ∷ 2 ∷ []) (read_of 1 0x11 ∷ read_of 2 0x12 ∷ []) small
    ∷ example (popped (pop_word_of 0xFFFF)) (0x1011 ∷ 1 ∷ []) (read_of 0 0x10 ∷ read_of 1 0x11 ∷ []) small
    ∷ []

pub examples_hold : (m : Lh5801)
    → map (λ (e : Example). exec e.program small) (examples m) ≡ map (λ (e : Example). e.comes) (examples m)
unfolding examples exec after at inside protected stored set_byte store ◌>>=◌ read write readop_of readop_word_of mem16_of push_of push_word_of pop_of pop_word_of with_a with_t with_s lda_of
examples_hold m = refl

-- is a byte read first that was written before, with this read-only part?
abbrev pub first_after_a_write : ReadOnly → ℕ → Bool
first_after_a_write r a = read_first (record small { read_only = r }) a (write_of a 0xAA ∷ read_of a 0x00 ∷ [])

-- below the part, in it, at its end, in one that ends where it begins; past the page's end; on page 1
pub first_after_a_write_is :
    first_after_a_write (read_only_of 2 3) 1 ∷ first_after_a_write (read_only_of 1 2) 1 ∷ first_after_a_write (read_only_of 0 1) 1
    ∷ first_after_a_write (read_only_of 1 1) 1 ∷ first_after_a_write (read_only_of 0 0) 4 ∷ first_after_a_write (read_only_of 0 0x20000) 0x10001 ∷ []
    ≡ false ∷ true ∷ false ∷ false ∷ true ∷ false ∷ []
unfolding read_first inside protected stored
first_after_a_write_is = refl

-- the timer's part of a record
pub record Timer : Type 0 where
  pub states : ℕ
  pub previous : ℕ
  pub tm : ℕ
  pub reached : Bool

abbrev pub timer : ℕ → ℕ → ℕ → Bool → Timer
timer n p t r = record { states = n; previous = p; tm = t; reached = r }

abbrev pub timer_of : Lh5801 → Timer
timer_of m = timer m.timer_state m.step_previous_state m.tm m.is_timer_reached

abbrev pub set : Lh5801 → Timer → Lh5801
set m t = with_is_timer_reached (with_tm (with_step_previous_state (with_timer_state m t.states) t.previous) t.tm) t.reached

pub record TimerExample : Type 0 where
  pub before : Timer
  pub comes : Timer

abbrev pub shifts : Timer → Timer → TimerExample
shifts a b = record { before = a; comes = b }

-- the timer part after 41, 42 and 84 states, and where previous is above the current count
unfoldable pub timer_parts : List TimerExample
timer_parts =
    shifts (timer 141 100 0x1FE false) (timer 141 100 0x1FE false)
    ∷ shifts (timer 142 100 0x1FE false) (timer 142 142 0x1FF true)
    ∷ shifts (timer 184 100 0x1FE false) (timer 184 184 0x1FF true)
    ∷ shifts (timer 40 (2 ^ 64 - 1) 0x1FF true) (timer 40 (2 ^ 64 - 1) 0x1FF true)
    ∷ shifts (timer 41 (2 ^ 64 - 1) 0x1FF true) (timer 41 41 0x0FF false)
    ∷ shifts (timer 100 101 0x1FF true) (timer 100 100 0x0FF false)
    ∷ []

pub timer_parts_hold : (m : Lh5801)
    → map (λ (e : TimerExample). timer_of (timer_part_of (set m e.before))) timer_parts
    ≡ map (λ (e : TimerExample). e.comes) timer_parts
unfolding timer_parts timer_part_of passed_of timer_inc_of shift_of with_tm with_is_timer_reached with_timer_state with_step_previous_state
timer_parts_hold m = refl
