-- Which interrupt a step enters, and what the entry leaves: the fields that change, and every other as it was (document 01, "One step"; document 02,
-- F-6).
use Rattle.std.specs.Prelude.{◌≡◌, ℕ, Bool, ◌+◌, ◌/◌, ◌%◌, true, false, ◌&&◌, ◌||◌, List, [], ◌∷◌}
use Rattle.arithmetic.specs.declared.record.Lh5801.{Lh5801}
use Rattle.arithmetic.specs.Flags.{IE, has_flag, set_flag}
use Rattle.pages.specs.Pages.{Pages, at, store}
use Rattle.pages.specs.Prog.{Access, read_of, write_of, Ran}
use Rattle.pages.specs.Stack.{down16, word_of}
use Rattle.pages.specs.Timer.{timer_part_of}
use Rattle.execution.specs.declared.interrupts.Interrupt.{Interrupt}
use Rattle.execution.specs.declared.interrupts.Interrupt.TheVariants.{Ir0, Ir1, Ir2}
use Rattle.execution.specs.Interrupts.{cleared, vector_address}
use Rattle.execution.specs.Step.{StepEnd, did, interrupt}

-- the requests and IE where each is accepted: IR0 goes before IR1, and IR1 before IR2; IE masks IR1 and IR2, and not IR0. `ir1` is set where IR1 or
-- timer reached is
abbrev pub Selects : Interrupt → Bool → Bool → Bool → Bool → Type 0
Selects Ir0 ir0 ir1 ir2 enabled = ir0 ≡ true
Selects Ir1 ir0 ir1 ir2 enabled = (ir0 ≡ false) × (ir1 ≡ true) × (enabled ≡ true)
Selects Ir2 ir0 ir1 ir2 enabled = (ir0 ≡ false) × (ir1 ≡ false) × (ir2 ≡ true) × (enabled ≡ true)

-- the records from which a step enters each
pub record Enters (m : Lh5801) (i : Interrupt) : Type 0 where
  pub on : m.bf ≡ true
  pub selected : Selects i m.ir0 (m.ir1 || m.is_timer_reached) m.ir2 (has_flag m.t IE)

-- none is accepted: IR0 is clear, and IE is clear, or IR1, timer reached and IR2 all are
abbrev pub NoneAccepted : Lh5801 → Type 0
NoneAccepted m = (m.ir0 ≡ false) × (((m.ir1 || m.is_timer_reached) || m.ir2) && has_flag m.t IE ≡ false)

-- the pages after it: T is pushed, with IE as it was, then P's low byte and its high byte
abbrev pub pages_entered : Lh5801 → Pages → Pages
pages_entered m pages = store (store (store pages m.s m.t) (down16 m.s) (m.p % 256)) (down16 (down16 m.s)) (m.p / 256)

-- its accesses: those three writes, and the vector's high byte and its low byte read after them
abbrev pub accesses_entered : Lh5801 → Pages → ℕ → List Access
accesses_entered m pages vector =
    write_of m.s m.t
    ∷ write_of (down16 m.s) (m.p % 256)
    ∷ write_of (down16 (down16 m.s)) (m.p / 256)
    ∷ read_of vector (at (pages_entered m pages) vector)
    ∷ read_of (vector + 1) (at (pages_entered m pages) (vector + 1))
    ∷ []

-- the word that is read at the vector
abbrev pub vector_word : Lh5801 → Pages → ℕ → ℕ
vector_word m pages vector = word_of (at (pages_entered m pages) vector) (at (pages_entered m pages) (vector + 1))

-- the record after it, but for the timer part: timer reached has moved to IR1, and the interrupt's own request is cleared
unfoldable pub entered_of : Lh5801 → Pages → Interrupt → Lh5801
entered_of m pages i =
    cleared
    (record m {
      t = set_flag m.t IE false;
      s = down16 (down16 (down16 m.s));
      p = vector_word m pages (vector_address i);
      is_halted = false;
      ir1 = m.ir1 || m.is_timer_reached;
      is_timer_reached = false;
    })
    i

-- what it comes to: that record after the timer part, no states, those pages, and those accesses
pub record Entered (i : Interrupt) (m : Lh5801) (pages : Pages) (r : Ran StepEnd) : Type 0 where
  pub answer : r.answer ≡ did (timer_part_of (entered_of m pages i)) 0 (interrupt i)
  pub pages_are : r.pages ≡ pages_entered m pages
  pub accesses : r.accesses ≡ accesses_entered m pages (vector_address i)
