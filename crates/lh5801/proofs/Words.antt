-- Laws of the sixteen words: what is taken fits the record, and what comes back is taken as it is.
use Prim.Native.Nat.{ℕ, ◌-◌, ◌%◌, ◌^◌, ◌≤◌}
use mathlib.Core.Bool.{Bool}
use mathlib.Core.Path.{◌≡◌, refl, ap, ◌∙◌}
use mathlib.Core.Bool.{Bool}
use mathlib.Core.List.{List, [], ◌∷◌}
use native.Mathlib.Omega.{arith}
use Rattle.std.proofs.Math.Nat.{min-le_right, min-eq_left}
use lib.ListN.{get_or, take}
use Rattle.pages.specs.Pages.{Pages}
use Rattle.run.specs.declared.Answer.{Answer}
use Rattle.run.specs.Acceptance.{end_number, end_byte}
use Rattle.run.specs.BusLog.{Log, appended_if}
use Rattle.run.specs.Run.{CallResult}
use Rattle.run.specs.Answers.{Answers}
use Rattle.run.specs.RecordNumbers.{record_numbers, record_of, AllWithin, widths}
use Rattle.run.proofs.Numbers.{number_most}
use Rattle.run.proofs.RecordNumbers.{within_append, record_back}
use Rattle.lh5801.specs.Words.{taken_of, cpu_of, words_of, word_widths, Left}

pub taken_within : (words : List ℕ) → AllWithin (take 8 widths) (taken_of words)
unfolding taken_of
taken_within words = (omega arith, (omega arith, (omega arith, (omega arith, (omega arith, (omega arith, (omega arith, (min-le_right (get_or words 7 0) 65535, tt))))))))

pub words_within : (r : Answer) → AllWithin widths (record_numbers r.cpu) → end_byte r.end ≤ 255 → r.steps ≤ 2 ^ 32 - 1 → r.states ≤ 2 ^ 64 - 1
    → AllWithin word_widths (words_of r)
words_within r h byte steps states =
    within_append widths (record_numbers r.cpu) (12 ∷ 255 ∷ (2 ^ 32 - 1) ∷ (2 ^ 64 - 1) ∷ []) (end_number r.end ∷ end_byte r.end ∷ r.steps ∷ r.states ∷ []) refl h
    (number_most r.end, (byte, (steps, (states, tt))))

taken_back : (r : Answer) → AllWithin word_widths (words_of r) → taken_of (words_of r) ≡ record_numbers r.cpu
unfolding taken_of
taken_back r h =
    let m = r.cpu in
    let a : m.a % 256 ≡ m.a = omega (arith, h.0) in
    let t : m.t % 256 ≡ m.t = omega (arith, h.1.0) in
    let x : m.x % 65536 ≡ m.x = omega (arith, h.1.1.0) in
    let y : m.y % 65536 ≡ m.y = omega (arith, h.1.1.1.0) in
    let u : m.u % 65536 ≡ m.u = omega (arith, h.1.1.1.1.0) in
    let s : m.s % 65536 ≡ m.s = omega (arith, h.1.1.1.1.1.0) in
    let p : m.p % 65536 ≡ m.p = omega (arith, h.1.1.1.1.1.1.0) in
    rw (a, t, x, y, u, s, p, min-eq_left h.1.1.1.1.1.1.1.0)

-- the words that came back are taken as the record that they are of
pub continues : (r : Answer) → AllWithin word_widths (words_of r) → cpu_of (words_of r) ≡ r.cpu
continues r h = ap record_of (taken_back r h) ∙ record_back r.cpu

-- what the entry leaves, from what the run call answers
pub left : {o : CallResult} {lent : Bool} {before after : Log} {words : List ℕ} {r : Answer} {q : Pages} → Answers o r q
    → after ≡ appended_if lent before o.bus
    → (words ≡ words_of r) × AllWithin word_widths (words_of r)
    → Left o lent before after words q
left {r = r} a l w =
    record {
      words_are = w.0 ∙ ap words_of a.answer;
      within = rw w.0 w.1;
      continues = rw w.0 (continues r w.1) ∙ ap (λ (r : Answer). r.cpu) a.answer;
      pages = a.pages;
      log = l;
    }
