-- Entries noted one after the other, and what a log then holds.
use Rattle.std.proofs.Common.{◌≡◌, ℕ, suc, ◌+◌, ◌-◌, ◌%◌, ◌<◌, ◌≤◌, true, false, List, [], ◌∷◌, ◌++◌, map, length, take, drop, set, sym, refl, ap, ◌∙◌, add-zero, add-one, arith, length-append}
use lib.ListN.{length-map}
use lib.Seq.{sets, length-sets, sets-eq}
use Rattle.pages.specs.Pages.{Pages, at}
use Rattle.pages.specs.Prog.{Access, read_of, exec}
use Rattle.pages.specs.Stack.{up16}
use Rattle.arithmetic.specs.declared.record.Lh5801.{Lh5801}
use Rattle.execution.specs.declared.Inputs.{Inputs}
use Rattle.std.specs.Prelude.{Option}
use Rattle.execution.specs.declared.interrupts.Interrupt.{Interrupt}
use Rattle.execution.specs.Interrupts.{accepted}
use Rattle.execution.specs.Step.{step_of}
use Rattle.execution.specs.Completed.{completed_accesses}
use Rattle.execution.specs.Code.Due.{stops_before_of}
use Rattle.execution.specs.Code.Shapes.{bytes_from, powered_accesses, step_accesses}
use Rattle.execution.proofs.AccessesAhead.{step_accesses_ahead, completed_few}
use Rattle.bus.specs.declared.BusLog.{BusLog}
use Rattle.bus.specs.Log.{entry_of, noted}
use Rattle.bus.specs.Code.Notes.{LentLog, most, Appends, Grows, Notes}

-- entries noted after others
pub noted_append : (log : List ℕ) (i : ℕ) (xs ys : List Access) → noted log i (xs ++ ys) ≡ noted (noted log i xs) (i + length xs) ys
noted_append log i [] ys = ap (λ (j : ℕ). noted log j ys) (sym (add-zero i))
noted_append log i (x ∷ xs) ys =
    let e : i + 1 + length xs ≡ i + length (x ∷ xs) = omega arith in
    noted_append (set log i (entry_of x)) (i + 1) xs ys ∙ ap (λ (j : ℕ). noted (noted (set log i (entry_of x)) (i + 1) xs) j ys) e

-- some entries noted up to the place j, and then others from there on, with the place after them
pub notes_then : (xs ys : List Access) (l : List ℕ) (i : ℕ) {j r : ℕ} {m n : List ℕ}
    → (m ≡ noted l i xs) × (j ≡ i + length xs) → (n ≡ noted m j ys) × (r ≡ j + length ys)
    → (n ≡ noted l i (xs ++ ys)) × (r ≡ i + length (xs ++ ys))
notes_then xs ys l i p q = (q.0 ∙ rw (p.1, p.0) (sym (noted_append l i xs ys)), rw length-append (omega (arith, p.1, q.1)))

-- a log grows by no entries, and by some and then others
pub grows_none : {a : BusLog} → Grows [] a a
grows_none {a} = record { counted = λ _. (refl, sym (add-zero a.used)); lent = refl }

pub grows_then : {xs ys : List Access} {a b c : BusLog} → Grows xs a b → Grows ys b c → Grows (xs ++ ys) a c
grows_then {xs} {ys} {a} p q =
    record {
      counted = λ h.
          let total : length (xs ++ ys) ≡ length xs + length ys = length-append xs ys in
          let first = p.counted (omega (arith, h, total)) in
          notes_then xs ys a.entries.now a.used first (q.counted (omega (arith, h, total, first.1)));
      lent = q.lent ∙ p.lent;
    }

-- where there is room for the count, the entries are appended
pub grows_appends : {l : List Access} {log : LentLog} → log.entry.now.used + length l < 0x10000000000000000 → Notes l log → Appends l log
grows_appends h p =
    let done = p.counted h in
    record { entries = done.0; used = done.1; lent = p.lent }

-- with BF set, the coming step's accesses by the interrupt that is accepted, or by none
pub by_interrupt : (m : Lh5801) (pages : Pages) {a : Option Interrupt} → m.bf ≡ true → accepted m ≡ a → step_accesses m pages ≡ powered_accesses m pages a
by_interrupt m pages on e = rw (on, e)

-- the accesses l that the code takes the coming step's to be are at most seven, so there is room for the count
pub step_appends : (m : Lh5801) (inputs : Inputs) (pages : Pages) {log : LentLog} {l : List Access} → stops_before_of m inputs ≡ false
    → log.entry.now.used ≤ most → step_accesses m pages ≡ l → Notes l log → Appends (completed_accesses (exec (step_of m inputs) pages)) log
step_appends m inputs pages s h e p =
    let same = step_accesses_ahead m inputs pages s ∙ e in
    rw same (grows_appends (omega (arith, h, ap length same, completed_few m inputs pages)) p)

-- the bytes that are left: the next one, and the others
pub bytes_next : (pages : Pages) (from k i : ℕ) → i < k
    → read_of ((from + i) % 65536) (at pages ((from + i) % 65536)) ∷ bytes_from pages ((from + (i + 1)) % 65536) (k - (i + 1)) ≡ bytes_from pages ((from + i) % 65536) (k - i)
bytes_next pages from k i h =
    let e : k - i ≡ suc (k - (i + 1)) = omega (arith, h) in
    let next : up16 ((from + i) % 65536) ≡ (from + (i + 1)) % 65536 = omega arith in
    rw (e, next)

noted_sets : (log : List ℕ) (i : ℕ) (xs : List Access) → noted log i xs ≡ sets log i (map entry_of xs)
noted_sets log i [] = refl
noted_sets log i (x ∷ xs) =
    noted_sets (set log i (entry_of x)) (i + 1) xs ∙ ap (λ (j : ℕ). sets (set log i (entry_of x)) j (map entry_of xs)) (add-one i)

-- a log keeps its length
pub noted_length : (log : List ℕ) (i : ℕ) (xs : List Access) → length (noted log i xs) ≡ length log
noted_length log i xs = ap length (noted_sets log i xs) ∙ length-sets log i (map entry_of xs)

-- where they fit, the entries stand from place i on, and all else is as it was
pub noted_fits : (log : List ℕ) (i : ℕ) (xs : List Access) → i + length xs ≤ length log
    → noted log i xs ≡ take i log ++ map entry_of xs ++ drop (i + length xs) log
noted_fits log i xs h =
    noted_sets log i xs ∙ sets-eq (map entry_of xs) log i (rw (length-map xs entry_of) h) ∙ rw (length-map xs entry_of)
