-- The read-only part of page 0 (document 02, F-4) over whole calls; and steps and calls with one are those of specs/Protected.antt, by computation.
use Rattle.std.proofs.Common.{◌≡◌, ℕ, true, false, map, sym, refl, ◌∙◌}
use Rattle.std.specs.Prelude.{Option, None, Some}
use Rattle.arithmetic.specs.declared.record.Lh5801.{Lh5801}
use Rattle.pages.specs.Pages.{Pages, no_read_only, with_read_only, at, inside, protected, stored, set_byte, store}
use Rattle.pages.specs.Written.{writes, read_first, NotReadBack}
use Rattle.pages.proofs.Protected.{written_protected, Unread, unread, unread_stored}
use Rattle.run.specs.declared.Settings.{Settings}
use Rattle.run.specs.declared.End.{End}
use Rattle.run.specs.Acceptance.{not_accepted}
use Rattle.run.specs.AccessOrders.{interrupted, long, vector_first}
use Rattle.run.specs.Protected.{protected_seen, ProtectedCase, protected_cases, VectorCase, vector_cases, load_seen, LoadCase, load_cases, sta_and_lda, sta_and_lda_on_1}
use Rattle.run.specs.Run.{CallResult, no_step, completed, onward, run_of, accesses_after, accesses_of, call_unless, call_of}
use Rattle.run.proofs.AccessOrders.{stepped, pressed}
use Rattle.run.proofs.Steps.{SameButPages, run_alike}
use Rattle.run.proofs.Calls.{call_written}

-- a protected byte is, after every call, what it was: for every routine, record and limit
pub call_protected : (s : Settings) (free : Option ℕ) (m : Lh5801) (p : Pages) (a : ℕ) → protected p.read_only a ≡ true
    → at (call_of s free m p).pages a ≡ at p a
call_protected s free m p a = written_protected (call_written s free m p) a

-- ---- where no protected byte is read after a write to it, nothing else is changed

-- the same answer and accesses, and the same bytes but for the protected ones
pub record AsWritable (p : Pages) (x y : CallResult) : Type 0 where
  pub answer : y.answer ≡ x.answer
  pub bus : y.bus ≡ x.bus
  pub bytes : (a : ℕ) → protected p.read_only a ≡ false → at y.pages a ≡ at x.pages a

-- so it is with a call and the same call with nothing read-only, whether or not the first has dropped writes
pub call_unread : (s : Settings) (free : Option ℕ) (m : Lh5801) (p : Pages) → NotReadBack p.read_only (accesses_of s.limit s.inputs free m p)
    → AsWritable p (call_of s free m p) (call_of s free m (with_read_only no_read_only p))
unfolding call_of call_unless not_accepted no_step at
call_unread s free m p h = record { answer = same.answer; bus = same.bus; bytes = bytes }
  where
    q : Pages
    q = with_read_only no_read_only p

    apart : Unread (accesses_of s.limit s.inputs free m p) p q
    apart = record { page0 = refl; page1 = refl; none = refl; agree = λ a r. refl; not_back = h }

    go : (e : Option End) → SameButPages (call_unless e s free m p) (call_unless e s free m q)
    go (Some e) = record { answer = refl; bus = refl }
    go None = run_alike unread s.limit s.inputs free m p q apart

    same : SameButPages (call_of s free m p) (call_of s free m q)
    same = go (not_accepted s m p)

    bytes : (a : ℕ) → protected p.read_only a ≡ false → at (call_of s free m q).pages a ≡ at (call_of s free m p).pages a
    bytes a u = (call_written s free m q).bytes a ∙ rw (same.bus, unread_stored p q a apart u) (sym ((call_written s free m p).bytes a))

-- ---- by computation

pub protected_cases_hold : map (λ (c : ProtectedCase). protected_seen c.cpu c.addresses (stepped pressed c.cpu c.pages)) protected_cases ≡ map (λ (c : ProtectedCase). c.comes) protected_cases
unfolding protected_cases stepped at inside protected stored set_byte store
protected_cases_hold = refl

-- which bytes of the vector are read first, on a page of 65,536 bytes
pub vector_cases_hold :
    map (λ (c : VectorCase). let p = with_read_only c.read_only long in vector_first p (stepped pressed (interrupted 0xFFFB) p).accesses) vector_cases
    ≡ map (λ (c : VectorCase). c.first) vector_cases
unfolding vector_cases read_first stepped at inside protected stored set_byte store
vector_cases_hold = refl

pub load_cases_hold : map (λ (c : LoadCase). load_seen 0x08 (with_read_only c.read_only sta_and_lda)) load_cases ≡ map (λ (c : LoadCase). c.comes) load_cases
unfolding load_cases read_first writes not_accepted no_step completed onward run_of accesses_of accesses_after call_unless call_of stepped at inside protected stored set_byte store
load_cases_hold = refl

-- on page 1 the byte is stored, and so it is not read first
pub page_1_not_first : (load_seen 0x10008 sta_and_lda_on_1).first ≡ false
unfolding read_first accesses_of accesses_after stepped at inside protected stored set_byte store
page_1_not_first = refl
