-- Laws of choices by a test.
use Rattle.std.proofs.Common.{◌≡◌, ℕ, Bool, true, false, cond, ◌||◌, refl, true≢false}
use mathlib.Core.Bool.{false≢true}
use Rattle.pages.specs.declared.Memory.{Memory}
use Rattle.pages.specs.Prog.{Prog, done, read, write, ◌>>=◌}
use Rattle.pages.specs.Pages.{Pages}
use Rattle.pages.specs.Contract.{Does, Gives}
use Rattle.pages.proofs.Does.{does_then, does_done}
use Rattle.arithmetic.specs.declared.record.Lh5801.{Lh5801}
use Rattle.arithmetic.specs.declared.Moved.{Moved}
use Rattle.arithmetic.specs.Record.{with_a}
use Rattle.arithmetic.specs.Shifts.{drl_moved, drr_moved}
use Rattle.execution.specs.declared.places.Page.{Page}
use Rattle.execution.specs.Places.{address_of}
use Rattle.execution.specs.Instructions.{drr_of, drl_of}

pub none_left : (a b : Bool) → a || b ≡ false → a ≡ false
none_left true b e = e
none_left false b e = refl

pub none_right : (a b : Bool) → a || b ≡ false → b ≡ false
none_right true b e = absurd (true≢false e)
none_right false b e = e

pub cond_true : {A : Type 0} (t : Bool) (x y : A) → t ≡ true → cond t x y ≡ x
cond_true true x y e = refl
cond_true false x y e = absurd (false≢true e)

pub cond_false : {A : Type 0} (t : Bool) (x y : A) → t ≡ false → cond t x y ≡ y
cond_false true x y e = absurd (true≢false e)
cond_false false x y e = refl

-- what holds either way
pub cond_both : {A : Type 0} (P : A → Type 0) (t : Bool) (x y : A) → P x → P y → P (cond t x y)
cond_both P true x y h k = h
cond_both P false x y h k = k

-- one of two programs that differ in their last step
pub either_end : {A B : Type 0} (t : Bool) (p : Prog A) (f g : A → B) {l n : Memory} {r : B}
    → Does (p >>= (λ k. done (cond t (f k) (g k)))) l r n
    → Does (cond t (p >>= (λ k. done (f k))) (p >>= (λ k. done (g k)))) l r n
either_end true p f g d = d
either_end false p f g d = d

-- the same of pages that are only read
pub either_given : {A B : Type 0} (t : Bool) (p : Prog A) (f g : A → B) {q : Pages} {r : B}
    → Gives (p >>= (λ k. done (cond t (f k) (g k)))) q r
    → Gives (cond t (p >>= (λ k. done (f k))) (p >>= (λ k. done (g k)))) q r
either_given true p f g d = d
either_given false p f g d = d

-- DRR or DRL
pub either_rotated : (t : Bool) (m : Lh5801) (page : Page) {l p n : Memory} {b : ℕ} {moved : Moved} {u : Unit {0}}
    → Does (read (address_of m.x page)) l b p
    → moved ≡ cond t (drr_moved m.a b) (drl_moved m.a b)
    → Does (write (address_of m.x page) moved.byte) p u n
    → Does (cond t (drr_of m page) (drl_of m page)) l (with_a m moved.a) n
unfolding drr_of drl_of
either_rotated true m page d e w = does_then _ d (does_then _ (rw e at w) (does_done (rw e)))
either_rotated false m page d e w = does_then _ d (does_then _ (rw e at w) (does_done (rw e)))
