-- Which interrupt is accepted, by the requests and IE.
use Rattle.std.proofs.Common.{◌≡◌, Bool, true, false, cond, ◌&&◌, ◌||◌, ◌↔◌, refl, subst, true≢false}
use Rattle.std.specs.Prelude.{Option, Some, None}
use Rattle.arithmetic.specs.declared.record.Lh5801.{Lh5801}
use Rattle.arithmetic.specs.Flags.{IE, has_flag}
use Rattle.execution.specs.declared.interrupts.Interrupt.{Interrupt}
use Rattle.execution.specs.declared.interrupts.Interrupt.TheVariants.{Ir0, Ir1, Ir2}
use Rattle.execution.specs.Interrupts.{accepted}
use Rattle.execution.specs.Entered.{Selects, NoneAccepted}

-- `ir1` is set where IR1 or timer reached is, and `e` where IE is
abbrev by_requests : Bool → Bool → Bool → Bool → Option Interrupt
by_requests ir0 ir1 ir2 e = cond ir0 (Some Ir0) (cond (ir1 && e) (Some Ir1) (cond (ir2 && e) (Some Ir2) None))

selected_only : (ir0 ir1 ir2 e : Bool) (i : Interrupt) → by_requests ir0 ir1 ir2 e ≡ Some i → Selects i ir0 ir1 ir2 e
selected_only true ir1 ir2 e i a = let z : Ir0 ≡ i = cc in subst (λ j. Selects j true ir1 ir2 e) z refl
selected_only false true ir2 true i a = let z : Ir1 ≡ i = cc in subst (λ j. Selects j false true ir2 true) z (refl, refl, refl)
selected_only false false true true i a = let z : Ir2 ≡ i = cc in subst (λ j. Selects j false false true true) z (refl, refl, refl, refl)
selected_only false true true false i a = absurd cc
selected_only false true false false i a = absurd cc
selected_only false false true false i a = absurd cc
selected_only false false false e i a = absurd cc

selected_accepted : (ir0 ir1 ir2 e : Bool) (i : Interrupt) → Selects i ir0 ir1 ir2 e → by_requests ir0 ir1 ir2 e ≡ Some i
selected_accepted ir0 ir1 ir2 e Ir0 p = rw p
selected_accepted ir0 ir1 ir2 e Ir1 p = rw (p.0, p.1, p.2)
selected_accepted ir0 ir1 ir2 e Ir2 p = rw (p.0, p.1, p.2, p.3)

none_only : (ir0 ir1 ir2 e : Bool) → by_requests ir0 ir1 ir2 e ≡ None → (ir0 ≡ false) × ((ir1 || ir2) && e ≡ false)
none_only true ir1 ir2 e a = absurd cc
none_only false true ir2 true a = absurd cc
none_only false false true true a = absurd cc
none_only false true ir2 false a = (refl, refl)
none_only false false true false a = (refl, refl)
none_only false false false e a = (refl, refl)

none_by : (ir0 ir1 ir2 e : Bool) → ir0 ≡ false → (ir1 || ir2) && e ≡ false → by_requests ir0 ir1 ir2 e ≡ None
none_by true ir1 ir2 e z n = absurd (true≢false z)
none_by false true ir2 true z n = absurd (true≢false n)
none_by false false true true z n = absurd (true≢false n)
none_by false true true false z n = refl
none_by false true false false z n = refl
none_by false false true false z n = refl
none_by false false false e z n = refl

module _ (m : Lh5801) where
  abbrev ir1 : Bool
  ir1 = m.ir1 || m.is_timer_reached

  abbrev e : Bool
  e = has_flag m.t IE

  -- one is accepted exactly where requests and IE select it
  pub accepted_is : (i : Interrupt) → (accepted m ≡ Some i) ↔ Selects i m.ir0 (m.ir1 || m.is_timer_reached) m.ir2 (has_flag m.t IE)
  accepted_is i = (selected_only m.ir0 ir1 m.ir2 e i, selected_accepted m.ir0 ir1 m.ir2 e i)

  -- none is accepted exactly where IR0 is clear, and IE or all other requests are
  pub none_accepted : (accepted m ≡ None) ↔ NoneAccepted m
  none_accepted = (none_only m.ir0 ir1 m.ir2 e, λ n. none_by m.ir0 ir1 m.ir2 e n.0 n.1)
