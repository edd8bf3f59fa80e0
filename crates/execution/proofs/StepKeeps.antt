-- A completed step keeps TM at most 511, adds its states to the ticks, and sets no IR0.
use Rattle.std.proofs.Common.{◌≡◌, ℕ, ◌+◌, ◌%◌, ◌^◌, ◌<◌, Bool, true, not, eqb, sym, refl, ap, ◌∙◌, add-zero, arith}
use mathlib.Core.Bool.{false≢true}
use Rattle.arithmetic.specs.declared.record.Lh5801.{Lh5801}
use Rattle.execution.specs.declared.Inputs.{Inputs}
use Rattle.arithmetic.specs.Record.{with_p, with_ir0, with_ir1, with_ir2}
use Rattle.arithmetic.proofs.Status.{Status, Steady, p_keeps, keeps_p, steady_status, steady_then}
use Rattle.pages.specs.Pages.{Pages}
use Rattle.pages.specs.Stack.{accept_of}
use Rattle.pages.specs.Prog.{exec}
use Rattle.pages.specs.Timer.{add_state_of, timer_part_of}
use Rattle.pages.proofs.Always.{Always, always_bind, always_then}
use Rattle.pages.proofs.Stack.{accept_steady}
use Rattle.pages.proofs.Timer.{timer_part_small, timer_part_status, states_status, states_tm}
use Rattle.execution.specs.declared.instructions.Instruction.{Instruction}
use Rattle.execution.specs.declared.instructions.Listed.{Listed}
use Rattle.std.specs.Prelude.{Option, Some, None}
use Rattle.pages.specs.declared.Code.{Code}
use Rattle.execution.specs.declared.Opcode.{Opcode}
use Rattle.execution.specs.declared.interrupts.Interrupt.{Interrupt}
use Rattle.execution.specs.declared.interrupts.Interrupt.TheVariants.{Ir0, Ir1, Ir2}
use Rattle.execution.specs.Interrupts.{accepted, cleared, vector_address}
use Rattle.execution.specs.Instructions.{holds_of, execute_of}
use Rattle.execution.specs.States.{Adds, nothing, branch, loop, vector_if, vector, adds_of, taken_from, added_of}
use Rattle.execution.specs.Step.{Kind, StepEnd, did, decoded_by, fetch_of, decoded_step_of, instruction_of, interrupt_of, reached_of, powered_of, step_of}
use Rattle.execution.proofs.Ways.{Did, did_exec, powered_ways, step_ways}
use Rattle.execution.proofs.TimerReached.{reached_fields}
use Rattle.execution.proofs.Effects.{Effect, executed}

taken_any_p : (m : Lh5801) (p : ℕ) (a : Adds) → taken_from (with_p m p) a ≡ taken_from m a
taken_any_p m p nothing = refl
taken_any_p m p (branch c direction) = ap (λ (t : ℕ). holds_of t c) (p_keeps m p).0
taken_any_p m p loop = ap (λ (u : ℕ). not (eqb (u % 256) 0)) (p_keeps m p).1
taken_any_p m p (vector_if c) = ap (λ (t : ℕ). holds_of t c) (p_keeps m p).0
taken_any_p m p vector = refl

-- what an instruction adds does not depend on P
added_any_p : (m : Lh5801) (p : ℕ) (i : Instruction) → added_of (with_p m p) i ≡ added_of m i
added_any_p m p i = rw (taken_any_p m p (adds_of i))

-- an interrupt's request cleared
steady_cleared : (m : Lh5801) (i : Interrupt) → Steady m (cleared m i)
unfolding with_ir0 with_ir1 with_ir2
steady_cleared m Ir0 = record { tm = refl; ticks = refl; ir0 = λ e. absurd (false≢true e) }
steady_cleared m Ir1 = record { tm = refl; ticks = refl; ir0 = λ e. e }
steady_cleared m Ir2 = record { tm = refl; ticks = refl; ir0 = λ e. e }

-- and timer reached moved to IR1
steady_moved : (m : Lh5801) → Steady m (reached_of m)
steady_moved m = rw (reached_fields m) (record { tm = refl; ticks = refl; ir0 = λ e. e })

-- TM, the ticks and IR0 after e states
abbrev Counted : Lh5801 → ℕ → Lh5801 → Type 0
Counted m e k = (m.tm < 512 → k.tm < 512) × (k.ticks % 2 ^ 64 ≡ (m.ticks + e) % 2 ^ 64) × (k.ir0 ≡ true → m.ir0 ≡ true)

-- those of m after a completed step
abbrev CountedEnd : Lh5801 → StepEnd → Type 0
CountedEnd m = Did (λ k n kind. Counted m n k)

module _ (m : Lh5801) (inputs : Inputs) where
  -- over the timer part, over states that pass, from m's own counters, and over an instruction
  counted_timer : (k : Lh5801) (n : ℕ) → Counted m n k → Counted m n (timer_part_of k)
  counted_timer k n h = (
    λ l. timer_part_small k (h.0 l),
    rw (ap (λ (s : Status). s.ticks) (timer_part_status k)) h.1,
    λ z. h.2 (sym (ap (λ (s : Status). s.ir0) (timer_part_status k)) ∙ z),
  )

  counted_states : (k : Lh5801) (n e : ℕ) → Counted m e k → Counted m (n + e) (add_state_of k n)
  counted_states k n e h = (
    λ l. rw states_tm (h.0 l),
    omega (arith, ap (λ (s : Status). s.ticks) (states_status k n), h.1),
    λ z. h.2 (sym (ap (λ (s : Status). s.ir0) (states_status k n)) ∙ z),
  )

  counted_same : (k : Lh5801) → Steady m k → Counted m 0 k
  counted_same k s = (λ l. rw s.tm l, omega (arith, s.ticks), s.ir0)

  counted_effect : (k r : Lh5801) (e : ℕ) (b : Bool) → Steady m k → Effect k e b r → Counted m e r
  counted_effect k r e b s f = (λ l. f.small (rw s.tm l), f.ticks ∙ ap (λ (n : ℕ). (n + e) % 2 ^ 64) s.ticks, λ z. s.ir0 (f.ir0 z))

  -- from a record with m's counters
  counted_interrupt : (k : Lh5801) → Steady m k → (i : Interrupt) → Always (CountedEnd m) (interrupt_of k i)
  unfolding interrupt_of
  counted_interrupt k s i =
      always_bind _ _ (accept_of (cleared k i) (vector_address i)) _ (accept_steady (cleared k i) (vector_address i))
      (λ r t. counted_timer r 0 (counted_same r (steady_then (steady_then s (steady_cleared k i)) t)))

  counted_decoded : (k : Lh5801) → Steady m k → (o : Code Opcode) (d : Option Listed) → Always (CountedEnd m) (decoded_step_of k inputs o d)
  unfolding decoded_step_of
  counted_decoded k s o (Some l) =
      always_bind _ _ (execute_of (with_p k o.p) inputs l.instruction) _ (executed (with_p k o.p) inputs l.instruction)
      (λ r f. counted_timer (add_state_of r l.states) _ (rw (added_any_p k o.p l.instruction) at
      (counted_states r l.states _ (counted_effect (with_p k o.p) r _ _ (steady_then s (steady_status k _ (keeps_p k o.p))) f))))
  counted_decoded k s o None = tt

  counted_instruction : (k : Lh5801) → Steady m k → Always (CountedEnd m) (instruction_of k inputs)
  unfolding instruction_of
  counted_instruction k s = always_then _ (fetch_of k.p) _ (λ o. counted_decoded k s o (decoded_by o.value))

  counted_powered : (k : Lh5801) → Steady m k → (a : Option Interrupt) → Always (CountedEnd m) (powered_of k inputs a)
  counted_powered k s a =
      powered_ways (Always (CountedEnd m)) k inputs a (λ i _. counted_interrupt k s i) tt
      (counted_timer _ inputs.idle (rw add-zero at (counted_states k inputs.idle 0 (counted_same k s))))
      tt
      (counted_instruction k s)

  counted_step : Always (CountedEnd m) (step_of m inputs)
  counted_step =
      step_ways (Always (CountedEnd m)) m inputs (λ _. counted_states m 8 0 (counted_same m (steady_status m m refl)))
      (λ _. counted_powered (reached_of m) (steady_moved m) (accepted m))

-- a completed step keeps TM at most 511
pub step_small : (m : Lh5801) (inputs : Inputs) → m.tm < 512
    → (pages : Pages) (k : Lh5801) (s : ℕ) (kind : Kind)
    → (exec (step_of m inputs) pages).answer ≡ did k s kind
    → k.tm < 512
step_small m inputs small pages k s kind e = (did_exec _ (step_of m inputs) (counted_step m inputs) pages k s kind e).0 small

-- a completed step adds its states to the ticks, on 64 bits
pub step_ticks : (m : Lh5801) (inputs : Inputs) (pages : Pages) (k : Lh5801) (s : ℕ) (kind : Kind)
    → (exec (step_of m inputs) pages).answer ≡ did k s kind
    → k.ticks % 2 ^ 64 ≡ (m.ticks + s) % 2 ^ 64
step_ticks m inputs pages k s kind e = (did_exec _ (step_of m inputs) (counted_step m inputs) pages k s kind e).1

-- a completed step sets no IR0
pub step_ir0 : (m : Lh5801) (inputs : Inputs) (pages : Pages) (k : Lh5801) (s : ℕ) (kind : Kind)
    → (exec (step_of m inputs) pages).answer ≡ did k s kind
    → k.ir0 ≡ true
    → m.ir0 ≡ true
step_ir0 m inputs pages k s kind e = (did_exec _ (step_of m inputs) (counted_step m inputs) pages k s kind e).2
