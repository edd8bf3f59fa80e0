-- What an instruction does to TM, to the ticks, and to what decides whether an instruction is due.
use Rattle.std.proofs.Common.{◌≡◌, ℕ, ◌+◌, ◌%◌, ◌^◌, ◌<◌, Bool, true, false, cond, eqb, sym, refl, ap, ◌∙◌, subst, arith}
use mathlib.Core.Bool.{false≢true}
use lib.Bits.{bit_and, bit_or}
use Rattle.arithmetic.specs.declared.record.Lh5801.{Lh5801}
use Rattle.arithmetic.specs.Record.{with_t, with_x, with_s, with_p, with_tm}
use Rattle.arithmetic.specs.Shifts.{looped_of}
use Rattle.arithmetic.specs.Sums.{carry_of}
use Rattle.arithmetic.proofs.Status.{Enabled, z_enable, c_enable, add_enable, Status, status_of, with_timer, status_with_ticks, Steady, keeps_a, keeps_x, keeps_y, keeps_u, keeps_s, keeps_p, keeps_pu, keeps_pv, keeps_disp, keeps_previous, keeps_t, keeps_add, keeps_adc, keeps_sbc, keeps_cpa, keeps_dca, keeps_dcs, keeps_lda, keeps_and, keeps_ora, keeps_eor, keeps_bit, keeps_left, keeps_right, keeps_tta, keeps_adr, status_tm, steady_t, steady_bf, steady_halted, steady_status, steady_then}
use Rattle.pages.specs.Prog.{done}
use Rattle.pages.specs.Stack.{push_of, push_word_of, pop_of}
use Rattle.pages.specs.Timer.{add_state_of}
use Rattle.pages.proofs.Always.{Always, always_bind, always_then, always_map}
use Rattle.pages.proofs.Stack.{push_keeps, push_word_keeps, pop_keeps}
use Rattle.pages.proofs.Timer.{states_status}
use Rattle.execution.specs.declared.Inputs.{Inputs}
use Rattle.execution.specs.declared.places.Register.{Register}
use Rattle.execution.specs.declared.places.Register.TheVariants.{X, Y, U}
use Rattle.execution.specs.declared.places.Half.{Half}
use Rattle.execution.specs.declared.places.Half.TheVariants.{High, Low, Missing}
use Rattle.execution.specs.declared.places.Place.{Place}
use Rattle.execution.specs.declared.places.Place.TheVariants.{InHalf, Pointer, Fixed, InCode}
use Rattle.execution.specs.declared.instructions.Operation.{Operation}
use Rattle.execution.specs.declared.instructions.Operation.TheVariants.{Sbc, Adc, Lda, Cpa, And, Ora, Dcs, Dca, Eor, Bit}
use Rattle.execution.specs.declared.instructions.Change.{Change}
use Rattle.execution.specs.declared.instructions.Change.TheVariants.{Ani, Ori, Adi}
use Rattle.execution.specs.declared.instructions.Condition.{Condition}
use Rattle.execution.specs.declared.instructions.Word.{Word}
use Rattle.execution.specs.declared.instructions.Word.TheVariants.{Of, S, P}
use Rattle.execution.specs.declared.instructions.Accumulator.{Accumulator}
use Rattle.execution.specs.declared.instructions.Accumulator.TheVariants.{IncA, DecA, Ror, Shr, Shl, Rol, Aex, Tta, Att, Ita, Am0, Am1}
use Rattle.execution.specs.declared.instructions.Signal.{Signal}
use Rattle.execution.specs.declared.instructions.Signal.TheVariants.{Pu, Pv, Disp, CarryFlag, InterruptEnable}
use Rattle.execution.specs.declared.instructions.Direction.{Direction}
use Rattle.execution.specs.declared.instructions.Direction.TheVariants.{Forward, Backward}
use Rattle.execution.specs.declared.instructions.Instruction.{Instruction}
use Rattle.execution.specs.declared.instructions.Instruction.TheVariants.{Alu, Sta, Memory, Bii, Drr, Drl, Load, Compare, Inc, Dec, IncWord, DecWord, Sin, Sde, Lin, Lde, Branch, Lop, VectorIf, Vector, Jmp, Sjp, Rtn, Rti, LoadS, Tin, Cin, OnA, Sets, PopWord, PushWord, PopA, PushA, ToX, FromX, DropWord, Adr, Off, Hlt, Cdv, Nop}
use Rattle.execution.specs.Places.{word_in, with_word, with_half}
use Rattle.execution.specs.Instructions.{operated, changed_of, alu_of, store_of, sta_of, memory_of, bii_of, drr_of, drl_of, load_of, compare_of, inc_half_of, dec_half_of, inc_word_of, dec_word_of, store_at_of, load_at_of, sin_of, sde_of, lin_of, lde_of, holds_of, branched_of, branch_of, lop_of, vector_of, vector_if_of, jmp_of, sjp_of, rtn_of, rti_of, load_sOf, tin_of, cin_of, on_aOf, signal_of, pop_to_of, push_from_of, to_xOf, from_xOf, adr_in_of, cdv_of, drop_word_of, execute_of}
use Rattle.execution.specs.States.{amount, branch, added_of}
use Rattle.execution.specs.Code.Due.{due_by, due_of, settled_on_a, settled_signal, settled_of}

-- m before and k after: TM stays at most 511, the ticks gain e, IR0 is set only where it was, and after a settled instruction one is due where it
-- was
pub record Effect (m : Lh5801) (e : ℕ) (settled : Bool) (k : Lh5801) : Type 0 where
  pub small : m.tm < 512 → k.tm < 512
  pub ticks : k.ticks % 2 ^ 64 ≡ (m.ticks + e) % 2 ^ 64
  pub ir0 : k.ir0 ≡ true → m.ir0 ≡ true
  pub due : settled ≡ true → due_of k ≡ due_of m
  pub reached : settled ≡ true → k.is_timer_reached ≡ m.is_timer_reached

-- the test for an instruction goes by the status
abbrev pub due_in : Status → Bool
due_in s = due_by s.bf s.ir0 s.ir1 s.reached s.ir2 s.enabled s.halted

module _ (m : Lh5801) where
  effect : {b : Bool} (k : Lh5801) (tm ticks e : ℕ) → status_of k ≡ status_with_ticks (with_timer (status_of m) tm m.is_timer_reached) ticks
      → (m.tm < 512 → tm < 512)
      → ticks % 2 ^ 64 ≡ (m.ticks + e) % 2 ^ 64
      → Effect m e b k
  effect k tm ticks e s h c =
      record {
        small = λ l. subst (λ (n : ℕ). n < 512) (sym (ap (λ (x : Status). x.tm) s)) (h l);
        ticks = ap (λ (x : Status). x.ticks % 2 ^ 64) s ∙ c;
        ir0 = λ z. sym (ap (λ (x : Status). x.ir0) s) ∙ z;
        due = λ _. ap due_in s;
        reached = λ _. ap (λ (x : Status). x.reached) s;
      }

  -- the status is kept, but for states that pass, and for TM; or the instruction is not settled, and TM and the ticks are kept
  kept : {b : Bool} (k : Lh5801) → status_of k ≡ status_of m → Effect m 0 b k
  kept k s = effect k m.tm m.ticks 0 s (λ l. l) (omega arith)

  added : {b : Bool} (k : Lh5801) (n : ℕ) → status_of k ≡ status_of m → Effect m n b (add_state_of k n)
  added k n s =
      effect (add_state_of k n) m.tm ((m.ticks + n) % 2 ^ 64) n
      (states_status k n ∙ ap (λ (x : Status). status_with_ticks x ((x.ticks + n) % 2 ^ 64)) s) (λ l. l) (omega arith)

  timed : {b : Bool} (v : ℕ) → v < 512 → Effect m 0 b (with_tm m v)
  timed v h = effect (with_tm m v) v m.ticks 0 (status_tm m v) (λ _. h) (omega arith)

  unsettled : (k : Lh5801) → Steady m k → Effect m 0 false k
  unsettled k t =
      record {
        small = λ l. rw t.tm l;
        ticks = omega (arith, t.ticks);
        ir0 = t.ir0;
        due = λ e. absurd (false≢true e);
        reached = λ e. absurd (false≢true e);
      }

  -- either way of a branch
  either : (t : Bool) {e : ℕ} {x y : Lh5801} → Effect m e true x → Effect m 0 true y → Effect m (cond t e 0) true (cond t x y)
  either true f g = f
  either false f g = g

  keeps_word : (r : Register) (w : ℕ) → status_of (with_word m r w) ≡ status_of m
  keeps_word X w = keeps_x m w
  keeps_word Y w = keeps_y m w
  keeps_word U w = keeps_u m w

  keeps_half : (h : Half) (v : ℕ) → status_of (with_half m h v) ≡ status_of m
  keeps_half (High r) v = keeps_word r _
  keeps_half (Low r) v = keeps_word r _
  keeps_half Missing v = refl

  keeps_operated : (o : Operation) (v : ℕ) → status_of (operated m o v) ≡ status_of m
  keeps_operated Sbc v = keeps_sbc m v
  keeps_operated Adc v = keeps_adc m v
  keeps_operated Lda v = keeps_lda m v
  keeps_operated Cpa v = keeps_cpa m m.a v
  keeps_operated And v = keeps_and m v
  keeps_operated Ora v = keeps_ora m v
  keeps_operated Dcs v = keeps_dcs m v
  keeps_operated Dca v = keeps_dca m v
  keeps_operated Eor v = keeps_eor m v
  keeps_operated Bit v = keeps_bit m m.a v

  changed_enable : (o : Change) (b v : ℕ) → Enabled (changed_of m.t o b v).t m.t
  changed_enable Ani b v = z_enable m.t (eqb (bit_and b v) 0)
  changed_enable Ori b v = z_enable m.t (eqb (bit_or b v) 0)
  changed_enable Adi b v = add_enable m.t b v false

  keeps_to_x : (w : Word) → status_of (to_xOf m w) ≡ status_of m
  keeps_to_x (Of r) = keeps_x m _
  keeps_to_x S = keeps_x m _
  keeps_to_x P = keeps_x m _

  keeps_from_x : (w : Word) → status_of (from_xOf m w) ≡ status_of m
  keeps_from_x (Of r) = keeps_word r _
  keeps_from_x S = keeps_s m _
  keeps_from_x P = keeps_p m _

  effect_signal : (s : Signal) (v : Bool) → Effect m 0 (settled_signal s) (signal_of m s v)
  effect_signal Pu v = kept _ (keeps_pu m v)
  effect_signal Pv v = kept _ (keeps_pv m v)
  effect_signal Disp v = kept _ (keeps_disp m v)
  effect_signal CarryFlag v = kept _ (keeps_t m m _ refl (c_enable m.t v))
  effect_signal InterruptEnable v = unsettled _ (steady_t m _)

  effect_on_a : (o : Accumulator) (key : ℕ) → Effect m 0 (settled_on_a o) (on_aOf m o key)
  effect_on_a IncA key = kept _ (keeps_add m m.a 1 false)
  effect_on_a DecA key = kept _ (keeps_add m m.a 255 false)
  effect_on_a Ror key = kept _ (keeps_right m (carry_of m))
  effect_on_a Shr key = kept _ (keeps_right m false)
  effect_on_a Shl key = kept _ (keeps_left m false)
  effect_on_a Rol key = kept _ (keeps_left m (carry_of m))
  effect_on_a Aex key = kept _ (keeps_a m _)
  effect_on_a Tta key = kept _ (keeps_tta m)
  effect_on_a Att key = unsettled _ (steady_t m _)
  effect_on_a Ita key = kept _ (keeps_lda m key)
  effect_on_a Am0 key = timed _ (omega arith)
  effect_on_a Am1 key = timed _ (omega arith)

  effect_branched : (k : Lh5801) → status_of k ≡ status_of m → (p offset : ℕ) (c : Condition) (direction : Direction)
      → Effect m (amount (branch c direction)) true (branched_of k p offset direction)
  effect_branched k s p offset c Forward = added _ 2 (keeps_p k _ ∙ s)
  effect_branched k s p offset c Backward = added _ 3 (keeps_p k _ ∙ s)

  -- a vector, from a record with m's status
  effect_vector : (k : Lh5801) (nr : ℕ) → status_of k ≡ status_of m → Always (Effect m 13 true) (vector_of k nr)
  unfolding vector_of
  effect_vector k nr s =
      always_bind (λ l. status_of l ≡ status_of k) _ (push_word_of k k.p) _ (push_word_keeps k k.p)
      (λ l e. always_then _ _ _ (λ to. added _ 13 (keeps_t k (with_p l to) _ (keeps_p l to ∙ e) (z_enable k.t false) ∙ s)))

  effect_vector_if : (c : Condition) → Always (Effect m (added_of m (VectorIf c)) true) (vector_if_of m c)
  unfolding vector_if_of
  effect_vector_if c = always_then _ _ _ (λ f. go (holds_of m.t c) f.p f.value)
    where
      go : (t : Bool) (p nr : ℕ) → Always (Effect m (cond t 13 0) true) (cond t (vector_of (with_p m p) nr) (done (with_p m p)))
      go true p nr = effect_vector (with_p m p) nr (keeps_p m p)
      go false p nr = kept _ (keeps_p m p)

  effect_store : (place : Place) → Always (Effect m 0 true) (store_of m place)
  unfolding store_of
  effect_store place = always_then _ _ _ (λ l. always_then _ _ _ (λ _. kept _ (keeps_p m _)))

  effect_sta : (place : Place) → Always (Effect m 0 true) (sta_of m place)
  unfolding sta_of
  effect_sta (InHalf h) = kept _ (keeps_half h m.a)
  effect_sta (Pointer page r) = effect_store (Pointer page r)
  effect_sta (Fixed page) = effect_store (Fixed page)
  effect_sta InCode = effect_store InCode

  keeps_store_at : (r : Register) → Always (λ k. status_of k ≡ status_of m) (store_at_of m r)
  unfolding store_at_of
  keeps_store_at r = always_then _ _ _ (λ _. refl)

  keeps_load_at : (r : Register) → Always (λ k. status_of k ≡ status_of m) (load_at_of m r)
  unfolding load_at_of
  keeps_load_at r = always_then _ _ _ (λ b. keeps_lda m b)

-- an instruction, by its kind
pub executed : (m : Lh5801) (inputs : Inputs) (i : Instruction) → Always (Effect m (added_of m i) (settled_of i)) (execute_of m inputs i)
unfolding execute_of alu_of memory_of bii_of drr_of drl_of load_of compare_of inc_half_of dec_half_of inc_word_of dec_word_of sin_of sde_of lin_of lde_of branch_of lop_of jmp_of sjp_of rtn_of rti_of load_sOf tin_of cin_of pop_to_of push_from_of adr_in_of cdv_of drop_word_of
executed m inputs (Alu o place) = always_then _ _ _ (λ f. kept m _ (keeps_operated (with_p m f.p) o f.value ∙ keeps_p m f.p))
executed m inputs (Sta place) = effect_sta m place
executed m inputs (Memory o place) =
    always_then _ _ _ (λ l. always_then _ _ _ (λ i. always_then _ _ _ (λ b. always_then _ _ _
    (λ _. kept m _ (keeps_t m (with_p m i.p) _ (keeps_p m i.p) (changed_enable m o b i.value))))))
executed m inputs (Bii place) =
    always_then _ _ _ (λ l. always_then _ _ _ (λ b. always_then _ _ _ (λ i. kept m _ (keeps_bit (with_p m i.p) _ _ ∙ keeps_p m i.p))))
executed m inputs (Drr page) = always_then _ _ _ (λ b. always_then _ _ _ (λ _. kept m _ (keeps_a m _)))
executed m inputs (Drl page) = always_then _ _ _ (λ b. always_then _ _ _ (λ _. kept m _ (keeps_a m _)))
executed m inputs (Load h) = always_then _ _ _ (λ f. kept m _ (keeps_half (with_p m f.p) h _ ∙ keeps_p m f.p))
executed m inputs (Compare h) = always_then _ _ _ (λ f. kept m _ (keeps_cpa (with_p m f.p) _ _ ∙ keeps_p m f.p))
executed m inputs (Inc h) = kept m _ (keeps_half (with_t m _) h _ ∙ keeps_t m m _ refl (add_enable m.t _ 1 false))
executed m inputs (Dec h) = kept m _ (keeps_half (with_t m _) h _ ∙ keeps_t m m _ refl (add_enable m.t _ 255 false))
executed m inputs (IncWord r) = kept m _ (keeps_word m r _)
executed m inputs (DecWord r) = kept m _ (keeps_word m r _)
executed m inputs (Sin r) = always_bind _ _ _ _ (keeps_store_at m r) (λ k e. kept m _ (keeps_word k r _ ∙ e))
executed m inputs (Sde r) = always_bind _ _ _ _ (keeps_store_at m r) (λ k e. kept m _ (keeps_word k r _ ∙ e))
executed m inputs (Lin r) = always_bind _ _ _ _ (keeps_load_at m r) (λ k e. kept m _ (keeps_word k r _ ∙ e))
executed m inputs (Lde r) = always_bind _ _ _ _ (keeps_load_at m r) (λ k e. kept m _ (keeps_word k r _ ∙ e))
executed m inputs (Branch direction c) =
    always_then _ _ _ (λ f. either m (holds_of m.t c) (effect_branched m m refl f.p f.value c direction) (kept m _ (keeps_p m f.p)))
executed m inputs Lop =
    always_then _ _ _ (λ f. either m (looped_of m.u).again (added m _ 3 (keeps_p _ _ ∙ keeps_u m _)) (kept m _ (keeps_p _ f.p ∙ keeps_u m _)))
executed m inputs (VectorIf c) = effect_vector_if m c
executed m inputs (Vector nr) = effect_vector m m nr refl
executed m inputs Jmp = always_then _ _ _ (λ w. kept m _ (keeps_p m _))
executed m inputs Sjp = always_then _ _ _ (λ w. always_bind _ _ _ _ (push_word_keeps m w.p) (λ k e. kept m _ (keeps_p k _ ∙ e)))
executed m inputs Rtn = always_then _ _ _ (λ w. kept m _ (keeps_s (with_p m w.value) _ ∙ keeps_p m _))
executed m inputs Rti =
    always_then _ _ _ (λ w. always_then _ _ _ (λ t. unsettled m _
    (steady_then (steady_status m (with_s (with_p m w.value) _) (keeps_s (with_p m w.value) _ ∙ keeps_p m _)) (steady_t _ t))))
executed m inputs LoadS = always_then _ _ _ (λ w. kept m _ (keeps_p (with_s m w.value) _ ∙ keeps_s m _))
executed m inputs Tin = always_then _ _ _ (λ b. always_then _ _ _ (λ _. kept m _ (keeps_y (with_x m _) _ ∙ keeps_x m _)))
executed m inputs Cin = always_then _ _ _ (λ b. kept m _ (keeps_cpa (with_x m _) _ _ ∙ keeps_x m _))
executed m inputs (OnA o) = effect_on_a m o inputs.keyboard
executed m inputs (Sets s v) = effect_signal m s v
executed m inputs (PopWord r) = always_then _ _ _ (λ w. kept m _ (keeps_word (with_s m w.s) r _ ∙ keeps_s m _))
executed m inputs (PushWord r) = always_map _ _ (push_word_of m (word_in m r)) (λ k e. kept m k e) (push_word_keeps m (word_in m r))
executed m inputs PopA = always_map _ _ (pop_of m) (λ k e. kept m k e) (pop_keeps m)
executed m inputs PushA = always_map _ _ (push_of m m.a) (λ k e. kept m k e) (push_keeps m m.a)
executed m inputs (ToX w) = kept m _ (keeps_to_x m w)
executed m inputs (FromX w) = kept m _ (keeps_from_x m w)
executed m inputs DropWord = kept m _ (keeps_s m _)
executed m inputs (Adr r) = kept m _ (keeps_word (with_t m _) r _ ∙ keeps_adr m _ _)
executed m inputs Off = unsettled m _ (steady_bf m false)
executed m inputs Hlt = unsettled m _ (steady_halted m true)
executed m inputs Cdv = kept m _ (keeps_previous m _)
executed m inputs Nop = kept m m refl
