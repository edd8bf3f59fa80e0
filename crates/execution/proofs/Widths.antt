-- From a record within its widths, on pages that hold bytes: the accesses of a step fit, and so do the record and the pages after it.
use Rattle.std.proofs.Common.{◌≡◌, ℕ, ◌+◌, ◌<◌, Bool, true, false, ◌||◌, T, eqb, refl, arith, lt_of_le_of_lt, ltb→lt}
use lib.Bits.{bit_and, bit_or, and_le_l, or_lt}
use Rattle.std.specs.Prelude.{Option, Some, None}
use Rattle.arithmetic.specs.declared.record.Lh5801.{Lh5801}
use Rattle.arithmetic.specs.Flags.{CF, IE, ZF}
use Rattle.arithmetic.specs.Record.{with_t, with_x, with_u, with_s, with_p, with_ir1, with_is_timer_reached}
use Rattle.arithmetic.specs.Shifts.{looped_of}
use Rattle.arithmetic.specs.Sums.{carry_of}
use Rattle.arithmetic.specs.Widths.{Widths}
use Rattle.arithmetic.proofs.Widths.{flag_byte, SumBytes, add_bytes, aex_byte, drl_byte, drr_byte, looped_word, adr_word, widths_a, widths_t, widths_x, widths_y, widths_u, widths_s, widths_p, widths_halted, widths_pu, widths_pv, widths_bf, widths_disp, widths_tm, widths_ir0, widths_ir1, widths_ir2, widths_reached, widths_previous, widths_flag, widths_sum, widths_lda, widths_adc, widths_sbc, widths_cpa, widths_dca, widths_dcs, widths_and, widths_ora, widths_eor, widths_bit, widths_left, widths_right, widths_tta}
use Rattle.pages.specs.Pages.{Pages}
use Rattle.pages.specs.Prog.{exec}
use Rattle.pages.specs.Timer.{add_state_of}
use Rattle.pages.specs.Widths.{AllBytes}
use Rattle.pages.specs.declared.Code.{Code}
use Rattle.pages.proofs.Widths.{InWidth, RanInWidth, width_exec, width_bind, width_read, width_write, Coded, width_readop, width_readop_word, width_mem16, width_pop_word, width_push, width_pop, width_push_word, width_accept, widths_add_state, widths_timer_part}
use Rattle.execution.specs.declared.Inputs.{Inputs}
use Rattle.execution.specs.declared.Opcode.{Opcode}
use Rattle.execution.specs.declared.places.Register.{Register}
use Rattle.execution.specs.declared.places.Register.TheVariants.{X, Y, U}
use Rattle.execution.specs.declared.places.Half.{Half}
use Rattle.execution.specs.declared.places.Half.TheVariants.{High, Low, Missing}
use Rattle.execution.specs.declared.places.Page.{Page}
use Rattle.execution.specs.declared.places.Page.TheVariants.{Me0, Me1}
use Rattle.execution.specs.declared.places.Place.{Place}
use Rattle.execution.specs.declared.places.Place.TheVariants.{InHalf, Pointer, Fixed, InCode}
use Rattle.execution.specs.declared.instructions.Operation.{Operation}
use Rattle.execution.specs.declared.instructions.Operation.TheVariants.{Sbc, Adc, Lda, Cpa, And, Ora, Dcs, Dca, Eor, Bit}
use Rattle.execution.specs.declared.instructions.Change.{Change}
use Rattle.execution.specs.declared.instructions.Change.TheVariants.{Ani, Ori, Adi}
use Rattle.execution.specs.declared.instructions.Word.{Word}
use Rattle.execution.specs.declared.instructions.Word.TheVariants.{Of, S, P}
use Rattle.execution.specs.declared.instructions.Accumulator.{Accumulator}
use Rattle.execution.specs.declared.instructions.Accumulator.TheVariants.{IncA, DecA, Ror, Shr, Shl, Rol, Aex, Tta, Att, Ita, Am0, Am1}
use Rattle.execution.specs.declared.instructions.Signal.{Signal}
use Rattle.execution.specs.declared.instructions.Signal.TheVariants.{Pu, Pv, Disp, CarryFlag, InterruptEnable}
use Rattle.execution.specs.declared.instructions.Direction.{Direction}
use Rattle.execution.specs.declared.instructions.Direction.TheVariants.{Forward, Backward}
use Rattle.execution.specs.declared.instructions.Instruction.{Instruction}
use Rattle.execution.specs.declared.instructions.Instruction.TheVariants.{Alu, Sta, Memory, Bii, Drr, Drl, Load, Compare, Inc, Dec, IncWord, DecWord, Sin, Sde, Lin, Lde, Branch, Lop, VectorIf, Vector, Jmp, Sjp, Rtn, Rti, LoadS, Tin, Cin, OnA, Sets, PopWord, PushWord, PopA, PushA, ToX, FromX, DropWord, Adr, Off, Hlt, Cdv, Nop}
use Rattle.execution.specs.declared.instructions.Listed.{Listed}
use Rattle.execution.specs.Places.{word_in, with_word, half_in, with_half, address_of, locate_of, operand_of}
use Rattle.execution.specs.Instructions.{operated, changed_of, alu_of, store_of, sta_of, memory_of, bii_of, drr_of, drl_of, load_of, compare_of, inc_half_of, dec_half_of, inc_word_of, dec_word_of, store_at_of, load_at_of, sin_of, sde_of, lin_of, lde_of, holds_of, branched_of, branch_of, lop_of, vector_of, vector_if_of, jmp_of, sjp_of, rtn_of, rti_of, load_sOf, tin_of, cin_of, on_aOf, signal_of, pop_to_of, push_from_of, to_xOf, from_xOf, adr_in_of, cdv_of, drop_word_of, execute_of}
use Rattle.execution.specs.declared.interrupts.Interrupt.{Interrupt}
use Rattle.execution.specs.declared.interrupts.Interrupt.TheVariants.{Ir0, Ir1, Ir2}
use Rattle.execution.specs.Interrupts.{accepted, cleared, vector_address}
use Rattle.execution.specs.Step.{StepEnd, decoded_by, fetch_of, decoded_step_of, instruction_of, interrupt_of, reached_of, powered_of, step_of}
use Rattle.execution.proofs.Choices.{cond_both}
use Rattle.execution.proofs.Listed.{vector_fits, listed_vectors}
use Rattle.execution.proofs.Ways.{Did, powered_ways, step_ways}
use Rattle.execution.proofs.TimerReached.{reached_fields}

address_fits : (v : ℕ) → v < 0x10000 → (page : Page) → address_of v page < 0x20000
address_fits v h Me0 = omega (arith, h)
address_fits v h Me1 = omega (arith, h)

-- a memory byte with an immediate, and T
changed_bytes : (t : ℕ) (o : Change) (b v : ℕ) → t < 0x100 → b < 0x100 → v < 0x100 → SumBytes (changed_of t o b v)
changed_bytes t Ani b v h k l = (lt_of_le_of_lt (and_le_l b v) k, flag_byte t ZF h (omega arith) (eqb (bit_and b v) 0))
changed_bytes t Ori b v h k l = (or_lt 8 b v k l, flag_byte t ZF h (omega arith) (eqb (bit_or b v) 0))
changed_bytes t Adi b v h k l = add_bytes t b v false h

module _ (m : Lh5801) (w : Widths m) where
  -- ---- register pairs, halves and places

  word_fits : (r : Register) → word_in m r < 0x10000
  word_fits X = w.x
  word_fits Y = w.y
  word_fits U = w.u

  widths_word : (r : Register) (v : ℕ) → v < 0x10000 → Widths (with_word m r v)
  widths_word X v h = widths_x m w v h
  widths_word Y v h = widths_y m w v h
  widths_word U v h = widths_u m w v h

  half_fits : (h : Half) → half_in m h < 0x100
  half_fits (High r) = omega (arith, word_fits r)
  half_fits (Low r) = omega arith
  half_fits Missing = omega arith

  widths_half : (h : Half) (v : ℕ) → v < 0x100 → Widths (with_half m h v)
  widths_half (High r) v l = widths_word r _ (omega (arith, l))
  widths_half (Low r) v l = widths_word r _ (omega (arith, word_fits r, l))
  widths_half Missing v l = w

  pointer_fits : (page : Page) (r : Register) → address_of (word_in m r) page < 0x20000
  pointer_fits page r = address_fits _ (word_fits r) page

  width_located : (place : Place) → InWidth (Coded 0x20000) (locate_of m place)
  unfolding locate_of
  width_located (InHalf h) = (omega arith, w.p)
  width_located (Pointer page r) = (pointer_fits page r, w.p)
  width_located (Fixed page) = width_bind _ _ _ _ (width_readop_word m.p w.p) (λ l c. (address_fits _ c.0 page, c.1))
  width_located InCode = (omega arith, w.p)

  width_operand : (place : Place) → InWidth (Coded 0x100) (operand_of m place)
  unfolding operand_of
  width_operand (InHalf h) = (half_fits h, w.p)
  width_operand (Pointer page r) = width_read _ _ _ (pointer_fits page r) (λ b c. (c, w.p))
  width_operand (Fixed page) =
      width_bind _ _ _ _ (width_readop_word m.p w.p) (λ l c. width_read _ _ _ (address_fits _ c.0 page) (λ b d. (d, c.1)))
  width_operand InCode = width_readop m.p w.p

  -- ---- what instructions do to the record

  widths_operated : (o : Operation) (v : ℕ) → v < 0x100 → Widths (operated m o v)
  widths_operated Sbc v h = widths_sbc m w v
  widths_operated Adc v h = widths_adc m w v
  widths_operated Lda v h = widths_lda m w v h
  widths_operated Cpa v h = widths_cpa m w m.a v
  widths_operated And v h = widths_and m w v
  widths_operated Ora v h = widths_ora m w v h
  widths_operated Dcs v h = widths_dcs m w v
  widths_operated Dca v h = widths_dca m w v
  widths_operated Eor v h = widths_eor m w v h
  widths_operated Bit v h = widths_bit m w m.a v

  widths_on_a : (o : Accumulator) (key : ℕ) → key < 0x100 → Widths (on_aOf m o key)
  widths_on_a IncA key h = widths_sum m w _ (add_bytes m.t m.a 1 false w.t)
  widths_on_a DecA key h = widths_sum m w _ (add_bytes m.t m.a 255 false w.t)
  widths_on_a Ror key h = widths_right m w (carry_of m)
  widths_on_a Shr key h = widths_right m w false
  widths_on_a Shl key h = widths_left m w false
  widths_on_a Rol key h = widths_left m w (carry_of m)
  widths_on_a Aex key h = widths_a m w _ (aex_byte m.a w.a)
  widths_on_a Tta key h = widths_tta m w
  widths_on_a Att key h = widths_t m w _ (lt_of_le_of_lt (and_le_l m.a 0x1F) w.a)
  widths_on_a Ita key h = widths_lda m w key h
  widths_on_a Am0 key h = widths_tm m w _
  widths_on_a Am1 key h = widths_tm m w _

  widths_signal : (s : Signal) (v : Bool) → Widths (signal_of m s v)
  widths_signal Pu v = widths_pu m w v
  widths_signal Pv v = widths_pv m w v
  widths_signal Disp v = widths_disp m w v
  widths_signal CarryFlag v = widths_flag m w CF (omega arith) v
  widths_signal InterruptEnable v = widths_flag m w IE (omega arith) v

  widths_to_x : (r : Word) → Widths (to_xOf m r)
  widths_to_x (Of r) = widths_x m w _ (word_fits r)
  widths_to_x S = widths_x m w _ w.s
  widths_to_x P = widths_x m w _ w.p

  widths_from_x : (r : Word) → Widths (from_xOf m r)
  widths_from_x (Of r) = widths_word r _ w.x
  widths_from_x S = widths_s m w _ w.x
  widths_from_x P = widths_p m w _ w.x

  widths_branched : (p offset : ℕ) (direction : Direction) → Widths (branched_of m p offset direction)
  widths_branched p offset Forward = widths_add_state (with_p m _) (widths_p m w _ (omega arith)) 2
  widths_branched p offset Backward = widths_add_state (with_p m _) (widths_p m w _ (omega arith)) 3

  widths_inc_word : (r : Register) → Widths (inc_word_of m r)
  unfolding inc_word_of
  widths_inc_word r = widths_word r _ (omega arith)

  widths_dec_word : (r : Register) → Widths (dec_word_of m r)
  unfolding dec_word_of
  widths_dec_word r = widths_word r _ (omega arith)

  -- ---- what instructions do on the bus

  width_store : (place : Place) → InWidth Widths (store_of m place)
  unfolding store_of
  width_store place = width_bind _ _ _ _ (width_located place) (λ l c. width_write _ _ _ _ (c.0, w.a) (widths_p m w l.p c.1))

  width_sta : (place : Place) → InWidth Widths (sta_of m place)
  unfolding sta_of
  width_sta (InHalf h) = widths_half h m.a w.a
  width_sta (Pointer page r) = width_store (Pointer page r)
  width_sta (Fixed page) = width_store (Fixed page)
  width_sta InCode = width_store InCode

  width_store_at : (r : Register) → InWidth Widths (store_at_of m r)
  unfolding store_at_of
  width_store_at r = width_write _ _ _ _ (omega (arith, word_fits r), w.a) w

  width_load_at : (r : Register) → InWidth Widths (load_at_of m r)
  unfolding load_at_of
  width_load_at r = width_read _ _ _ (omega (arith, word_fits r)) (λ b c. widths_lda m w b c)

  width_vector : (nr : ℕ) → nr < 0x100 → InWidth Widths (vector_of m nr)
  unfolding vector_of
  width_vector nr h =
      width_bind _ _ _ _ (width_push_word m w m.p w.p)
      (λ k x. width_bind _ _ _ _ (width_mem16 _ (omega (arith, h)))
      (λ to l. widths_add_state (with_t (with_p k to) _)
      (widths_t (with_p k to) (widths_p k x to l) _ (flag_byte m.t ZF w.t (omega arith) false)) 13))

-- an instruction, by its kind; a vector that the opcode names has a byte as its number
width_executed : (m : Lh5801) → Widths m → (inputs : Inputs) → inputs.keyboard < 0x100
    → (i : Instruction) → T (vector_fits i) → InWidth Widths (execute_of m inputs i)
unfolding execute_of alu_of memory_of bii_of drr_of drl_of load_of compare_of inc_half_of dec_half_of sin_of sde_of lin_of lde_of branch_of lop_of vector_if_of jmp_of sjp_of rtn_of rti_of load_sOf tin_of cin_of pop_to_of push_from_of adr_in_of cdv_of drop_word_of
width_executed m w inputs byte (Alu o place) v =
    width_bind _ _ _ _ (width_operand m w place) (λ f c. widths_operated (with_p m f.p) (widths_p m w f.p c.1) o f.value c.0)
width_executed m w inputs byte (Sta place) v = width_sta m w place
width_executed m w inputs byte (Memory o place) v =
    width_bind _ _ _ _ (width_located m w place)
    (λ l c. width_bind _ _ _ _ (width_readop l.p c.1)
    (λ i d. width_read _ _ _ c.0
    (λ b e.
    let changed = changed_bytes m.t o b i.value w.t e d.0 in
    width_write _ _ _ _ (c.0, changed.0) (widths_t (with_p m i.p) (widths_p m w i.p d.1) _ changed.1))))
width_executed m w inputs byte (Bii place) v =
    width_bind _ _ _ _ (width_located m w place)
    (λ l c. width_read _ _ _ c.0
    (λ b e. width_bind _ _ _ _ (width_readop l.p c.1) (λ i d. widths_bit (with_p m i.p) (widths_p m w i.p d.1) b i.value)))
width_executed m w inputs byte (Drr page) v =
    let at = address_fits m.x w.x page in
    width_read _ _ _ at (λ b c. width_write _ _ _ _ (at, drr_byte m.a b c) (widths_a m w b c))
width_executed m w inputs byte (Drl page) v =
    let at = address_fits m.x w.x page in
    width_read _ _ _ at (λ b c. width_write _ _ _ _ (at, drl_byte m.a b w.a) (widths_a m w b c))
width_executed m w inputs byte (Load h) v =
    width_bind _ _ _ _ (width_readop m.p w.p) (λ f c. widths_half (with_p m f.p) (widths_p m w f.p c.1) h f.value c.0)
width_executed m w inputs byte (Compare h) v =
    width_bind _ _ _ _ (width_readop m.p w.p) (λ f c. widths_cpa (with_p m f.p) (widths_p m w f.p c.1) _ f.value)
width_executed m w inputs byte (Inc h) v =
    let sum = add_bytes m.t (half_in m h) 1 false w.t in
    widths_half (with_t m _) (widths_t m w _ sum.1) h _ sum.0
width_executed m w inputs byte (Dec h) v =
    let sum = add_bytes m.t (half_in m h) 255 false w.t in
    widths_half (with_t m _) (widths_t m w _ sum.1) h _ sum.0
width_executed m w inputs byte (IncWord r) v = widths_inc_word m w r
width_executed m w inputs byte (DecWord r) v = widths_dec_word m w r
width_executed m w inputs byte (Sin r) v = width_bind _ _ _ _ (width_store_at m w r) (λ k x. widths_inc_word k x r)
width_executed m w inputs byte (Sde r) v = width_bind _ _ _ _ (width_store_at m w r) (λ k x. widths_dec_word k x r)
width_executed m w inputs byte (Lin r) v = width_bind _ _ _ _ (width_load_at m w r) (λ k x. widths_inc_word k x r)
width_executed m w inputs byte (Lde r) v = width_bind _ _ _ _ (width_load_at m w r) (λ k x. widths_dec_word k x r)
width_executed m w inputs byte (Branch direction c) v =
    width_bind _ _ _ _ (width_readop m.p w.p)
    (λ f d. cond_both Widths (holds_of m.t c) _ _ (widths_branched m w f.p f.value direction) (widths_p m w f.p d.1))
width_executed m w inputs byte Lop v =
    let counted = widths_u m w (looped_of m.u).u (looped_word m.u w.u) in
    width_bind _ _ _ _ (width_readop m.p w.p)
    (λ f c. cond_both Widths (looped_of m.u).again _ _ (widths_branched (with_u m _) counted f.p f.value Backward) (widths_p (with_u m _) counted f.p c.1))
width_executed m w inputs byte (VectorIf c) v =
    width_bind _ _ _ _ (width_readop m.p w.p)
    (λ f d.
    let next = widths_p m w f.p d.1 in
    cond_both (InWidth Widths) (holds_of m.t c) _ _ (width_vector (with_p m f.p) next f.value d.0) next)
width_executed m w inputs byte (Vector nr) v = width_vector m w nr (ltb→lt nr 0x100 v)
width_executed m w inputs byte Jmp v = width_bind _ _ _ _ (width_readop_word m.p w.p) (λ l c. widths_p m w l.value c.0)
width_executed m w inputs byte Sjp v =
    width_bind _ _ _ _ (width_readop_word m.p w.p)
    (λ l c. width_bind _ _ _ _ (width_push_word m w l.p c.1) (λ k x. widths_p k x l.value c.0))
width_executed m w inputs byte Rtn v =
    width_bind _ _ _ _ (width_pop_word m.s) (λ l c. widths_s (with_p m l.value) (widths_p m w l.value c.0) l.s c.1)
width_executed m w inputs byte Rti v =
    width_bind _ _ _ _ (width_pop_word m.s)
    (λ l c. width_read _ _ _ (omega arith)
    (λ t d. widths_t (with_s (with_p m l.value) _) (widths_s (with_p m l.value) (widths_p m w l.value c.0) _ (omega arith)) t d))
width_executed m w inputs byte LoadS v =
    width_bind _ _ _ _ (width_readop_word m.p w.p) (λ l c. widths_p (with_s m l.value) (widths_s m w l.value c.0) l.p c.1)
width_executed m w inputs byte Tin v =
    width_read _ _ _ (omega (arith, w.x))
    (λ b c. width_write _ _ _ _ (omega (arith, w.y), c) (widths_y (with_x m _) (widths_x m w _ (omega arith)) _ (omega arith)))
width_executed m w inputs byte Cin v =
    width_read _ _ _ (omega (arith, w.x)) (λ b c. widths_cpa (with_x m _) (widths_x m w _ (omega arith)) m.a b)
width_executed m w inputs byte (OnA o) v = widths_on_a m w o inputs.keyboard byte
width_executed m w inputs byte (Sets s b) v = widths_signal m w s b
width_executed m w inputs byte (PopWord r) v =
    width_bind _ _ _ _ (width_pop_word m.s) (λ l c. widths_word (with_s m l.s) (widths_s m w l.s c.1) r l.value c.0)
width_executed m w inputs byte (PushWord r) v = width_push_word m w _ (word_fits m w r)
width_executed m w inputs byte PopA v = width_pop m w
width_executed m w inputs byte PushA v = width_push m w m.a w.a
width_executed m w inputs byte (ToX r) v = widths_to_x m w r
width_executed m w inputs byte (FromX r) v = widths_from_x m w r
width_executed m w inputs byte DropWord v = widths_s m w _ (omega arith)
width_executed m w inputs byte (Adr r) v =
    let sum = adr_word m.t (word_in m r) m.a w.t in
    widths_word (with_t m _) (widths_t m w _ sum.1) r _ sum.0
width_executed m w inputs byte Off v = widths_bf m w false
width_executed m w inputs byte Hlt v = widths_halted m w true
width_executed m w inputs byte Cdv v = widths_previous m w _
width_executed m w inputs byte Nop v = w

-- ---- one step

width_fetch : (p : ℕ) → p < 0x10000 → InWidth (λ (o : Code Opcode). o.p < 0x10000) (fetch_of p)
unfolding fetch_of
width_fetch p h =
    width_bind _ _ _ _ (width_readop p h)
    (λ first c. cond_both (InWidth (λ (o : Code Opcode). o.p < 0x10000)) (eqb first.value 0xFD) _ _
    (width_bind _ _ _ _ (width_readop first.p c.1) (λ second d. d.1)) c.1)

-- a completed step's record is within its widths; of a step that stops nothing is said
abbrev pub EndWidths : StepEnd → Type 0
EndWidths = Did (λ k n kind. Widths k)

module _ (inputs : Inputs) (byte : inputs.keyboard < 0x100) where
  width_decoded : (m : Lh5801) → Widths m → (o : Code Opcode) → o.p < 0x10000 → (d : Option Listed) → decoded_by o.value ≡ d
      → InWidth EndWidths (decoded_step_of m inputs o d)
  unfolding decoded_step_of
  width_decoded m w o h (Some l) e =
      width_bind _ _ _ _ (width_executed (with_p m o.p) (widths_p m w o.p h) inputs byte l.instruction (listed_vectors o.value e))
      (λ k x. widths_timer_part (add_state_of k l.states) (widths_add_state k x l.states))
  width_decoded m w o h None e = tt

  width_instruction : (m : Lh5801) → Widths m → InWidth EndWidths (instruction_of m inputs)
  unfolding instruction_of
  width_instruction m w = width_bind _ _ _ _ (width_fetch m.p w.p) (λ o h. width_decoded m w o h (decoded_by o.value) refl)

  widths_moved : (m : Lh5801) → Widths m → Widths (reached_of m)
  unfolding with_ir1 with_is_timer_reached
  widths_moved m w = rw (reached_fields m) (widths_reached (with_ir1 m (m.ir1 || m.is_timer_reached)) (widths_ir1 m w (m.ir1 || m.is_timer_reached)) false)

  widths_cleared : (m : Lh5801) → Widths m → (i : Interrupt) → Widths (cleared m i)
  widths_cleared m w Ir0 = widths_ir0 m w false
  widths_cleared m w Ir1 = widths_ir1 m w false
  widths_cleared m w Ir2 = widths_ir2 m w false

  interrupt_vector_fits : (i : Interrupt) → vector_address i + 1 < 0x20000
  interrupt_vector_fits Ir0 = omega arith
  interrupt_vector_fits Ir1 = omega arith
  interrupt_vector_fits Ir2 = omega arith

  width_interrupt : (m : Lh5801) → Widths m → (i : Interrupt) → InWidth EndWidths (interrupt_of m i)
  unfolding interrupt_of
  width_interrupt m w i =
      width_bind _ _ _ _ (width_accept (cleared m i) (widths_cleared m w i) (vector_address i) (interrupt_vector_fits i)) (λ k x. widths_timer_part k x)

  width_powered : (m : Lh5801) → Widths m → (a : Option Interrupt) → InWidth EndWidths (powered_of m inputs a)
  width_powered m w a =
      powered_ways (InWidth EndWidths) m inputs a (λ i _. width_interrupt m w i) tt (widths_timer_part (add_state_of m inputs.idle) (widths_add_state m w inputs.idle))
      tt
      (width_instruction m w)

  -- every access of a step fits, the record of a completed one is within its widths, and the pages after it hold bytes
  pub step_widths : (m : Lh5801) → Widths m → (pages : Pages) → AllBytes pages → RanInWidth EndWidths (exec (step_of m inputs) pages)
  step_widths m w =
      width_exec EndWidths (step_of m inputs)
      (step_ways (InWidth EndWidths) m inputs (λ _. widths_add_state m w 8) (λ _. width_powered (reached_of m) (widths_moved m w) (accepted m)))
