-- What each instruction kind does: a `do` block over accesses for each, in the order of the arm's own accesses. The states that the opcode
-- table prints are added after this (Step.antt); only what a taken branch, LOP or vector adds is added here.
use Rattle.std.specs.Prelude.{ℕ, ◌+◌, ◌-◌, ◌%◌, ◌^◌, Bool, true, false, cond, not, bit_and, bit_or}
use Rattle.arithmetic.specs.declared.record.Lh5801.{Lh5801}
use Rattle.execution.specs.declared.Inputs.{Inputs}
use Rattle.arithmetic.specs.declared.Sum.{Sum}
use Rattle.arithmetic.specs.Record.{with_a, with_t, with_x, with_y, with_u, with_s, with_p, with_is_halted, with_pu, with_pv, with_bf, with_disp, with_tm, with_step_previous_state}
use Rattle.arithmetic.specs.Flags.{CF, IE, ZF, VF, HF, has_flag, set_flag, check_z}
use Rattle.arithmetic.specs.Sums.{add_of, with_sum, adc_of, sbc_of, cpa_of, inc_of, dec_of, adr_of}
use Rattle.arithmetic.specs.Decimal.{dca_of, dcs_of}
use Rattle.arithmetic.specs.Logic.{lda_of, and_of, ora_of, eor_of, bit_test_of, tta_of}
use Rattle.arithmetic.specs.Shifts.{rol_of, ror_of, shl_of, shr_of, looped_of, aex_of, drl_moved, drr_moved}
use Rattle.pages.specs.Prog.{Prog, done, read, write, ◌>>=◌}
use Rattle.pages.specs.Stack.{up16, down16, readop_of, readop_word_of, mem16_of, push_of, push_word_of, pop_of, pop_word_of}
use Rattle.pages.specs.Timer.{add_state_of}
use Rattle.execution.specs.declared.places.Register.{Register}
use Rattle.execution.specs.declared.places.Half.{Half}
use Rattle.execution.specs.declared.places.Page.{Page}
use Rattle.execution.specs.declared.places.Place.{Place}
use Rattle.execution.specs.declared.places.Place.TheVariants.{InHalf, Pointer, Fixed, InCode}
use Rattle.execution.specs.declared.instructions.Operation.{Operation}
use Rattle.execution.specs.declared.instructions.Operation.TheVariants.{Sbc, Adc, Lda, Cpa, And, Ora, Dcs, Dca, Eor, Bit}
use Rattle.execution.specs.declared.instructions.Change.{Change}
use Rattle.execution.specs.declared.instructions.Change.TheVariants.{Ani, Ori, Adi}
use Rattle.execution.specs.declared.instructions.Condition.{Condition}
use Rattle.execution.specs.declared.instructions.Condition.TheVariants.{NoCarry, Carry, NoHalfCarry, HalfCarry, NotZero, Zero, NoOverflow, Overflow, Always}
use Rattle.execution.specs.declared.instructions.Word.{Word}
use Rattle.execution.specs.declared.instructions.Word.TheVariants.{Of, S, P}
use Rattle.execution.specs.declared.instructions.Accumulator.{Accumulator}
use Rattle.execution.specs.declared.instructions.Accumulator.TheVariants.{IncA, DecA, Ror, Shr, Shl, Rol, Aex, Tta, Att, Ita, Am0, Am1}
use Rattle.execution.specs.declared.instructions.Signal.{Signal}
use Rattle.execution.specs.declared.instructions.Signal.TheVariants.{Pu, Pv, Disp, CarryFlag, InterruptEnable}
use Rattle.execution.specs.declared.instructions.Direction.{Direction}
use Rattle.execution.specs.declared.instructions.Direction.TheVariants.{Forward, Backward}
use Rattle.execution.specs.declared.instructions.Instruction.{Instruction}
use Rattle.execution.specs.declared.instructions.Instruction.TheVariants.{Alu, Sta, Memory, Bii, Drr, Drl, Load, Compare, Inc, Dec, IncWord, DecWord, Sin, Sde, Lin, Lde, Branch, Lop, VectorIf, Vector, Jmp, Sjp, Rtn, Rti, LoadS, Tin, Cin, OnA, Sets, PopWord, PushWord, PopA, PushA, ToX, FromX, DropWord, Adr, Off, Hlt, Cdv, Nop}
use Rattle.execution.specs.Places.{word_in, with_word, half_in, with_half, address_of, locate_of, operand_of}

-- A with an operand: SBC ADC LDA CPA AND ORA DCS DCA EOR BIT
abbrev pub operated : Lh5801 → Operation → ℕ → Lh5801
operated m Sbc v = sbc_of m v
operated m Adc v = adc_of m v
operated m Lda v = lda_of m v
operated m Cpa v = cpa_of m m.a v
operated m And v = and_of m v
operated m Ora v = ora_of m v
operated m Dcs v = dcs_of m v
operated m Dca v = dca_of m v
operated m Eor v = eor_of m v
operated m Bit v = bit_test_of m m.a v

unfoldable pub alu_of : Lh5801 → Operation → Place → Prog Lh5801
alu_of m o place = do
  f ← operand_of m place
  done (operated (with_p m f.p) o f.value)

-- A to memory
unfoldable pub store_of : Lh5801 → Place → Prog Lh5801
store_of m place = do
  l ← locate_of m place
  _ ← write l.value m.a
  done (with_p m l.p)

-- STA: to a half, or to memory
unfoldable pub sta_of : Lh5801 → Place → Prog Lh5801
sta_of m (InHalf h) = done (with_half m h m.a)
sta_of m (Pointer page r) = store_of m (Pointer page r)
sta_of m (Fixed page) = store_of m (Fixed page)
sta_of m InCode = store_of m InCode

-- a memory byte with an immediate, and T: ANI, ORI and ADI
abbrev pub changed_of : ℕ → Change → ℕ → ℕ → Sum ℕ
changed_of t Ani b v = record { value = bit_and b v; t = check_z t (bit_and b v) }
changed_of t Ori b v = record { value = bit_or b v; t = check_z t (bit_or b v) }
changed_of t Adi b v = add_of t b v false

-- address, immediate, read, write
unfoldable pub memory_of : Lh5801 → Change → Place → Prog Lh5801
memory_of m o place = do
  l ← locate_of m place
  i ← readop_of l.p
  b ← read l.value
  _ ← write l.value (changed_of m.t o b i.value).value
  done (with_t (with_p m i.p) (changed_of m.t o b i.value).t)

-- BII reads the memory byte before the immediate
unfoldable pub bii_of : Lh5801 → Place → Prog Lh5801
bii_of m place = do
  l ← locate_of m place
  mem ← read l.value
  imm ← readop_of l.p
  done (bit_test_of (with_p m imm.p) mem imm.value)

-- DRR and DRL: the byte at X is read, the moved one written there, and A is the byte that was read. They have no operand in the code, so
-- P stays after the opcode
unfoldable pub drr_of : Lh5801 → Page → Prog Lh5801
drr_of m page = do
  b ← read (address_of m.x page)
  _ ← write (address_of m.x page) (drr_moved m.a b).byte
  done (with_a m (drr_moved m.a b).a)

unfoldable pub drl_of : Lh5801 → Page → Prog Lh5801
drl_of m page = do
  b ← read (address_of m.x page)
  _ ← write (address_of m.x page) (drl_moved m.a b).byte
  done (with_a m (drl_moved m.a b).a)

-- LDI and CPI: a half with the byte in the code
unfoldable pub load_of : Lh5801 → Half → Prog Lh5801
load_of m h = do
  f ← readop_of m.p
  done (with_half (with_p m f.p) h f.value)

unfoldable pub compare_of : Lh5801 → Half → Prog Lh5801
compare_of m h = do
  f ← readop_of m.p
  done (cpa_of (with_p m f.p) (half_in m h) f.value)

-- INC and DEC of a half set C, H, Z and V; of a pair they set none
unfoldable pub inc_half_of : Lh5801 → Half → Lh5801
inc_half_of m h = with_half (with_t m (inc_of m.t (half_in m h)).t) h (inc_of m.t (half_in m h)).value

unfoldable pub dec_half_of : Lh5801 → Half → Lh5801
dec_half_of m h = with_half (with_t m (dec_of m.t (half_in m h)).t) h (dec_of m.t (half_in m h)).value

unfoldable pub inc_word_of : Lh5801 → Register → Lh5801
inc_word_of m r = with_word m r (up16 (word_in m r))

unfoldable pub dec_word_of : Lh5801 → Register → Lh5801
dec_word_of m r = with_word m r (down16 (word_in m r))

-- A stored at a pair or loaded from there, and the pair up or down: SIN SDE LIN LDE
unfoldable pub store_at_of : Lh5801 → Register → Prog Lh5801
store_at_of m r = do
  _ ← write (word_in m r) m.a
  done m

unfoldable pub load_at_of : Lh5801 → Register → Prog Lh5801
load_at_of m r = do
  b ← read (word_in m r)
  done (lda_of m b)

unfoldable pub sin_of : Lh5801 → Register → Prog Lh5801
sin_of m r = do
  k ← store_at_of m r
  done (inc_word_of k r)

unfoldable pub sde_of : Lh5801 → Register → Prog Lh5801
sde_of m r = do
  k ← store_at_of m r
  done (dec_word_of k r)

unfoldable pub lin_of : Lh5801 → Register → Prog Lh5801
lin_of m r = do
  k ← load_at_of m r
  done (inc_word_of k r)

unfoldable pub lde_of : Lh5801 → Register → Prog Lh5801
lde_of m r = do
  k ← load_at_of m r
  done (dec_word_of k r)

-- what a branch or a vector asks of T
abbrev pub holds_of : ℕ → Condition → Bool
holds_of t NoCarry = not (has_flag t CF)
holds_of t Carry = has_flag t CF
holds_of t NoHalfCarry = not (has_flag t HF)
holds_of t HalfCarry = has_flag t HF
holds_of t NotZero = not (has_flag t ZF)
holds_of t Zero = has_flag t ZF
holds_of t NoOverflow = not (has_flag t VF)
holds_of t Overflow = has_flag t VF
holds_of t Always = true

-- "A taken branch adds 2 forward, 3 backward"; p is the address after the operand
abbrev pub branched_of : Lh5801 → ℕ → ℕ → Direction → Lh5801
branched_of m p offset Forward = add_state_of (with_p m ((p + offset) % 0x10000)) 2
branched_of m p offset Backward = add_state_of (with_p m ((p + (0x10000 - offset)) % 0x10000)) 3

-- the operand is read even where the branch is not taken
unfoldable pub branch_of : Lh5801 → Condition → Direction → Prog Lh5801
branch_of m c direction = do
  f ← readop_of m.p
  done (cond (holds_of m.t c) (branched_of m f.p f.value direction) (with_p m f.p))

-- LOP: the operand is read, UL is tested and counted down (`arithmetic`'s `looped_of`), and where it was not 0 the branch goes backward
unfoldable pub lop_of : Lh5801 → Prog Lh5801
lop_of m = do
  f ← readop_of m.p
  done (cond (looped_of m.u).again
      (branched_of (with_u m (looped_of m.u).u) f.p f.value Backward)
      (with_p (with_u m (looped_of m.u).u) f.p))

-- a vector taken: P is pushed, P comes from FF00 + nr, Z is cleared, "and adds 13 states"
unfoldable pub vector_of : Lh5801 → ℕ → Prog Lh5801
vector_of m nr = do
  k ← push_word_of m m.p
  to ← mem16_of (0xFF00 + nr)
  done (add_state_of (with_t (with_p k to) (set_flag m.t ZF false)) 13)

-- "not taken it changes P and states only"
unfoldable pub vector_if_of : Lh5801 → Condition → Prog Lh5801
vector_if_of m c = do
  f ← readop_of m.p
  cond (holds_of m.t c) (vector_of (with_p m f.p) f.value) (done (with_p m f.p))

unfoldable pub jmp_of : Lh5801 → Prog Lh5801
jmp_of m = do
  w ← readop_word_of m.p
  done (with_p m w.value)

-- SJP pushes the address after its operand
unfoldable pub sjp_of : Lh5801 → Prog Lh5801
sjp_of m = do
  w ← readop_word_of m.p
  k ← push_word_of m w.p
  done (with_p k w.value)

unfoldable pub rtn_of : Lh5801 → Prog Lh5801
rtn_of m = do
  w ← pop_word_of m.s
  done (with_s (with_p m w.value) w.s)

-- RTI pops P and then the whole of T
unfoldable pub rti_of : Lh5801 → Prog Lh5801
rti_of m = do
  w ← pop_word_of m.s
  t ← read (up16 w.s)
  done (with_t (with_s (with_p m w.value) (up16 w.s)) t)

unfoldable pub load_sOf : Lh5801 → Prog Lh5801
load_sOf m = do
  w ← readop_word_of m.p
  done (with_p (with_s m w.value) w.p)

-- TIN: the byte at X goes to Y, and both move up
unfoldable pub tin_of : Lh5801 → Prog Lh5801
tin_of m = do
  b ← read m.x
  _ ← write m.y b
  done (with_y (with_x m (up16 m.x)) (up16 m.y))

-- CIN: A is compared with the byte at X, and X moves up
unfoldable pub cin_of : Lh5801 → Prog Lh5801
cin_of m = do
  b ← read m.x
  done (cpa_of (with_x m (up16 m.x)) m.a b)

-- on A alone; `Ita` is FD BA (the keyboard byte is no access), `Att` FD EC, `Am0` and `Am1` set TM's eight low bits from A, and bit 8 to 0 or 1
abbrev pub on_aOf : Lh5801 → Accumulator → ℕ → Lh5801
on_aOf m IncA key = with_sum m (inc_of m.t m.a)
on_aOf m DecA key = with_sum m (dec_of m.t m.a)
on_aOf m Ror key = ror_of m
on_aOf m Shr key = shr_of m
on_aOf m Shl key = shl_of m
on_aOf m Rol key = rol_of m
on_aOf m Aex key = with_a m (aex_of m.a)
on_aOf m Tta key = tta_of m
on_aOf m Att key = with_t m (bit_and m.a 0x1F)
on_aOf m Ita key = lda_of m key
on_aOf m Am0 key = with_tm m (m.a % 0x100)
on_aOf m Am1 key = with_tm m (m.a % 0x100 + 0x100)

-- lines and flags
abbrev pub signal_of : Lh5801 → Signal → Bool → Lh5801
signal_of m Pu v = with_pu m v
signal_of m Pv v = with_pv m v
signal_of m Disp v = with_disp m v
signal_of m CarryFlag v = with_t m (set_flag m.t CF v)
signal_of m InterruptEnable v = with_t m (set_flag m.t IE v)

unfoldable pub pop_to_of : Lh5801 → Register → Prog Lh5801
pop_to_of m r = do
  w ← pop_word_of m.s
  done (with_word (with_s m w.s) r w.value)

unfoldable pub push_from_of : Lh5801 → Register → Prog Lh5801
push_from_of m r = push_word_of m (word_in m r)

-- X from another register, and another from X
abbrev pub to_xOf : Lh5801 → Word → Lh5801
to_xOf m (Of r) = with_x m (word_in m r)
to_xOf m S = with_x m m.s
to_xOf m P = with_x m m.p

abbrev pub from_xOf : Lh5801 → Word → Lh5801
from_xOf m (Of r) = with_word m r m.x
from_xOf m S = with_s m m.x
from_xOf m P = with_p m m.x

unfoldable pub adr_in_of : Lh5801 → Register → Lh5801
adr_in_of m r = with_word (with_t m (adr_of m.t (word_in m r) m.a).t) r (adr_of m.t (word_in m r) m.a).value

-- CDV: previous becomes the timer states with this instruction's 8 states counted
unfoldable pub cdv_of : Lh5801 → Lh5801
cdv_of m = with_step_previous_state m ((m.timer_state + 8) % 2 ^ 64)

-- FD 3A: S + 2, with no reads
unfoldable pub drop_word_of : Lh5801 → Lh5801
drop_word_of m = with_s m ((m.s + 2) % 0x10000)

-- what an instruction does; P stands after the opcode
unfoldable pub execute_of : Lh5801 → Inputs → Instruction → Prog Lh5801
execute_of m inputs (Alu o place) = alu_of m o place
execute_of m inputs (Sta place) = sta_of m place
execute_of m inputs (Memory o place) = memory_of m o place
execute_of m inputs (Bii place) = bii_of m place
execute_of m inputs (Drr page) = drr_of m page
execute_of m inputs (Drl page) = drl_of m page
execute_of m inputs (Load h) = load_of m h
execute_of m inputs (Compare h) = compare_of m h
execute_of m inputs (Inc h) = done (inc_half_of m h)
execute_of m inputs (Dec h) = done (dec_half_of m h)
execute_of m inputs (IncWord r) = done (inc_word_of m r)
execute_of m inputs (DecWord r) = done (dec_word_of m r)
execute_of m inputs (Sin r) = sin_of m r
execute_of m inputs (Sde r) = sde_of m r
execute_of m inputs (Lin r) = lin_of m r
execute_of m inputs (Lde r) = lde_of m r
execute_of m inputs (Branch direction c) = branch_of m c direction
execute_of m inputs Lop = lop_of m
execute_of m inputs (VectorIf c) = vector_if_of m c
execute_of m inputs (Vector nr) = vector_of m nr
execute_of m inputs Jmp = jmp_of m
execute_of m inputs Sjp = sjp_of m
execute_of m inputs Rtn = rtn_of m
execute_of m inputs Rti = rti_of m
execute_of m inputs LoadS = load_sOf m
execute_of m inputs Tin = tin_of m
execute_of m inputs Cin = cin_of m
execute_of m inputs (OnA o) = done (on_aOf m o inputs.keyboard)
execute_of m inputs (Sets s v) = done (signal_of m s v)
execute_of m inputs (PopWord r) = pop_to_of m r
execute_of m inputs (PushWord r) = push_from_of m r
execute_of m inputs PopA = pop_of m
execute_of m inputs PushA = push_of m m.a
execute_of m inputs (ToX w) = done (to_xOf m w)
execute_of m inputs (FromX w) = done (from_xOf m w)
execute_of m inputs DropWord = done (drop_word_of m)
execute_of m inputs (Adr r) = done (adr_in_of m r)
execute_of m inputs Off = done (with_bf m false)
execute_of m inputs Hlt = done (with_is_halted m true)
execute_of m inputs Cdv = done (cdv_of m)
execute_of m inputs Nop = done m
