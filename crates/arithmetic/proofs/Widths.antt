-- The operations on the registers keep the widths.
use Rattle.std.proofs.Common.{◌≡◌, ℕ, ◌-◌, ◌%◌, ◌<◌, Bool, true, false, eqb, refl, ap, arith, lt_of_le_of_lt}
use lib.Bits.{bit_and, and_le_l, or_lt, xor_lt}
use Rattle.arithmetic.specs.declared.record.Lh5801.{Lh5801}
use Rattle.arithmetic.specs.declared.Sum.{Sum}
use Rattle.arithmetic.specs.Flags.{ZF, set_flag, with_flags}
use Rattle.arithmetic.specs.Logic.{lda_of, and_of, ora_of, eor_of, bit_test_of, tta_of}
use Rattle.arithmetic.specs.Record.{with_a, with_t, with_x, with_y, with_u, with_s, with_p, with_is_halted, with_pu, with_pv, with_bf, with_disp, with_tm, with_ir0, with_ir1, with_ir2, with_is_timer_reached, with_timer_state, with_step_previous_state, with_ticks}
use Rattle.arithmetic.specs.Sums.{add_of, inverted, carry_of, with_sum, adc_of, sbc_of, cpa_of, adr_of}
use Rattle.arithmetic.specs.Decimal.{plus66, decimal_sum_of, dca_sum, dcs_sum, dca_of, dcs_of}
use Rattle.arithmetic.specs.Shifts.{left_of, right_of, looped_of, aex_of, drl_moved, drr_moved}
use Rattle.arithmetic.specs.Widths.{Widths}
use Rattle.arithmetic.proofs.Bytes.{bit_small}

-- ---- bytes

-- T with a flag set or cleared, and with its flags given
pub flag_byte : (t mask : ℕ) → t < 0x100 → mask < 0x100 → (v : Bool) → set_flag t mask v < 0x100
flag_byte t mask h k true = or_lt 8 t mask h k
flag_byte t mask h k false = lt_of_le_of_lt (and_le_l t (255 - mask)) h

flags_byte : (t : ℕ) → t < 0x100 → (c z v h : Bool) → with_flags t c z v h < 0x100
unfolding with_flags
flags_byte t w c z v h = omega (arith, w, bit_small c, bit_small z, bit_small v, bit_small h)

-- a result and its T
abbrev pub SumBytes : Sum ℕ → Type 0
SumBytes s = (s.value < 0x100) × (s.t < 0x100)

pub add_bytes : (t left right : ℕ) (carry : Bool) → t < 0x100 → SumBytes (add_of t left right carry)
unfolding add_of
add_bytes t left right carry h = (omega arith, flags_byte t h _ _ _ _)

decimal_bytes : (t left right : ℕ) (carry : Bool) → t < 0x100 → SumBytes (decimal_sum_of t left right carry)
unfolding decimal_sum_of
decimal_bytes t left right carry h = (omega arith, (add_bytes t left right carry h).1)

-- A's nibbles exchanged, and a byte of memory and A after a move of digits
pub aex_byte : (a : ℕ) → a < 0x100 → aex_of a < 0x100
aex_byte a h = omega arith

pub drl_byte : (a b : ℕ) → a < 0x100 → (drl_moved a b).byte < 0x100
drl_byte a b h = omega arith

pub drr_byte : (a b : ℕ) → b < 0x100 → (drr_moved a b).byte < 0x100
drr_byte a b h = omega arith

-- ---- words

pub looped_word : (u : ℕ) → u < 0x10000 → (looped_of u).u < 0x10000
looped_word u h = omega arith

pub adr_word : (t reg a : ℕ) → t < 0x100 → ((adr_of t reg a).value < 0x10000) × ((adr_of t reg a).t < 0x100)
unfolding adr_of
adr_word t reg a h = (omega (arith, (add_bytes t (reg % 256) a false h).0), h)

-- ---- the record

-- the registers that have widths
record Registers : Type 0 where
  a : ℕ
  t : ℕ
  x : ℕ
  y : ℕ
  u : ℕ
  s : ℕ
  p : ℕ

abbrev registers_of : Lh5801 → Registers
registers_of m = record { a = m.a; t = m.t; x = m.x; y = m.y; u = m.u; s = m.s; p = m.p }

module _ (m : Lh5801) (w : Widths m) where
  -- another value of the same width in a register
  pub widths_a : (v : ℕ) → v < 0x100 → Widths (with_a m v)
  unfolding with_a
  widths_a v h = record { a = h; t = w.t; x = w.x; y = w.y; u = w.u; s = w.s; p = w.p }

  pub widths_t : (v : ℕ) → v < 0x100 → Widths (with_t m v)
  unfolding with_t
  widths_t v h = record { a = w.a; t = h; x = w.x; y = w.y; u = w.u; s = w.s; p = w.p }

  pub widths_x : (v : ℕ) → v < 0x10000 → Widths (with_x m v)
  unfolding with_x
  widths_x v h = record { a = w.a; t = w.t; x = h; y = w.y; u = w.u; s = w.s; p = w.p }

  pub widths_y : (v : ℕ) → v < 0x10000 → Widths (with_y m v)
  unfolding with_y
  widths_y v h = record { a = w.a; t = w.t; x = w.x; y = h; u = w.u; s = w.s; p = w.p }

  pub widths_u : (v : ℕ) → v < 0x10000 → Widths (with_u m v)
  unfolding with_u
  widths_u v h = record { a = w.a; t = w.t; x = w.x; y = w.y; u = h; s = w.s; p = w.p }

  pub widths_s : (v : ℕ) → v < 0x10000 → Widths (with_s m v)
  unfolding with_s
  widths_s v h = record { a = w.a; t = w.t; x = w.x; y = w.y; u = w.u; s = h; p = w.p }

  pub widths_p : (v : ℕ) → v < 0x10000 → Widths (with_p m v)
  unfolding with_p
  widths_p v h = record { a = w.a; t = w.t; x = w.x; y = w.y; u = w.u; s = w.s; p = h }

  -- any other field set
  same_registers : {k : Lh5801} → registers_of k ≡ registers_of m → Widths k
  same_registers e = record {
    a = rw (ap (λ (r : Registers). r.a) e) w.a;
    t = rw (ap (λ (r : Registers). r.t) e) w.t;
    x = rw (ap (λ (r : Registers). r.x) e) w.x;
    y = rw (ap (λ (r : Registers). r.y) e) w.y;
    u = rw (ap (λ (r : Registers). r.u) e) w.u;
    s = rw (ap (λ (r : Registers). r.s) e) w.s;
    p = rw (ap (λ (r : Registers). r.p) e) w.p;
  }

  pub widths_halted : (v : Bool) → Widths (with_is_halted m v)
  unfolding with_is_halted
  widths_halted v = same_registers refl

  pub widths_pu : (v : Bool) → Widths (with_pu m v)
  unfolding with_pu
  widths_pu v = same_registers refl

  pub widths_pv : (v : Bool) → Widths (with_pv m v)
  unfolding with_pv
  widths_pv v = same_registers refl

  pub widths_bf : (v : Bool) → Widths (with_bf m v)
  unfolding with_bf
  widths_bf v = same_registers refl

  pub widths_disp : (v : Bool) → Widths (with_disp m v)
  unfolding with_disp
  widths_disp v = same_registers refl

  pub widths_tm : (v : ℕ) → Widths (with_tm m v)
  unfolding with_tm
  widths_tm v = same_registers refl

  pub widths_ir0 : (v : Bool) → Widths (with_ir0 m v)
  unfolding with_ir0
  widths_ir0 v = same_registers refl

  pub widths_ir1 : (v : Bool) → Widths (with_ir1 m v)
  unfolding with_ir1
  widths_ir1 v = same_registers refl

  pub widths_ir2 : (v : Bool) → Widths (with_ir2 m v)
  unfolding with_ir2
  widths_ir2 v = same_registers refl

  pub widths_reached : (v : Bool) → Widths (with_is_timer_reached m v)
  unfolding with_is_timer_reached
  widths_reached v = same_registers refl

  pub widths_states : (v : ℕ) → Widths (with_timer_state m v)
  unfolding with_timer_state
  widths_states v = same_registers refl

  pub widths_previous : (v : ℕ) → Widths (with_step_previous_state m v)
  unfolding with_step_previous_state
  widths_previous v = same_registers refl

  pub widths_ticks : (v : ℕ) → Widths (with_ticks m v)
  unfolding with_ticks
  widths_ticks v = same_registers refl

  -- T with a flag set or cleared
  pub widths_flag : (mask : ℕ) → mask < 0x100 → (v : Bool) → Widths (with_t m (set_flag m.t mask v))
  widths_flag mask h v = widths_t _ (flag_byte m.t mask w.t h v)

pub widths_sum : (m : Lh5801) → Widths m → (s : Sum ℕ) → SumBytes s → Widths (with_sum m s)
widths_sum m w s h = widths_t (with_a m s.value) (widths_a m w s.value h.0) s.t h.1

pub widths_lda : (m : Lh5801) → Widths m → (d : ℕ) → d < 0x100 → Widths (lda_of m d)
unfolding lda_of
widths_lda m w d h = widths_t (with_a m d) (widths_a m w d h) _ (flag_byte m.t ZF w.t (omega arith) (eqb d 0))

-- each operation
module _ (m : Lh5801) (w : Widths m) where
  pub widths_adc : (d : ℕ) → Widths (adc_of m d)
  unfolding adc_of
  widths_adc d = widths_sum m w _ (add_bytes m.t m.a d (carry_of m) w.t)

  pub widths_sbc : (d : ℕ) → Widths (sbc_of m d)
  unfolding sbc_of
  widths_sbc d = widths_sum m w _ (add_bytes m.t m.a (inverted d) (carry_of m) w.t)

  pub widths_cpa : (l d : ℕ) → Widths (cpa_of m l d)
  unfolding cpa_of
  widths_cpa l d = widths_t m w _ (add_bytes m.t l (inverted d) true w.t).1

  pub widths_dca : (d : ℕ) → Widths (dca_of m d)
  unfolding dca_of dca_sum
  widths_dca d = widths_sum m w _ (decimal_bytes m.t (plus66 m.a) d (carry_of m) w.t)

  pub widths_dcs : (d : ℕ) → Widths (dcs_of m d)
  unfolding dcs_of dcs_sum
  widths_dcs d = widths_sum m w _ (decimal_bytes m.t m.a (inverted d) (carry_of m) w.t)

  pub widths_and : (d : ℕ) → Widths (and_of m d)
  unfolding and_of
  widths_and d = widths_lda m w _ (lt_of_le_of_lt (and_le_l m.a d) w.a)

  pub widths_ora : (d : ℕ) → d < 0x100 → Widths (ora_of m d)
  unfolding ora_of
  widths_ora d h = widths_lda m w _ (or_lt 8 m.a d w.a h)

  pub widths_eor : (d : ℕ) → d < 0x100 → Widths (eor_of m d)
  unfolding eor_of
  widths_eor d h = widths_lda m w _ (xor_lt 8 m.a d w.a h)

  pub widths_bit : (l r : ℕ) → Widths (bit_test_of m l r)
  unfolding bit_test_of
  widths_bit l r = widths_flag m w ZF (omega arith) (eqb (bit_and l r) 0)

  pub widths_left : (low : Bool) → Widths (left_of m low)
  unfolding left_of
  widths_left low = widths_sum m w (record { value = _; t = _ }) (omega (arith, bit_small low), flags_byte m.t w.t _ _ _ _)

  pub widths_right : (high : Bool) → Widths (right_of m high)
  unfolding right_of
  widths_right high = widths_sum m w (record { value = _; t = _ }) (omega (arith, w.a, bit_small high), flags_byte m.t w.t _ _ _ _)

  pub widths_tta : Widths (tta_of m)
  unfolding tta_of
  widths_tta = let once : Lh5801 = lda_of m m.t in widths_flag once (widths_lda m w m.t w.t) ZF (omega arith) (eqb once.t 0)
