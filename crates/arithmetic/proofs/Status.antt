-- What decides whether an instruction is due, and what counts time, over the operations on the registers.
use Rattle.std.proofs.Common.{◌≡◌, ℕ, ◌-◌, ◌*◌, ◌/◌, ◌%◌, Bool, true, false, eqb, sym, refl, ap, ◌∙◌, arith}
use lib.Bits.{bit_and, bit_or, bit_xor, and_high, and_mask, and_shr, and_mod, or_shr, or_mod, or_zero_r}
use Rattle.arithmetic.specs.declared.record.Lh5801.{Lh5801}
use Rattle.arithmetic.specs.declared.Sum.{Sum}
use Rattle.arithmetic.specs.Flags.{CF, IE, ZF, has_flag, set_flag, with_flags}
use Rattle.arithmetic.specs.Logic.{lda_of, and_of, ora_of, eor_of, bit_test_of, tta_of}
use Rattle.arithmetic.specs.Record.{with_a, with_t, with_x, with_y, with_u, with_s, with_p, with_is_halted, with_pu, with_pv, with_bf, with_disp, with_tm, with_is_timer_reached, with_timer_state, with_step_previous_state, with_ticks}
use Rattle.arithmetic.specs.Sums.{add_of, inverted, carry_of, with_sum, adc_of, sbc_of, cpa_of, adr_of}
use Rattle.arithmetic.specs.Decimal.{plus66, decimal_sum_of, dca_sum, dcs_sum, dca_of, dcs_of}
use Rattle.arithmetic.specs.Shifts.{left_of, right_of}
use Rattle.arithmetic.proofs.Bytes.{bit_small}

-- T has the IE of another T
abbrev pub Enabled : ℕ → ℕ → Type 0
Enabled new old = has_flag new IE ≡ has_flag old IE

-- IE is bit 1
bit_enable : (new old : ℕ) → new / 2 % 2 ≡ old / 2 % 2 → Enabled new old
bit_enable new old e =
    let n : bit_and new 2 ≡ new / 2 % 2 * 2 = and_high new 1 1 in
    let o : bit_and old 2 ≡ old / 2 % 2 * 2 = and_high old 1 1 in
    rw (n, o, e)

-- a flag that is another bit, set or cleared
flag_enable : (t mask : ℕ) → mask / 2 % 2 ≡ 0 → (255 - mask) / 2 % 2 ≡ 1 → (v : Bool) → Enabled (set_flag t mask v) t
flag_enable t mask e f true =
    let s : bit_or t mask / 2 ≡ bit_or (t / 2) (mask / 2) = or_shr t mask 1 in
    let l : bit_or (t / 2) (mask / 2) % 2 ≡ bit_or (t / 2 % 2) (mask / 2 % 2) = or_mod (t / 2) (mask / 2) 1 in
    bit_enable (bit_or t mask) t (ap (λ (n : ℕ). n % 2) s ∙ l ∙ ap (bit_or (t / 2 % 2)) e ∙ or_zero_r (t / 2 % 2))
flag_enable t mask e f false =
    let s : bit_and t (255 - mask) / 2 ≡ bit_and (t / 2) ((255 - mask) / 2) = and_shr t (255 - mask) 1 in
    let l : bit_and (t / 2) ((255 - mask) / 2) % 2 ≡ bit_and (t / 2 % 2) ((255 - mask) / 2 % 2) = and_mod (t / 2) ((255 - mask) / 2) 1 in
    let o : bit_and (t / 2 % 2) 1 ≡ t / 2 % 2 % 2 = and_mask (t / 2 % 2) 1 in
    bit_enable (bit_and t (255 - mask)) t (ap (λ (n : ℕ). n % 2) s ∙ l ∙ ap (bit_and (t / 2 % 2)) f ∙ o ∙ omega arith)

pub z_enable : (t : ℕ) (v : Bool) → Enabled (set_flag t ZF v) t
z_enable t = flag_enable t ZF refl refl

pub c_enable : (t : ℕ) (v : Bool) → Enabled (set_flag t CF v) t
c_enable t = flag_enable t CF refl refl

flags_enable : (t : ℕ) (c z v h : Bool) → Enabled (with_flags t c z v h) t
unfolding with_flags
flags_enable t c z v h = bit_enable (with_flags t c z v h) t (omega (arith, bit_small c, bit_small z, bit_small v, bit_small h))

pub add_enable : (t left right : ℕ) (carry : Bool) → Enabled (add_of t left right carry).t t
unfolding add_of
add_enable t left right carry = flags_enable t _ _ _ _

-- BF, halted, the interrupts' lines, timer reached, IE; TM and the ticks
pub record Status : Type 0 where
  pub bf : Bool
  pub halted : Bool
  pub ir0 : Bool
  pub ir1 : Bool
  pub ir2 : Bool
  pub reached : Bool
  pub enabled : Bool
  pub tm : ℕ
  pub ticks : ℕ

abbrev pub status_of : Lh5801 → Status
status_of m = record {
  bf = m.bf;
  halted = m.is_halted;
  ir0 = m.ir0;
  ir1 = m.ir1;
  ir2 = m.ir2;
  reached = m.is_timer_reached;
  enabled = has_flag m.t IE;
  tm = m.tm;
  ticks = m.ticks;
}

-- the status with another TM and timer reached, and with other ticks
abbrev pub with_timer : Status → ℕ → Bool → Status
with_timer s tm reached = record s { tm = tm; reached = reached }

abbrev pub status_with_ticks : Status → ℕ → Status
status_with_ticks s n = record s { ticks = n }

-- k has m's TM and ticks, and IR0 set only where m has it set
pub record Steady (m k : Lh5801) : Type 0 where
  pub tm : k.tm ≡ m.tm
  pub ticks : k.ticks ≡ m.ticks
  pub ir0 : k.ir0 ≡ true → m.ir0 ≡ true

module _ (m : Lh5801) where
  -- setting a register, a line to the outside, or the timer's states keeps the status
  pub keeps_a : (v : ℕ) → status_of (with_a m v) ≡ status_of m
  unfolding with_a
  keeps_a v = refl

  pub keeps_x : (v : ℕ) → status_of (with_x m v) ≡ status_of m
  unfolding with_x
  keeps_x v = refl

  pub keeps_y : (v : ℕ) → status_of (with_y m v) ≡ status_of m
  unfolding with_y
  keeps_y v = refl

  pub keeps_u : (v : ℕ) → status_of (with_u m v) ≡ status_of m
  unfolding with_u
  keeps_u v = refl

  pub keeps_s : (v : ℕ) → status_of (with_s m v) ≡ status_of m
  unfolding with_s
  keeps_s v = refl

  pub keeps_p : (v : ℕ) → status_of (with_p m v) ≡ status_of m
  unfolding with_p
  keeps_p v = refl

  pub keeps_pu : (v : Bool) → status_of (with_pu m v) ≡ status_of m
  unfolding with_pu
  keeps_pu v = refl

  pub keeps_pv : (v : Bool) → status_of (with_pv m v) ≡ status_of m
  unfolding with_pv
  keeps_pv v = refl

  pub keeps_disp : (v : Bool) → status_of (with_disp m v) ≡ status_of m
  unfolding with_disp
  keeps_disp v = refl

  pub keeps_previous : (v : ℕ) → status_of (with_step_previous_state m v) ≡ status_of m
  unfolding with_step_previous_state
  keeps_previous v = refl

  pub keeps_states : (v : ℕ) → status_of (with_timer_state m v) ≡ status_of m
  unfolding with_timer_state
  keeps_states v = refl

  -- TM, timer reached and the ticks are its own parts
  pub status_tm : (v : ℕ) → status_of (with_tm m v) ≡ with_timer (status_of m) v m.is_timer_reached
  unfolding with_tm
  status_tm v = refl

  pub status_reached : (v : Bool) → status_of (with_is_timer_reached m v) ≡ with_timer (status_of m) m.tm v
  unfolding with_is_timer_reached
  status_reached v = refl

  pub status_ticks : (v : ℕ) → status_of (with_ticks m v) ≡ status_with_ticks (status_of m) v
  unfolding with_ticks
  status_ticks v = refl

  -- T keeps it where IE stays; k has m's status already
  pub keeps_t : (k : Lh5801) (v : ℕ) → status_of k ≡ status_of m → Enabled v m.t → status_of (with_t k v) ≡ status_of m
  unfolding with_t
  keeps_t k v s e =
      ap (λ (s : Status). record s { enabled = has_flag v IE }) s ∙ ap (λ (b : Bool). record (status_of m) { enabled = b }) e

  -- and so does each operation
  pub keeps_sum : (s : Sum ℕ) → Enabled s.t m.t → status_of (with_sum m s) ≡ status_of m
  keeps_sum s e = keeps_t (with_a m s.value) s.t (keeps_a s.value) e

  pub keeps_add : (left right : ℕ) (carry : Bool) → status_of (with_sum m (add_of m.t left right carry)) ≡ status_of m
  keeps_add left right carry = keeps_sum (add_of m.t left right carry) (add_enable m.t left right carry)

  pub keeps_adc : (d : ℕ) → status_of (adc_of m d) ≡ status_of m
  unfolding adc_of
  keeps_adc d = keeps_add m.a d (carry_of m)

  pub keeps_sbc : (d : ℕ) → status_of (sbc_of m d) ≡ status_of m
  unfolding sbc_of
  keeps_sbc d = keeps_add m.a (inverted d) (carry_of m)

  pub keeps_cpa : (l d : ℕ) → status_of (cpa_of m l d) ≡ status_of m
  unfolding cpa_of
  keeps_cpa l d = keeps_t m _ refl (add_enable m.t l (inverted d) true)

  pub keeps_dca : (d : ℕ) → status_of (dca_of m d) ≡ status_of m
  unfolding dca_of dca_sum decimal_sum_of
  keeps_dca d = keeps_sum (dca_sum m.t m.a d) (add_enable m.t (plus66 m.a) d (carry_of m))

  pub keeps_dcs : (d : ℕ) → status_of (dcs_of m d) ≡ status_of m
  unfolding dcs_of dcs_sum decimal_sum_of
  keeps_dcs d = keeps_sum (dcs_sum m.t m.a d) (add_enable m.t m.a (inverted d) (carry_of m))

  pub keeps_lda : (d : ℕ) → status_of (lda_of m d) ≡ status_of m
  unfolding lda_of
  keeps_lda d = keeps_t (with_a m d) _ (keeps_a d) (z_enable m.t (eqb d 0))

  pub keeps_and : (d : ℕ) → status_of (and_of m d) ≡ status_of m
  unfolding and_of
  keeps_and d = keeps_lda (bit_and m.a d)

  pub keeps_ora : (d : ℕ) → status_of (ora_of m d) ≡ status_of m
  unfolding ora_of
  keeps_ora d = keeps_lda (bit_or m.a d)

  pub keeps_eor : (d : ℕ) → status_of (eor_of m d) ≡ status_of m
  unfolding eor_of
  keeps_eor d = keeps_lda (bit_xor m.a d)

  pub keeps_bit : (l r : ℕ) → status_of (bit_test_of m l r) ≡ status_of m
  unfolding bit_test_of
  keeps_bit l r = keeps_t m _ refl (z_enable m.t (eqb (bit_and l r) 0))

  pub keeps_left : (low : Bool) → status_of (left_of m low) ≡ status_of m
  unfolding left_of
  keeps_left low = keeps_t (with_a m _) _ (keeps_a _) (flags_enable m.t _ _ _ _)

  pub keeps_right : (high : Bool) → status_of (right_of m high) ≡ status_of m
  unfolding right_of
  keeps_right high = keeps_t (with_a m _) _ (keeps_a _) (flags_enable m.t _ _ _ _)

  pub keeps_tta : status_of (tta_of m) ≡ status_of m
  unfolding tta_of
  keeps_tta =
      let once : Lh5801 = lda_of m m.t in
      keeps_t once _ (keeps_lda m.t) (z_enable once.t (eqb once.t 0) ∙ ap (λ (s : Status). s.enabled) (keeps_lda m.t))

  pub keeps_adr : (reg a : ℕ) → status_of (with_t m (adr_of m.t reg a).t) ≡ status_of m
  unfolding adr_of
  keeps_adr reg a = keeps_t m m.t refl refl

  -- what may change the rest of the status keeps TM and the ticks, and sets no IR0
  pub steady_t : (v : ℕ) → Steady m (with_t m v)
  unfolding with_t
  steady_t v = record { tm = refl; ticks = refl; ir0 = λ e. e }

  pub steady_bf : (v : Bool) → Steady m (with_bf m v)
  unfolding with_bf
  steady_bf v = record { tm = refl; ticks = refl; ir0 = λ e. e }

  pub steady_halted : (v : Bool) → Steady m (with_is_halted m v)
  unfolding with_is_halted
  steady_halted v = record { tm = refl; ticks = refl; ir0 = λ e. e }

  -- P changes neither T nor U
  pub p_keeps : (v : ℕ) → ((with_p m v).t ≡ m.t) × ((with_p m v).u ≡ m.u)
  unfolding with_p
  p_keeps v = (refl, refl)

pub steady_status : (m k : Lh5801) → status_of k ≡ status_of m → Steady m k
steady_status m k e =
    record { tm = ap (λ (s : Status). s.tm) e; ticks = ap (λ (s : Status). s.ticks) e; ir0 = λ h. sym (ap (λ (s : Status). s.ir0) e) ∙ h }

pub steady_then : {l m n : Lh5801} → Steady l m → Steady m n → Steady l n
steady_then p q = record { tm = q.tm ∙ p.tm; ticks = q.ticks ∙ p.ticks; ir0 = λ h. p.ir0 (q.ir0 h) }
