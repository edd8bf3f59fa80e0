-- The answers of the C functions that the comparison with the original calls: the definitions of `arithmetic`, put into one number.
use Rattle.std.specs.Prelude.{ℕ, ◌+◌, ◌*◌, Bool, true, false, List, [], ◌∷◌, get_or}
use Rattle.arithmetic.specs.declared.record.Lh5801.{Lh5801}
use Rattle.arithmetic.specs.declared.Sum.{Sum}
use Rattle.arithmetic.specs.declared.Moved.{Moved}
use Rattle.arithmetic.specs.Flags.{check_z}
use Rattle.arithmetic.specs.Sums.{add_of, adc_of, sbc_of, cpa_of, inc_of, dec_of, adr_of}
use Rattle.arithmetic.specs.Decimal.{decimal_sum_of, dca_of, dcs_of}
use Rattle.arithmetic.specs.Logic.{lda_of, and_of, ora_of, eor_of, bit_test_of, tta_of}
use Rattle.arithmetic.specs.Shifts.{rol_of, ror_of, shl_of, shr_of, aex_of, drl_moved, drr_moved}

-- a record with this A and T, and nothing else set
unfoldable pub blank_of : ℕ → ℕ → Lh5801
blank_of a t =
    record {
      a = a;
      t = t;
      x = 0;
      y = 0;
      u = 0;
      s = 0;
      p = 0;
      is_halted = false;
      pu = false;
      pv = false;
      bf = false;
      disp = false;
      tm = 0;
      ir0 = false;
      ir1 = false;
      ir2 = false;
      is_timer_reached = false;
      timer_state = 0;
      step_previous_state = 0;
      ticks = 0;
    }

-- a byte beside A and T
abbrev pub packed : ℕ → ℕ → ℕ → ℕ
packed byte a t = byte * 65536 + a * 256 + t

abbrev pub of_record : Lh5801 → ℕ
of_record m = packed 0 m.a m.t

abbrev pub of_sum : ℕ → Sum ℕ → ℕ
of_sum byte s = packed byte s.value s.t

abbrev pub of_moved : ℕ → Moved → ℕ
of_moved t m = packed m.byte m.a t

-- the functions in the order of their numbers, from 0, on A, T and an operand
abbrev pub answers : ℕ → ℕ → ℕ → List ℕ
answers a t d =
    of_record (adc_of (blank_of a t) d)
    ∷ of_record (sbc_of (blank_of a t) d)
    ∷ of_record (cpa_of (blank_of a t) a d)
    ∷ of_record (dca_of (blank_of a t) d)
    ∷ of_record (dcs_of (blank_of a t) d)
    ∷ of_record (and_of (blank_of a t) d)
    ∷ of_record (ora_of (blank_of a t) d)
    ∷ of_record (eor_of (blank_of a t) d)
    ∷ of_record (bit_test_of (blank_of a t) a d)
    ∷ of_record (lda_of (blank_of a t) d)
    ∷ of_sum 0 (inc_of t a)
    ∷ of_sum 0 (dec_of t a)
    ∷ of_record (rol_of (blank_of a t))
    ∷ of_record (ror_of (blank_of a t))
    ∷ of_record (shl_of (blank_of a t))
    ∷ of_record (shr_of (blank_of a t))
    ∷ packed 0 (aex_of a) t
    ∷ of_record (tta_of (blank_of a t))
    ∷ of_moved t (drl_moved a d)
    ∷ of_moved t (drr_moved a d)
    ∷ packed 0 a (check_z t d)
    ∷ []

-- 0 for a number that names no function
unfoldable pub arithmetic_answer : ℕ → ℕ → ℕ → ℕ → ℕ
arithmetic_answer function a t d = get_or (answers a t d) function 0

-- `add_generic`, or `decimaladd_generic`
abbrev pub add_answer : Bool → ℕ → ℕ → ℕ → Bool → ℕ
add_answer false t l r c = of_sum 0 (add_of t l r c)
add_answer true t l r c = of_sum 0 (decimal_sum_of t l r c)

-- the sum's 16 bits beside T
abbrev pub adr_answer : ℕ → ℕ → ℕ → ℕ
adr_answer t reg a = (adr_of t reg a).value * 256 + (adr_of t reg a).t
