-- A record as twelve numbers, and back: A T X Y U S P TM flags timer-states previous ticks, in document 01's order ("Campaign file"). The
-- campaign file, the printed line and the C entry all take it from here.
use Rattle.std.specs.Prelude.{ℕ, ◌+◌, ◌-◌, ◌*◌, ◌/◌, ◌%◌, ◌^◌, ◌≤◌, Bool, List, [], ◌∷◌, ◌==◌, slice_index}
use Rattle.arithmetic.specs.declared.record.Lh5801.{Lh5801}
use Rattle.arithmetic.specs.Flags.{bit_of}

-- "flags 511 (bit 0 halted, then in the order above)": halted, PU, PV, BF, DISP, IR0, IR1, IR2, timer reached
unfoldable pub flags_of : Lh5801 → ℕ
flags_of m =
    bit_of m.is_halted + 2 * bit_of m.pu + 4 * bit_of m.pv + 8 * bit_of m.bf + 16 * bit_of m.disp + 32 * bit_of m.ir0 + 64 * bit_of m.ir1
    + 128 * bit_of m.ir2 + 256 * bit_of m.is_timer_reached

abbrev pub record_numbers : Lh5801 → List ℕ
record_numbers m =
    m.a ∷ m.t ∷ m.x ∷ m.y ∷ m.u ∷ m.s ∷ m.p ∷ m.tm ∷ flags_of m ∷ m.timer_state ∷ m.step_previous_state ∷ m.ticks ∷ []

-- a bit of the flags, by its weight
abbrev pub flag_at : ℕ → ℕ → Bool
flag_at flags weight = flags / weight % 2 == 1

-- the record of the first twelve numbers of a list
unfoldable pub record_of : List ℕ → Lh5801
record_of numbers = record {
  a = slice_index numbers 0;
  t = slice_index numbers 1;
  x = slice_index numbers 2;
  y = slice_index numbers 3;
  u = slice_index numbers 4;
  s = slice_index numbers 5;
  p = slice_index numbers 6;
  is_halted = (slice_index numbers 8 % 2 == 1);
  pu = flag_at (slice_index numbers 8) 2;
  pv = flag_at (slice_index numbers 8) 4;
  bf = flag_at (slice_index numbers 8) 8;
  disp = flag_at (slice_index numbers 8) 16;
  tm = slice_index numbers 7;
  ir0 = flag_at (slice_index numbers 8) 32;
  ir1 = flag_at (slice_index numbers 8) 64;
  ir2 = flag_at (slice_index numbers 8) 128;
  is_timer_reached = flag_at (slice_index numbers 8) 256;
  timer_state = slice_index numbers 9;
  step_previous_state = slice_index numbers 10;
  ticks = slice_index numbers 11;
}

-- each number is at most the one at its place in the first list; there are as many numbers, or more
abbrev pub AllWithin : List ℕ → List ℕ → Type 0
AllWithin [] values = Unit {0}
AllWithin (most ∷ mosts) [] = ⊥
AllWithin (most ∷ mosts) (value ∷ values) = (value ≤ most) × AllWithin mosts values

-- the greatest values by the fields' widths: 8 bits for A and T, 16 for X, Y, U, S, P and TM, 9 for the flags, 64 for the counters
abbrev pub widths : List ℕ
widths =
    255 ∷ 255 ∷ 65535 ∷ 65535 ∷ 65535 ∷ 65535 ∷ 65535 ∷ 65535 ∷ 511 ∷ (2 ^ 64 - 1) ∷ (2 ^ 64 - 1) ∷ (2 ^ 64 - 1) ∷ []
