-- The record with one field changed.
use Rattle.std.specs.Prelude.{ℕ, Bool}
use Rattle.arithmetic.specs.declared.record.Lh5801.{Lh5801}

unfoldable pub with_a : Lh5801 → ℕ → Lh5801
with_a m v = record m { a = v }

unfoldable pub with_t : Lh5801 → ℕ → Lh5801
with_t m v = record m { t = v }

unfoldable pub with_x : Lh5801 → ℕ → Lh5801
with_x m v = record m { x = v }

unfoldable pub with_y : Lh5801 → ℕ → Lh5801
with_y m v = record m { y = v }

unfoldable pub with_u : Lh5801 → ℕ → Lh5801
with_u m v = record m { u = v }

unfoldable pub with_s : Lh5801 → ℕ → Lh5801
with_s m v = record m { s = v }

unfoldable pub with_p : Lh5801 → ℕ → Lh5801
with_p m v = record m { p = v }

unfoldable pub with_is_halted : Lh5801 → Bool → Lh5801
with_is_halted m v = record m { is_halted = v }

unfoldable pub with_pu : Lh5801 → Bool → Lh5801
with_pu m v = record m { pu = v }

unfoldable pub with_pv : Lh5801 → Bool → Lh5801
with_pv m v = record m { pv = v }

unfoldable pub with_bf : Lh5801 → Bool → Lh5801
with_bf m v = record m { bf = v }

unfoldable pub with_disp : Lh5801 → Bool → Lh5801
with_disp m v = record m { disp = v }

unfoldable pub with_tm : Lh5801 → ℕ → Lh5801
with_tm m v = record m { tm = v }

unfoldable pub with_ir0 : Lh5801 → Bool → Lh5801
with_ir0 m v = record m { ir0 = v }

unfoldable pub with_ir1 : Lh5801 → Bool → Lh5801
with_ir1 m v = record m { ir1 = v }

unfoldable pub with_ir2 : Lh5801 → Bool → Lh5801
with_ir2 m v = record m { ir2 = v }

unfoldable pub with_is_timer_reached : Lh5801 → Bool → Lh5801
with_is_timer_reached m v = record m { is_timer_reached = v }

unfoldable pub with_timer_state : Lh5801 → ℕ → Lh5801
with_timer_state m v = record m { timer_state = v }

unfoldable pub with_step_previous_state : Lh5801 → ℕ → Lh5801
with_step_previous_state m v = record m { step_previous_state = v }

unfoldable pub with_ticks : Lh5801 → ℕ → Lh5801
with_ticks m v = record m { ticks = v }
