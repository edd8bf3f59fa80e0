-- States and the timer (document 01, "One step": "Timer part").
use Rattle.std.specs.Prelude.{ℕ, ◌+◌, ◌-◌, ◌*◌, ◌/◌, ◌%◌, ◌^◌, cond, ◌==◌, nat_le}
use Rattle.arithmetic.specs.declared.record.Lh5801.{Lh5801}
use Rattle.arithmetic.specs.Record.{with_tm, with_is_timer_reached, with_timer_state, with_step_previous_state, with_ticks}

-- the shift of a timer value: "TM halved, bit 8 becomes bit 0 xor bit 4"
unfoldable pub shift_of : ℕ → ℕ
shift_of tm = tm / 2 + 256 * ((tm % 2 + tm / 16 % 2) % 2)

-- `timer_inc`: TM shifted; document 01's "timer reached" is set when the result is 1FF and cleared otherwise
unfoldable pub timer_inc_of : Lh5801 → Lh5801
timer_inc_of m = with_is_timer_reached (with_tm m (shift_of m.tm)) (shift_of m.tm == 0x1FF)

-- `add_state`: document 01's "states" go to the timer states and to the ticks, which wrap on 64 bits
unfoldable pub add_state_of : Lh5801 → ℕ → Lh5801
add_state_of m n = with_ticks (with_timer_state m ((m.timer_state + n) % 2 ^ 64)) ((m.ticks + n) % 2 ^ 64)

-- the states passed since previous was set: "timer states minus previous (wrapping)"
unfoldable pub passed_of : Lh5801 → ℕ
passed_of m = (m.timer_state + (2 ^ 64 - m.step_previous_state)) % 2 ^ 64

-- `timer_part`, document 01's "timer part": where at least 42 states have passed, one shift, and previous becomes the current count
unfoldable pub timer_part_of : Lh5801 → Lh5801
timer_part_of m = cond (nat_le 42 (passed_of m)) (with_step_previous_state (timer_inc_of m) m.timer_state) m
