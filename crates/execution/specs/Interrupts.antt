-- The interrupts: which one a step accepts (document 01, "One step"; document 02, F-6), which request its entry clears, and where its vector is.
use Rattle.std.specs.Prelude.{ℕ, false, cond, ◌&&◌, ◌||◌, Option, Some, None}
use Rattle.arithmetic.specs.declared.record.Lh5801.{Lh5801}
use Rattle.arithmetic.specs.Record.{with_ir0, with_ir1, with_ir2}
use Rattle.arithmetic.specs.Flags.{IE, has_flag}
use Rattle.execution.specs.declared.interrupts.Interrupt.{Interrupt}
use Rattle.execution.specs.declared.interrupts.Interrupt.TheVariants.{Ir0, Ir1, Ir2}

-- the interrupt that is accepted, BF being set: IR0, "whether IE is set or not"; else IR1 with IE; else IR2 with IE. Timer reached counts as IR1, to
-- which it moves, so that the record before the move accepts the same as the one after it
abbrev pub accepted : Lh5801 → Option Interrupt
accepted m =
    cond m.ir0 (Some Ir0)
    (cond ((m.ir1 || m.is_timer_reached) && has_flag m.t IE) (Some Ir1)
    (cond (m.ir2 && has_flag m.t IE) (Some Ir2)
    None))

-- its entry clears its own request
abbrev pub cleared : Lh5801 → Interrupt → Lh5801
cleared m Ir0 = with_ir0 m false
cleared m Ir1 = with_ir1 m false
cleared m Ir2 = with_ir2 m false

-- "P from FFFC", "P from FFFA", "same with FFF8"
abbrev pub vector_address : Interrupt → ℕ
vector_address Ir0 = 0xFFFC
vector_address Ir1 = 0xFFFA
vector_address Ir2 = 0xFFF8
