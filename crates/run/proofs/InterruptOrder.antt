-- The order of the interrupts in a call, by computation.
use Rattle.std.proofs.Common.{◌≡◌, refl}
use Rattle.std.specs.Prelude.{None}
use Rattle.arithmetic.specs.Record.{with_tm, with_step_previous_state}
use Rattle.pages.specs.Pages.{at, inside, protected, stored, set_byte, store}
use Rattle.pages.specs.Timer.{shift_of, timer_inc_of}
use Rattle.execution.specs.Inputs.{of_keyboard}
use Rattle.run.specs.Acceptance.{not_accepted}
use Rattle.run.specs.Run.{no_step, completed, onward, run_of, call_unless, call_of, settings}
use Rattle.run.specs.InterruptOrder.{with_stack, unused, sie_rti, rti, at_1234, order_comes, masked_comes}
use Rattle.run.proofs.AccessOrders.{stepped}

-- IR0 goes before IR1, and IR1 before IR2
pub order_holds : call_of (settings (of_keyboard 0) 9) None (at_1234 0x02 0x0E8 0 0) (with_stack sie_rti unused) ≡ order_comes
unfolding order_comes not_accepted no_step completed onward run_of call_unless call_of stepped with_tm with_step_previous_state shift_of timer_inc_of at inside protected stored set_byte store
order_holds = refl

-- IE does not mask IR0, and the others it does
pub masked_holds : call_of (settings (of_keyboard 0) 2) None (at_1234 0x00 0x0E8 0 0) (with_stack rti unused) ≡ masked_comes
unfolding masked_comes not_accepted no_step completed onward run_of call_unless call_of stepped at inside protected stored set_byte store
masked_holds = refl
