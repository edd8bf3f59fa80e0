-- Halted steps, and a park from HLT to the timer's entry, are those of specs/Waiting.antt: by computation.
use Rattle.std.proofs.Common.{◌≡◌, map, refl}
use Rattle.std.specs.Prelude.{None}
use Rattle.arithmetic.specs.Record.{with_tm, with_step_previous_state}
use Rattle.pages.specs.Pages.{at, inside, protected, stored, set_byte, store}
use Rattle.pages.specs.Timer.{shift_of, timer_inc_of}
use Rattle.pages.specs.Written.{writes}
use Rattle.execution.specs.Inputs.{inputs_of}
use Rattle.run.specs.Acceptance.{not_accepted}
use Rattle.run.specs.Run.{no_step, completed, onward, run_of, call_unless, call_of, settings}
use Rattle.run.specs.Waiting.{HaltedCase, empty, halted_cases, park_record, park_pages, park_comes}
use Rattle.run.proofs.AccessOrders.{stepped}

pub halted_steps_hold : map (λ (c : HaltedCase). stepped (inputs_of 0 c.idle None) c.cpu empty) halted_cases ≡ map (λ (c : HaltedCase). c.comes) halted_cases
unfolding halted_cases stepped with_tm with_step_previous_state shift_of timer_inc_of at inside protected stored set_byte store
halted_steps_hold = refl

-- one park: from HLT, with IE set and TM not 0, through nothing but waiting, to the timer's entry
pub timer_wakes : call_of (settings (inputs_of 0 20 None) 7) None park_record (park_pages 0x00 0x00 0x00) ≡ park_comes
unfolding park_comes writes not_accepted no_step completed onward run_of call_unless call_of stepped with_tm with_step_previous_state shift_of timer_inc_of at inside protected stored set_byte store
timer_wakes = refl
