-- The thirteen marked cases hold: by computation, from the definitions of a step, of the timer's shift, and of a campaign file's line.
use Rattle.std.proofs.Common.{◌≡◌, [], ◌∷◌, map, refl}
use Rattle.arithmetic.specs.Record.{with_a, with_t, with_u, with_p, with_tm, with_is_timer_reached, with_timer_state, with_ticks}
use Rattle.arithmetic.specs.Flags.{with_flags}
use Rattle.arithmetic.specs.Sums.{add_of}
use Rattle.arithmetic.specs.Decimal.{decimal_sum_of, dca_sum, dcs_sum, dca_of, dcs_of}
use Rattle.arithmetic.specs.Logic.{lda_of}
use Rattle.pages.specs.Pages.{at, inside, protected, stored, set_byte, store}
use Rattle.pages.specs.Prog.{◌>>=◌, read, write, after, exec}
use Rattle.pages.specs.Written.{writes}
use Rattle.pages.specs.Stack.{readop_of}
use Rattle.pages.specs.Timer.{shift_of, timer_inc_of, add_state_of, passed_of, timer_part_of}
use Rattle.execution.specs.Opcodes.{decoded}
use Rattle.execution.specs.Places.{locate_of, operand_of}
use Rattle.execution.specs.Instructions.{alu_of, drr_of, drl_of, branch_of, lop_of, execute_of}
use Rattle.execution.specs.Step.{fetch_of, decoded_step_of, instruction_of, reached_of, halted_of, due_instruction_of, powered_of, step_of}
use Rattle.run.specs.Acceptance.{not_accepted}
use Rattle.run.specs.Run.{no_step, completed, onward, run_of, call_unless, call_of}
use Rattle.run.specs.RecordNumbers.{flags_of, record_of}
use Rattle.run.specs.CampaignFile.{number_of, numbers_of, bytes_of, page_of, ended, campaign_of}
use Rattle.run.specs.Line.{decimal_of, hex_of, line_of}
use Rattle.run.specs.Marked.{shifts_of, reply_of, MarkedCase, marked_cases}
use Rattle.run.specs.Report.{report_of}

pub marked_cases_hold : map (λ (c : MarkedCase). reply_of c.asked) marked_cases ≡ map (λ (c : MarkedCase). c.expected) marked_cases
unfolding reply_of marked_cases shifts_of report_of with_a with_t with_u with_p with_tm with_is_timer_reached with_timer_state with_ticks with_flags add_of decimal_sum_of dca_sum dcs_sum dca_of dcs_of lda_of at inside protected stored set_byte store ◌>>=◌ read write after exec writes readop_of shift_of timer_inc_of add_state_of passed_of timer_part_of decoded locate_of operand_of alu_of drr_of drl_of branch_of lop_of execute_of fetch_of decoded_step_of instruction_of reached_of halted_of due_instruction_of powered_of step_of not_accepted no_step completed onward run_of call_unless call_of number_of numbers_of bytes_of page_of record_of ended campaign_of decimal_of hex_of flags_of line_of
marked_cases_hold = refl

-- the list is document 01's, in its order
pub numbered : map (λ (c : MarkedCase). c.number) marked_cases ≡ 1 ∷ 2 ∷ 3 ∷ 4 ∷ 5 ∷ 6 ∷ 7 ∷ 8 ∷ 9 ∷ 10 ∷ 11 ∷ 12 ∷ 13 ∷ []
unfolding marked_cases
numbered = refl
