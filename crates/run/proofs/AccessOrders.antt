-- The accesses of steps and of calls are those expected in specs/AccessOrders.antt, by computation; and what of them is read before it is written.
use Rattle.std.proofs.Common.{◌≡◌, ℕ, suc, true, false, [], ◌∷◌, ◌++◌, map, refl}
use Rattle.std.specs.Prelude.{None}
use Rattle.arithmetic.specs.declared.record.Lh5801.{Lh5801}
use Rattle.execution.specs.declared.Inputs.{Inputs}
use Rattle.arithmetic.specs.Record.{with_a, with_t, with_x, with_y, with_u, with_s, with_p, with_is_halted, with_bf, with_ir0, with_ir1, with_ir2, with_is_timer_reached, with_timer_state, with_ticks}
use Rattle.arithmetic.specs.Flags.{with_flags}
use Rattle.arithmetic.specs.Sums.{add_of, sbc_of, cpa_of}
use Rattle.arithmetic.specs.Logic.{lda_of, bit_test_of}
use Rattle.pages.specs.Pages.{Pages, at, inside, protected, stored, set_byte, store}
use Rattle.pages.specs.Prog.{◌>>=◌, read, write, read_of, write_of, Ran, after, exec}
use Rattle.pages.specs.Written.{writes, read_first}
use Rattle.pages.specs.Stack.{readop_of, readop_word_of, mem16_of, push_of, push_word_of, pop_of, pop_word_of, push_state_of, accept_of}
use Rattle.pages.specs.Timer.{add_state_of, passed_of, timer_part_of}
use Rattle.execution.specs.Inputs.{of_keyboard}
use Rattle.execution.specs.Opcodes.{decoded}
use Rattle.execution.specs.OpcodesFd.{decoded_fd}
use Rattle.execution.specs.Places.{locate_of, operand_of}
use Rattle.execution.specs.Instructions.{alu_of, store_of, sta_of, memory_of, bii_of, drr_of, drl_of, load_of, compare_of, inc_word_of, dec_word_of, store_at_of, load_at_of, sin_of, sde_of, lin_of, lde_of, branch_of, lop_of, vector_of, vector_if_of, jmp_of, sjp_of, rtn_of, rti_of, load_sOf, tin_of, cin_of, pop_to_of, push_from_of, drop_word_of, execute_of}
use Rattle.execution.specs.Step.{StepEnd, fetch_of, decoded_step_of, instruction_of, interrupt_of, reached_of, halted_of, due_instruction_of, powered_of, step_of}
use Rattle.run.specs.Acceptance.{not_accepted}
use Rattle.run.specs.Run.{no_step, completed, one_step, onward, run_of, accesses_after, accesses_of, call_unless, call_of}
use Rattle.run.specs.RecordNumbers.{record_of}
use Rattle.run.specs.AccessOrders.{Seen, seen_of, Case, coded, start_record, enabled, access_orders, interrupted, long, vector_first, two_steps, call_seen, CallCase, calls}

-- one step. Whoever unfolds it unfolds all that a step computes through, but the pages
unfoldable pub stepped : Inputs → Lh5801 → Pages → Ran StepEnd
unfolding with_a with_t with_x with_y with_u with_s with_p with_is_halted with_bf with_ir0 with_ir1 with_ir2 with_is_timer_reached with_timer_state with_ticks with_flags add_of sbc_of cpa_of lda_of bit_test_of ◌>>=◌ read write after exec readop_of readop_word_of mem16_of push_of push_word_of pop_of pop_word_of push_state_of accept_of add_state_of passed_of timer_part_of decoded decoded_fd locate_of operand_of alu_of store_of sta_of memory_of bii_of drr_of drl_of load_of compare_of inc_word_of dec_word_of store_at_of load_at_of sin_of sde_of lin_of lde_of branch_of lop_of vector_of vector_if_of jmp_of sjp_of rtn_of rti_of load_sOf tin_of cin_of pop_to_of push_from_of drop_word_of execute_of fetch_of decoded_step_of instruction_of interrupt_of reached_of halted_of due_instruction_of powered_of step_of record_of start_record enabled
stepped inputs m p = one_step inputs m p

-- the keyboard byte is 77
abbrev pub pressed : Inputs
pressed = of_keyboard 0x77

abbrev pub step_seen : Lh5801 → Pages → Seen
step_seen m p = seen_of (stepped pressed m p).answer (stepped pressed m p).accesses

pub access_orders_hold : map (λ (c : Case). step_seen c.cpu c.pages) access_orders ≡ map (λ (c : Case). c.comes) access_orders
unfolding access_orders stepped at inside protected stored set_byte store
access_orders_hold = refl

-- document 01's "dropped" write changes no page
pub dropped : (stepped pressed (with_x start_record 0x40) (coded (0x0E ∷ []))).pages ≡ coded (0x0E ∷ [])
unfolding stepped at inside protected stored set_byte store
dropped = refl

-- ---- what a step reads before it has written it

-- S at FFFB: T goes to FFFB and P's low byte to FFFA, and these bytes then are the vector
pub pushed_vector : (stepped pressed (interrupted 0xFFFB) long).accesses
    ≡ write_of 0xFFFB 0x02 ∷ write_of 0xFFFA 0x04 ∷ write_of 0xFFF9 0x03 ∷ read_of 0xFFFA 0x04 ∷ read_of 0xFFFB 0x02 ∷ []
unfolding stepped at inside protected stored set_byte store
pushed_vector = refl

-- on any pages that keep what is written there: both bytes of the vector are read first, where the pushes miss them (S at 000C, FFF9 and FFFE); with S at FFFA to FFFD one of
-- them is, or none
pub vector_first_lem : (p : Pages) → stored p 0xFFFA ≡ true → stored p 0xFFFB ≡ true
    → map (λ (s : ℕ). vector_first p (stepped pressed (interrupted s) p).accesses) (0x000C ∷ 0xFFF9 ∷ 0xFFFA ∷ 0xFFFB ∷ 0xFFFC ∷ 0xFFFD ∷ 0xFFFE ∷ [])
    ≡ (true ∷ true ∷ []) ∷ (true ∷ true ∷ []) ∷ (false ∷ true ∷ []) ∷ (false ∷ false ∷ []) ∷ (false ∷ false ∷ []) ∷ (true ∷ false ∷ [])
    ∷ (true ∷ true ∷ []) ∷ []
unfolding read_first stepped
vector_first_lem p e f = rw (e, f)

-- a vector instruction too: with C0 at 0 and S at FFC1, the pushed P is the vector that is read
pub pushed_vector_first : (p : Pages) → at p 0x00 ≡ 0xC0 → stored p 0xFFC0 ≡ true → stored p 0xFFC1 ≡ true
    → map (λ (a : ℕ). read_first p a (stepped pressed (with_s start_record 0xFFC1) p).accesses) (0x00 ∷ 0xFFC0 ∷ 0xFFC1 ∷ []) ≡ true ∷ false ∷ false ∷ []
unfolding read_first stepped
pushed_vector_first p h e f = rw (h, e, f)

-- ---- the accesses of a call, with those of the step that stops

-- with any limit from 2 on, the accesses are those of the completed step and then the two reads of the step that stops with 6
pub stopping_step_reads : (n : ℕ)
    → accesses_of (suc (suc n)) pressed None start_record two_steps ≡ (stepped pressed start_record two_steps).accesses ++ (read_of 0x01 0xFD ∷ read_of 0x02 0x00 ∷ [])
unfolding accesses_of accesses_after stepped at inside protected stored set_byte store
stopping_step_reads n = refl

pub calls_hold : map (λ (c : CallCase). call_seen c.limit c.cpu c.pages) calls ≡ map (λ (c : CallCase). c.comes) calls
unfolding calls read_first writes not_accepted no_step completed onward run_of accesses_of accesses_after call_unless call_of stepped at inside protected stored set_byte store
calls_hold = refl
