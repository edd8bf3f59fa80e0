-- A step makes at most seven accesses.
use Rattle.std.proofs.Common.{ℕ, ◌≤◌, eqb, length, arith}
use Rattle.arithmetic.specs.declared.record.Lh5801.{Lh5801}
use Rattle.arithmetic.specs.Record.{with_p}
use Rattle.pages.specs.Pages.{Pages}
use Rattle.pages.specs.Prog.{exec}
use Rattle.pages.specs.Stack.{readop_of, push_of, push_word_of, pop_of}
use Rattle.pages.proofs.AtMost.{AtMost, most_exec, most_more, most_then, most_read, most_write, most_readop, most_readop_word, most_mem16, most_push, most_push_word, most_pop, most_pop_word, most_accept}
use Rattle.execution.specs.declared.Inputs.{Inputs}
use Rattle.execution.specs.declared.places.Register.{Register}
use Rattle.execution.specs.declared.places.Place.{Place}
use Rattle.execution.specs.declared.places.Place.TheVariants.{InHalf, Pointer, Fixed, InCode}
use Rattle.execution.specs.declared.instructions.Instruction.{Instruction}
use Rattle.execution.specs.declared.instructions.Instruction.TheVariants.{Alu, Sta, Memory, Bii, Drr, Drl, Load, Compare, Sin, Sde, Lin, Lde, Branch, Lop, VectorIf, Vector, Jmp, Sjp, Rtn, Rti, LoadS, Tin, Cin, PopWord, PushWord, PopA, PushA}
use Rattle.execution.specs.declared.instructions.Listed.{Listed}
use Rattle.std.specs.Prelude.{Option, Some, None}
use Rattle.pages.specs.declared.Code.{Code}
use Rattle.execution.specs.declared.Opcode.{Opcode}
use Rattle.execution.specs.declared.interrupts.Interrupt.{Interrupt}
use Rattle.execution.specs.Interrupts.{accepted, cleared, vector_address}
use Rattle.execution.specs.Places.{word_in, locate_of, operand_of}
use Rattle.execution.specs.Instructions.{alu_of, store_of, sta_of, memory_of, bii_of, drr_of, drl_of, load_of, compare_of, store_at_of, load_at_of, sin_of, sde_of, lin_of, lde_of, holds_of, branch_of, lop_of, vector_of, vector_if_of, jmp_of, sjp_of, rtn_of, rti_of, load_sOf, tin_of, cin_of, pop_to_of, push_from_of, execute_of}
use Rattle.execution.specs.Step.{decoded_by, fetch_of, decoded_step_of, instruction_of, interrupt_of, reached_of, powered_of, step_of}
use Rattle.execution.proofs.Choices.{cond_both}
use Rattle.execution.proofs.Ways.{powered_ways, step_ways}

module _ (m : Lh5801) where
  most_located : (place : Place) → AtMost 2 (locate_of m place)
  unfolding locate_of
  most_located (InHalf h) = tt
  most_located (Pointer page r) = tt
  most_located (Fixed page) = most_then 2 0 _ _ (most_readop_word _) (λ w. tt)
  most_located InCode = tt

  most_operand : (place : Place) → AtMost 3 (operand_of m place)
  unfolding operand_of
  most_operand (InHalf h) = tt
  most_operand (Pointer page r) = most_then 1 2 _ _ (most_read _) (λ b. tt)
  most_operand (Fixed page) = most_then 2 1 _ _ (most_readop_word _) (λ w. most_then 1 0 _ _ (most_read _) (λ b. tt))
  most_operand InCode = most_more 1 3 (readop_of m.p) (omega arith) (most_readop m.p)

  most_store : (place : Place) → AtMost 5 (store_of m place)
  unfolding store_of
  most_store place = most_then 2 3 _ _ (most_located place) (λ l. most_then 1 2 _ _ (most_write _ _) (λ _. tt))

  most_sta : (place : Place) → AtMost 5 (sta_of m place)
  unfolding sta_of
  most_sta (InHalf h) = tt
  most_sta (Pointer page r) = most_store (Pointer page r)
  most_sta (Fixed page) = most_store (Fixed page)
  most_sta InCode = most_store InCode

  most_store_at : (r : Register) → AtMost 1 (store_at_of m r)
  unfolding store_at_of
  most_store_at r = most_then 1 0 _ _ (most_write _ _) (λ _. tt)

  most_load_at : (r : Register) → AtMost 1 (load_at_of m r)
  unfolding load_at_of
  most_load_at r = most_then 1 0 _ _ (most_read _) (λ b. tt)

most_vector : (m : Lh5801) (nr : ℕ) → AtMost 4 (vector_of m nr)
unfolding vector_of
most_vector m nr = most_then 2 2 _ _ (most_push_word m _) (λ k. most_then 2 0 _ _ (most_mem16 _) (λ to. tt))

-- an instruction makes at most five besides those of its opcode: two for the operand's address, one for the immediate and two for memory; or one for
-- the operand and four for a vector
most_executed : (m : Lh5801) (inputs : Inputs) (i : Instruction) → AtMost 5 (execute_of m inputs i)
unfolding execute_of alu_of memory_of bii_of drr_of drl_of load_of compare_of sin_of sde_of lin_of lde_of branch_of lop_of vector_if_of jmp_of sjp_of rtn_of rti_of load_sOf tin_of cin_of pop_to_of push_from_of
most_executed m inputs (Alu o place) = most_then 3 2 _ _ (most_operand m place) (λ f. tt)
most_executed m inputs (Sta place) = most_sta m place
most_executed m inputs (Memory o place) = most_then 2 3 _ _ (most_located m place) (λ l. most_then 1 2 _ _ (most_readop _) (λ i. most_then 1 1 _ _ (most_read _) (λ b. most_then 1 0 _ _ (most_write _ _) (λ _. tt))))
most_executed m inputs (Bii place) = most_then 2 3 _ _ (most_located m place) (λ l. most_then 1 2 _ _ (most_read _) (λ b. most_then 1 1 _ _ (most_readop _) (λ i. tt)))
most_executed m inputs (Drr page) = most_then 1 4 _ _ (most_read _) (λ b. most_then 1 3 _ _ (most_write _ _) (λ _. tt))
most_executed m inputs (Drl page) = most_then 1 4 _ _ (most_read _) (λ b. most_then 1 3 _ _ (most_write _ _) (λ _. tt))
most_executed m inputs (Load h) = most_then 1 4 _ _ (most_readop _) (λ f. tt)
most_executed m inputs (Compare h) = most_then 1 4 _ _ (most_readop _) (λ f. tt)
most_executed m inputs (Sin r) = most_then 1 4 _ _ (most_store_at m r) (λ k. tt)
most_executed m inputs (Sde r) = most_then 1 4 _ _ (most_store_at m r) (λ k. tt)
most_executed m inputs (Lin r) = most_then 1 4 _ _ (most_load_at m r) (λ k. tt)
most_executed m inputs (Lde r) = most_then 1 4 _ _ (most_load_at m r) (λ k. tt)
most_executed m inputs (Branch direction c) = most_then 1 4 _ _ (most_readop _) (λ f. tt)
most_executed m inputs Lop = most_then 1 4 _ _ (most_readop _) (λ f. tt)
most_executed m inputs (VectorIf c) = most_then 1 4 _ _ (most_readop _) (λ f. cond_both (AtMost 4) (holds_of m.t c) _ _ (most_vector _ _) tt)
most_executed m inputs (Vector nr) = most_more 4 5 (vector_of m nr) (omega arith) (most_vector m nr)
most_executed m inputs Jmp = most_then 2 3 _ _ (most_readop_word _) (λ w. tt)
most_executed m inputs Sjp = most_then 2 3 _ _ (most_readop_word _) (λ w. most_then 2 1 _ _ (most_push_word m _) (λ k. tt))
most_executed m inputs Rtn = most_then 2 3 _ _ (most_pop_word _) (λ w. tt)
most_executed m inputs Rti = most_then 2 3 _ _ (most_pop_word _) (λ w. most_then 1 2 _ _ (most_read _) (λ t. tt))
most_executed m inputs LoadS = most_then 2 3 _ _ (most_readop_word _) (λ w. tt)
most_executed m inputs Tin = most_then 1 4 _ _ (most_read _) (λ b. most_then 1 3 _ _ (most_write _ _) (λ _. tt))
most_executed m inputs Cin = most_then 1 4 _ _ (most_read _) (λ b. tt)
most_executed m inputs (PopWord r) = most_then 2 3 _ _ (most_pop_word _) (λ w. tt)
most_executed m inputs (PushWord r) = most_more 2 5 (push_word_of m (word_in m r)) (omega arith) (most_push_word m _)
most_executed m inputs PopA = most_more 1 5 (pop_of m) (omega arith) (most_pop m)
most_executed m inputs PushA = most_more 1 5 (push_of m m.a) (omega arith) (most_push m _)
most_executed m inputs i = tt

most_fetch : (p : ℕ) → AtMost 2 (fetch_of p)
unfolding fetch_of
most_fetch p = most_then 1 1 _ _ (most_readop p) (λ b. cond_both (AtMost {A = Code Opcode} 1) (eqb b.value 0xFD) _ _ (most_then 1 0 _ _ (most_readop _) (λ c. tt)) tt)

most_decoded : (m : Lh5801) (inputs : Inputs) (o : Code Opcode) (d : Option Listed) → AtMost 5 (decoded_step_of m inputs o d)
unfolding decoded_step_of
most_decoded m inputs o (Some l) = most_then 5 0 _ _ (most_executed (with_p m o.p) inputs l.instruction) (λ k. tt)
most_decoded m inputs o None = tt

most_instruction : (m : Lh5801) (inputs : Inputs) → AtMost 7 (instruction_of m inputs)
unfolding instruction_of
most_instruction m inputs = most_then 2 5 _ _ (most_fetch m.p) (λ o. most_decoded m inputs o (decoded_by o.value))

most_interrupt : (m : Lh5801) (i : Interrupt) → AtMost 7 (interrupt_of m i)
unfolding interrupt_of
most_interrupt m i = most_then 5 2 _ _ (most_accept (cleared m i) (vector_address i)) (λ k. tt)

most_powered : (m : Lh5801) (inputs : Inputs) (a : Option Interrupt) → AtMost 7 (powered_of m inputs a)
most_powered m inputs a = powered_ways (AtMost 7) m inputs a (λ i _. most_interrupt m i) tt tt tt (most_instruction m inputs)

-- a step makes at most seven accesses
pub step_accesses_lem : (m : Lh5801) (inputs : Inputs) (pages : Pages) → length (exec (step_of m inputs) pages).accesses ≤ 7
step_accesses_lem m inputs pages =
    most_exec 7 (step_of m inputs) (step_ways (AtMost 7) m inputs (λ _. tt) (λ _. most_powered (reached_of m) inputs (accepted m))) pages
