-- A step that stops has written nothing.
use Rattle.std.proofs.Common.{◌≡◌, ℕ, eqb, [], subst}
use Rattle.arithmetic.specs.declared.record.Lh5801.{Lh5801}
use Rattle.execution.specs.declared.Inputs.{Inputs}
use Rattle.arithmetic.specs.Record.{with_p}
use Rattle.pages.specs.Pages.{Pages}
use Rattle.pages.specs.Prog.{Prog, exec}
use Rattle.pages.specs.Stack.{accept_of}
use Rattle.pages.specs.Written.{writes}
use Rattle.pages.proofs.Always.{Always, always_then, always_map}
use Rattle.pages.proofs.Clean.{ReadsOnly, reads_then, reads_readop, Clean, clean_exec, clean_always, clean_after}
use Rattle.execution.specs.declared.instructions.Instruction.{Instruction}
use Rattle.execution.specs.declared.instructions.Listed.{Listed}
use Rattle.std.specs.Prelude.{Option, Some, None}
use Rattle.execution.specs.Opcodes.{listed}
use Rattle.pages.specs.declared.Code.{Code}
use Rattle.execution.specs.declared.Opcode.{Opcode}
use Rattle.execution.specs.declared.Stop.{Stop}
use Rattle.execution.specs.declared.interrupts.Interrupt.{Interrupt}
use Rattle.execution.specs.Interrupts.{accepted, cleared, vector_address}
use Rattle.execution.specs.Instructions.{execute_of}
use Rattle.execution.specs.Step.{Kind, off, interrupt, waiting, instruction, StepEnd, did, stopped, decoded_by, fetch_of, decoded_step_of, instruction_of, interrupt_of, reached_of, powered_of, step_of}
use Rattle.execution.proofs.Choices.{cond_both}
use Rattle.execution.proofs.Ways.{powered_ways, step_ways}

-- the step was completed
abbrev pub IsDid : StepEnd → Type 0
IsDid (did k n kind) = Unit {0}
IsDid (stopped s) = ⊥

-- the step was completed, and did not wait
abbrev NotWaiting : Kind → Type 0
NotWaiting off = Unit {0}
NotWaiting (interrupt i) = Unit {0}
NotWaiting waiting = ⊥
NotWaiting (instruction opcode) = Unit {0}

abbrev pub IsActive : StepEnd → Type 0
IsActive (did k n kind) = NotWaiting kind
IsActive (stopped s) = ⊥

pub active_did : (e : StepEnd) → IsActive e → IsDid e
active_did (did k n kind) h = tt
active_did (stopped s) h = h

reads_fetch : (p : ℕ) → ReadsOnly (fetch_of p)
unfolding fetch_of
reads_fetch p = reads_then _ _ (reads_readop p) (λ b. cond_both (ReadsOnly {A = Code Opcode}) (eqb b.value 0xFD) _ _ (reads_then _ _ (reads_readop _) (λ c. tt)) tt)

-- a listed byte and an accepted interrupt end in a completed step
pub active_listed : (m : Lh5801) (inputs : Inputs) (o : Code Opcode) (i : Instruction) (n : ℕ) → Always IsActive (decoded_step_of m inputs o (listed i n))
unfolding decoded_step_of
active_listed m inputs o i n = always_then IsActive (execute_of (with_p m o.p) inputs i) _ (λ k. tt)

pub active_interrupt : (m : Lh5801) (i : Interrupt) → Always IsActive (interrupt_of m i)
unfolding interrupt_of
active_interrupt m i = always_then IsActive (accept_of (cleared m i) (vector_address i)) _ (λ k. tt)

clean_active : (p : Prog StepEnd) → Always IsActive p → Clean IsDid p
clean_active p h = clean_always IsDid p (always_map IsActive IsDid p active_did h)

clean_decoded : (m : Lh5801) (inputs : Inputs) (o : Code Opcode) (d : Option Listed) → Clean IsDid (decoded_step_of m inputs o d)
unfolding decoded_step_of
clean_decoded m inputs o (Some l) = clean_active (decoded_step_of m inputs o (Some l)) (active_listed m inputs o l.instruction l.states)
clean_decoded m inputs o None = tt

clean_instruction : (m : Lh5801) (inputs : Inputs) → Clean IsDid (instruction_of m inputs)
unfolding instruction_of
clean_instruction m inputs = clean_after IsDid (fetch_of m.p) _ (reads_fetch m.p) (λ o. clean_decoded m inputs o (decoded_by o.value))

clean_powered : (m : Lh5801) (inputs : Inputs) (a : Option Interrupt) → Clean IsDid (powered_of m inputs a)
clean_powered m inputs a =
    powered_ways (Clean IsDid) m inputs a (λ i _. clean_active (interrupt_of m i) (active_interrupt m i)) tt tt tt (clean_instruction m inputs)

-- a step that stops has made no write, and the pages are as before it
pub stop_no_write : (m : Lh5801) (inputs : Inputs) (pages : Pages) (s : Stop) → (exec (step_of m inputs) pages).answer ≡ stopped s
    → (writes (exec (step_of m inputs) pages).accesses ≡ []) × ((exec (step_of m inputs) pages).pages ≡ pages)
stop_no_write m inputs pages s e =
    clean_exec IsDid (step_of m inputs) (step_ways (Clean IsDid) m inputs (λ _. tt) (λ _. clean_powered (reached_of m) inputs (accepted m))) pages (subst IsDid e)
