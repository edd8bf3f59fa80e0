-- The accesses that specs/Code/Shapes.antt computes ahead of a step are those that the step makes.
use Rattle.std.proofs.Common.{◌≡◌, ℕ, ◌+◌, ◌/◌, ◌%◌, ◌≤◌, Bool, true, false, cond, eqb, List, [], ◌∷◌, ◌++◌, length, sym, refl, ap, ◌∙◌, append-nil, true≢false, arith}
use Rattle.arithmetic.specs.declared.record.Lh5801.{Lh5801}
use Rattle.arithmetic.specs.Record.{with_p, with_s, with_t, with_ir0, with_ir1, with_ir2}
use Rattle.pages.specs.declared.Code.{Code}
use Rattle.pages.specs.Pages.{Pages, at, store, SameLayout}
use Rattle.pages.specs.Prog.{Prog, done, ◌>>=◌, read, write, Access, read_of, after, exec}
use Rattle.pages.specs.Stack.{up16, down16, readop_of, readop_word_of, mem16_of, push_of, push_word_of, pop_of, pop_word_of, push_state_of, accept_of}
use Rattle.pages.specs.Timer.{add_state_of, timer_part_of}
use Rattle.pages.proofs.Exec.{bind_answer, bind_accesses}
use Rattle.pages.proofs.Pages.{store_layout, stored_layout, at_store}
use Rattle.execution.specs.declared.Inputs.{Inputs}
use Rattle.execution.specs.declared.places.Page.{Page}
use Rattle.execution.specs.declared.places.Place.{Place}
use Rattle.execution.specs.declared.places.Place.TheVariants.{InHalf, Pointer, Fixed, InCode}
use Rattle.execution.specs.declared.instructions.Change.{Change}
use Rattle.execution.specs.declared.instructions.Condition.{Condition}
use Rattle.execution.specs.declared.instructions.Instruction.{Instruction}
use Rattle.execution.specs.declared.instructions.Instruction.TheVariants.{Alu, Sta, Memory, Bii, VectorIf, Vector}
use Rattle.execution.specs.declared.instructions.Listed.{Listed}
use Rattle.std.specs.Prelude.{Option, Some, None}
use Rattle.execution.specs.declared.Opcode.{Opcode}
use Rattle.execution.specs.declared.Opcode.TheVariants.{First, AfterFd}
use Rattle.execution.specs.declared.shapes.Action.TheVariants.{Update, Test}
use Rattle.execution.specs.Places.{locate_of, operand_of}
use Rattle.execution.specs.Instructions.{operated, alu_of, store_of, sta_of, memory_of, bii_of, drr_of, drl_of, load_of, compare_of, store_at_of, load_at_of, sin_of, sde_of, lin_of, lde_of, holds_of, branch_of, lop_of, vector_of, vector_if_of, jmp_of, sjp_of, rtn_of, rti_of, load_sOf, tin_of, cin_of, pop_to_of, push_from_of, execute_of}
use Rattle.execution.specs.States.{added_of}
use Rattle.execution.specs.Step.{StepEnd, did, stopped, instruction, fetched, fetch_of, decoded_by, decoded_step_of, instruction_of, interrupt_of, reached_of, halted_of, due_instruction_of, powered_of, step_of}
use Rattle.execution.specs.declared.interrupts.Interrupt.{Interrupt}
use Rattle.execution.specs.declared.interrupts.Interrupt.TheVariants.{Ir0, Ir1, Ir2}
use Rattle.execution.specs.Interrupts.{accepted, vector_address}
use Rattle.execution.specs.Inputs.{without_stop}
use Rattle.execution.specs.Conditions.{AddressStop}
use Rattle.execution.specs.Code.Due.{stops_before_of}
use Rattle.execution.specs.Completed.{of_completed, completed_accesses}
use Rattle.execution.specs.Code.Shapes.{opcode_at, bytes_from, after_write, after_push_word, vector_accesses, accept_accesses, place_accesses, vector_if_accesses, shape_accesses, operand_shape, store_shape, shape_of, shape_in, shape_by, opcode_accesses, fetched_accesses, instruction_accesses, powered_accesses, step_accesses}
use Rattle.execution.proofs.Choices.{cond_both}
use Rattle.execution.proofs.OpcodeRead.{fetch_answer, fetch_pages}
use Rattle.execution.proofs.TimerReached.{reached_fields, reached_accepted}
use Rattle.execution.proofs.Accesses.{step_accesses_lem}
use Rattle.execution.proofs.DueTest.{stops_before_is}
use Rattle.execution.proofs.WithoutStop.{step_same}

-- a read after a write
read_after_write : (m : Pages) (s v a : ℕ) → at (store m s v) a ≡ after_write m s v a (at m a)
read_after_write m s v a = at_store m s v a

-- which writes are stored goes by the layout alone
after_write_layout : {m n : Pages} → SameLayout m n → (s v a b : ℕ) → after_write n s v a b ≡ after_write m s v a b
after_write_layout l s v a b = rw (stored_layout l a)

read_after_push_word : (m : Pages) (s w a : ℕ) → at (store (store m s (w % 256)) (down16 s) (w / 256)) a ≡ after_push_word m s w a (at m a)
read_after_push_word m s w a =
    read_after_write (store m s (w % 256)) (down16 s) (w / 256) a
    ∙ after_write_layout (store_layout m s (w % 256)) (down16 s) (w / 256) a (at (store m s (w % 256)) a)
    ∙ ap (after_write m (down16 s) (w / 256) a) (read_after_write m s (w % 256) a)

-- the vector of an interrupt, read after three pushes
read_after_accept : (m : Pages) (s t w a : ℕ)
    → at (store (store (store m s t) (down16 s) (w % 256)) (down16 (down16 s)) (w / 256)) a
    ≡ after_push_word m (down16 s) w a (after_write m s t a (at m a))
read_after_accept m s t w a =
    read_after_push_word (store m s t) (down16 s) w a
    ∙ rw (stored_layout (store_layout m s t) a, read_after_write m s t a)

module _ (m : Lh5801) (pages : Pages) where
  vector_accesses_lem : (nr : ℕ) → (exec (vector_of m nr) pages).accesses ≡ vector_accesses pages m.s m.p nr
  unfolding vector_of push_word_of push_of mem16_of read write ◌>>=◌ exec after with_s
  vector_accesses_lem nr = rw (read_after_push_word pages m.s m.p (0xFF00 + nr), read_after_push_word pages m.s m.p (0xFF00 + nr + 1))

module _ (m : Lh5801) (pages : Pages) where
  -- the byte of a place is read
  operand_accesses : (place : Place) (f : Code ℕ → Lh5801)
      → (exec (operand_of m place >>= (λ x. done (f x))) pages).accesses ≡ shape_accesses m pages (operand_shape place)
  unfolding operand_of locate_of readop_word_of readop_of read ◌>>=◌ exec after
  operand_accesses (InHalf h) f = refl
  operand_accesses (Pointer page r) f = refl
  operand_accesses (Fixed page) f = refl
  operand_accesses InCode f = refl

  sta_accesses : (place : Place) → (exec (sta_of m place) pages).accesses ≡ shape_accesses m pages (store_shape place)
  unfolding sta_of store_of locate_of readop_word_of readop_of read write ◌>>=◌ exec after
  sta_accesses (InHalf h) = refl
  sta_accesses (Pointer page r) = refl
  sta_accesses (Fixed page) = refl
  sta_accesses InCode = refl

  memory_accesses : (o : Change) (place : Place) → (exec (memory_of m o place) pages).accesses ≡ place_accesses m pages (Update o) place
  unfolding memory_of locate_of readop_word_of readop_of read write ◌>>=◌ exec after
  memory_accesses o (InHalf h) = refl
  memory_accesses o (Pointer page r) = refl
  memory_accesses o (Fixed page) = refl
  memory_accesses o InCode = refl

  bii_accesses : (place : Place) → (exec (bii_of m place) pages).accesses ≡ place_accesses m pages Test place
  unfolding bii_of locate_of readop_word_of readop_of read write ◌>>=◌ exec after
  bii_accesses (InHalf h) = refl
  bii_accesses (Pointer page r) = refl
  bii_accesses (Fixed page) = refl
  bii_accesses InCode = refl

-- a vector under a condition, taken or not
vector_if_accesses_lem : (m : Lh5801) (pages : Pages) (c : Condition) → (exec (vector_if_of m c) pages).accesses ≡ vector_if_accesses m pages c
unfolding vector_if_of readop_of read ◌>>=◌ exec after with_p
vector_if_accesses_lem m pages c = go (holds_of m.t c)
  where
    go : (h : Bool)
        → (read_of m.p (at pages m.p) ∷ (exec (cond h (vector_of (with_p m (up16 m.p)) (at pages m.p)) (done (with_p m (up16 m.p)))) pages).accesses)
        ≡ read_of m.p (at pages m.p) ∷ cond h (vector_accesses pages m.s (up16 m.p) (at pages m.p)) []
    go true = ap (λ (l : List Access). read_of m.p (at pages m.p) ∷ l) (vector_accesses_lem (with_p m (up16 m.p)) pages (at pages m.p))
    go false = refl

-- what each instruction accesses is what its shape says
executed_accesses : (m : Lh5801) (inputs : Inputs) (i : Instruction) (pages : Pages) → (exec (execute_of m inputs i) pages).accesses ≡ shape_accesses m pages (shape_of i)
unfolding execute_of alu_of drr_of drl_of load_of compare_of store_at_of load_at_of sin_of sde_of lin_of lde_of branch_of lop_of jmp_of sjp_of rtn_of rti_of load_sOf tin_of cin_of pop_to_of push_from_of locate_of readop_of readop_word_of push_of push_word_of pop_of pop_word_of read write ◌>>=◌ exec after with_s
executed_accesses m inputs (Alu o place) pages = operand_accesses m pages place (λ f. operated (with_p m f.p) o f.value)
executed_accesses m inputs (Sta place) pages = sta_accesses m pages place
executed_accesses m inputs (Memory o place) pages = memory_accesses m pages o place
executed_accesses m inputs (Bii place) pages = bii_accesses m pages place
executed_accesses m inputs (VectorIf c) pages = vector_if_accesses_lem m pages c
executed_accesses m inputs (Vector nr) pages = vector_accesses_lem m pages nr
executed_accesses m inputs i pages = refl

-- the opcode's own bytes
fetch_accesses : (pages : Pages) (p : ℕ) → (exec (fetch_of p) pages).accesses ≡ opcode_accesses pages p (opcode_at pages p).value
unfolding fetch_of readop_of read ◌>>=◌ exec after
fetch_accesses pages p = go (eqb (at pages p) 0xFD)
  where
    go : (t : Bool)
        → read_of p (at pages p)
        ∷ (exec (cond t (readop_of (up16 p) >>= (λ second. done (fetched (AfterFd second.value) second.p))) (done (fetched (First (at pages p)) (up16 p)))) pages).accesses
        ≡ opcode_accesses pages p (cond t (fetched (AfterFd (at pages (up16 p))) (up16 (up16 p))) (fetched (First (at pages p)) (up16 p))).value
    go true = refl
    go false = refl

-- what a decoded byte does, after the accesses l of the opcode
decoded_accesses : (m : Lh5801) (inputs : Inputs) (o : Code Opcode) (d : Option Listed) (pages : Pages)
    → of_completed (exec (decoded_step_of m inputs o d) pages).answer (opcode_accesses pages m.p o.value ++ (exec (decoded_step_of m inputs o d) pages).accesses)
    ≡ fetched_accesses m pages o (shape_in d)
unfolding decoded_step_of exec
decoded_accesses m inputs o (Some l) pages =
    let i = l.instruction in
    let n = l.states in
    rw (
      bind_answer (execute_of (with_p m o.p) inputs i) (λ k. done (did (timer_part_of (add_state_of k n)) (n + added_of m i) (instruction o.value))) pages,
      bind_accesses (execute_of (with_p m o.p) inputs i) (λ k. done (did (timer_part_of (add_state_of k n)) (n + added_of m i) (instruction o.value))) pages,
      append-nil,
      executed_accesses (with_p m o.p) inputs i pages,
    )
decoded_accesses m inputs o None pages = refl

-- the accesses of a completed instruction, and none of an unlisted one
instruction_accesses_lem : (m : Lh5801) (inputs : Inputs) (pages : Pages) → completed_accesses (exec (instruction_of m inputs) pages) ≡ instruction_accesses m pages
unfolding instruction_of instruction_accesses shape_by
instruction_accesses_lem m inputs pages =
    let o : Code Opcode = opcode_at pages m.p in
    rw (
      bind_answer (fetch_of m.p) (λ f. decoded_step_of m inputs f (decoded_by f.value)) pages,
      bind_accesses (fetch_of m.p) (λ f. decoded_step_of m inputs f (decoded_by f.value)) pages,
      fetch_answer pages m.p,
      fetch_pages pages m.p,
      fetch_accesses pages m.p,
    )
    (decoded_accesses m inputs o (decoded_by o.value) pages)

-- which request is cleared makes no difference to them
interrupt_accesses : (m : Lh5801) (i : Interrupt) (pages : Pages) → completed_accesses (exec (interrupt_of m i) pages) ≡ accept_accesses m pages (vector_address i)
unfolding interrupt_of accept_of push_state_of push_word_of push_of mem16_of read write ◌>>=◌ exec after with_s with_t with_ir0 with_ir1 with_ir2
interrupt_accesses m Ir0 pages = rw (read_after_accept pages m.s m.t m.p 0xFFFC, read_after_accept pages m.s m.t m.p 0xFFFD)
interrupt_accesses m Ir1 pages = rw (read_after_accept pages m.s m.t m.p 0xFFFA, read_after_accept pages m.s m.t m.p 0xFFFB)
interrupt_accesses m Ir2 pages = rw (read_after_accept pages m.s m.t m.p 0xFFF8, read_after_accept pages m.s m.t m.p 0xFFF9)

-- a halted step makes none, whether it waits or stops
halted_accesses : (m : Lh5801) (inputs : Inputs) (pages : Pages) → completed_accesses (exec (done (halted_of m inputs)) pages) ≡ []
unfolding halted_of exec
halted_accesses m inputs pages = cond_both (λ e. of_completed e [] ≡ []) (eqb inputs.idle 0) _ _ refl refl

-- either way
completed_cond : (pages : Pages) (b : Bool) (p q : Prog StepEnd)
    → completed_accesses (exec (cond b p q) pages) ≡ cond b (completed_accesses (exec p pages)) (completed_accesses (exec q pages))
completed_cond pages true p q = refl
completed_cond pages false p q = refl

cond_each : (b : Bool) {k k' l l' : List Access} → k ≡ k' → l ≡ l' → cond b k l ≡ cond b k' l'
cond_each true p q = p
cond_each false p q = q

-- without a stop address
module _ (inputs : Inputs) (pages : Pages) where
  powered_accesses_lem : (m : Lh5801) (a : Option Interrupt)
      → completed_accesses (exec (powered_of m (without_stop inputs) a) pages) ≡ powered_accesses m pages a
  unfolding powered_of due_instruction_of exec
  powered_accesses_lem m (Some i) = interrupt_accesses m i pages
  powered_accesses_lem m None =
      completed_cond pages m.is_halted _ _
      ∙ cond_each m.is_halted (halted_accesses m (without_stop inputs) pages) (instruction_accesses_lem m (without_stop inputs) pages)

  -- and after timer reached has moved, which changes no access
  reached_accesses : (m : Lh5801) (a : Option Interrupt)
      → completed_accesses (exec (powered_of (reached_of m) (without_stop inputs) a) pages) ≡ powered_accesses m pages a
  unfolding instruction_accesses locate_of with_p
  reached_accesses m (Some i) = powered_accesses_lem (reached_of m) (Some i) ∙ rw (reached_fields m)
  reached_accesses m None = powered_accesses_lem (reached_of m) None ∙ rw (reached_fields m)

  unaddressed_accesses : (m : Lh5801) → completed_accesses (exec (step_of m (without_stop inputs)) pages) ≡ step_accesses m pages
  unfolding step_of exec
  unaddressed_accesses m =
      completed_cond pages m.bf _ _
      ∙ cond_each m.bf (ap (λ (a : Option Interrupt). completed_accesses (exec (powered_of (reached_of m) (without_stop inputs) a) pages)) (reached_accepted m) ∙ reached_accesses m (accepted m)) refl

-- the accesses of a completed step, and none of one that stops, are those computed ahead, whatever the inputs, where the step does not stop before an address
pub step_accesses_ahead : (m : Lh5801) (inputs : Inputs) (pages : Pages) → stops_before_of m inputs ≡ false
    → completed_accesses (exec (step_of m inputs) pages) ≡ step_accesses m pages
step_accesses_ahead m inputs pages e =
    let n : ¬ AddressStop inputs m = λ s. true≢false (sym ((stops_before_is m inputs).1 s) ∙ e) in
    ap (λ (p : Prog StepEnd). completed_accesses (exec p pages)) (sym (step_same inputs m n)) ∙ unaddressed_accesses inputs pages m

-- at most seven
pub completed_few : (m : Lh5801) (inputs : Inputs) (pages : Pages) → length (completed_accesses (exec (step_of m inputs) pages)) ≤ 7
completed_few m inputs pages = go (exec (step_of m inputs) pages).answer
  where
    go : (e : StepEnd) → length (of_completed e (exec (step_of m inputs) pages).accesses) ≤ 7
    go (did k n kind) = step_accesses_lem m inputs pages
    go (stopped s) = omega arith

-- a place's own bytes in the code: a word, or none
pub fixed_bytes : (m : Lh5801) (page : Page) (pages : Pages) → (exec (locate_of m (Fixed page)) pages).accesses ≡ bytes_from pages m.p 2
unfolding locate_of readop_word_of readop_of read ◌>>=◌ exec after
fixed_bytes m page pages = refl

pub other_bytes : (m : Lh5801) (place : Place) (pages : Pages) → ((page : Page) → place ≡ Fixed page → ⊥) → (exec (locate_of m place) pages).accesses ≡ []
unfolding locate_of exec
other_bytes m (InHalf h) pages f = refl
other_bytes m (Pointer page r) pages f = refl
other_bytes m (Fixed page) pages f = absurd (f page refl)
other_bytes m InCode pages f = refl
