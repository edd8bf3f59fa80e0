-- The opcode that a step reads.
use Rattle.std.proofs.Common.{◌≡◌, ℕ, Bool, true, false, cond, eqb, refl, ◌∙◌}
use Rattle.arithmetic.specs.declared.record.Lh5801.{Lh5801}
use Rattle.execution.specs.declared.Inputs.{Inputs}
use Rattle.pages.specs.Pages.{Pages, at}
use Rattle.pages.specs.Prog.{done, read, ◌>>=◌, after, exec}
use Rattle.pages.specs.Stack.{up16, readop_of}
use Rattle.pages.proofs.Exec.{bind_answer}
use Rattle.execution.specs.declared.Opcode.TheVariants.{First, AfterFd}
use Rattle.execution.specs.Step.{fetched, decoded_by, fetch_of, decoded_step_of, instruction_of}
use Rattle.execution.specs.Code.Shapes.{opcode_at}

-- the opcode is read from the pages, and they stay
pub fetch_answer : (pages : Pages) (p : ℕ) → (exec (fetch_of p) pages).answer ≡ opcode_at pages p
unfolding fetch_of readop_of exec after read ◌>>=◌
fetch_answer pages p = go (eqb (at pages p) 0xFD)
  where
    go : (t : Bool)
        → (exec (cond t (readop_of (up16 p) >>= (λ second. done (fetched (AfterFd second.value) second.p))) (done (fetched (First (at pages p)) (up16 p)))) pages).answer
        ≡ cond t (fetched (AfterFd (at pages (up16 p))) (up16 (up16 p))) (fetched (First (at pages p)) (up16 p))
    go true = refl
    go false = refl

pub fetch_pages : (pages : Pages) (p : ℕ) → (exec (fetch_of p) pages).pages ≡ pages
unfolding fetch_of readop_of exec after read ◌>>=◌
fetch_pages pages p = go (eqb (at pages p) 0xFD)
  where
    go : (t : Bool)
        → (exec (cond t (readop_of (up16 p) >>= (λ second. done (fetched (AfterFd second.value) second.p))) (done (fetched (First (at pages p)) (up16 p)))) pages).pages
        ≡ pages
    go true = refl
    go false = refl

-- what an instruction comes to: what the bytes of the pages decode to, executed on the same pages
pub instruction_answer : (m : Lh5801) (inputs : Inputs) (pages : Pages)
    → (exec (instruction_of m inputs) pages).answer
    ≡ (exec (decoded_step_of m inputs (opcode_at pages m.p) (decoded_by (opcode_at pages m.p).value)) pages).answer
unfolding instruction_of
instruction_answer m inputs pages =
    bind_answer (fetch_of m.p) _ pages ∙ rw (fetch_answer pages m.p, fetch_pages pages m.p)
