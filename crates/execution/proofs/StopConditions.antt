-- A step stops with 7, 12, 5 or 6 under the condition of documents 01 and 02 for it and no other.
use Rattle.std.proofs.Common.{◌≡◌, ℕ, Bool, true, false, eqb, ◌↔◌, [], sym, refl, ap, ◌∙◌, subst, true≢false, eq-eqb, ne_eqb, eqb-true}
use native.Mathlib.Decide.{ℕ_discrete}
use borrow.Author.Tests.{eqb-false}
use Rattle.arithmetic.specs.declared.record.Lh5801.{Lh5801}
use Rattle.execution.specs.declared.Inputs.{Inputs}
use Rattle.pages.specs.Pages.{Pages, at}
use Rattle.pages.specs.Prog.{exec}
use Rattle.pages.specs.Stack.{up16}
use Rattle.pages.specs.Timer.{add_state_of, timer_part_of}
use Rattle.pages.proofs.Always.{always_exec}
use Rattle.pages.proofs.Exec.{done_answer, done_none}
use Rattle.execution.specs.declared.instructions.Instruction.{Instruction}
use Rattle.execution.specs.declared.instructions.Listed.{Listed}
use Rattle.std.specs.Prelude.{Option, Some, None}
use Rattle.execution.specs.Opcodes.{listed}
use Rattle.pages.specs.declared.Code.{Code}
use Rattle.execution.specs.declared.Opcode.{Opcode}
use Rattle.execution.specs.declared.Opcode.TheVariants.{First, AfterFd}
use Rattle.execution.specs.declared.Stop.{Stop}
use Rattle.execution.specs.declared.Stop.TheVariants.{Unlisted, Halted, AtAddress}
use Rattle.execution.specs.declared.interrupts.Interrupt.{Interrupt}
use Rattle.execution.specs.Interrupts.{accepted}
use Rattle.execution.specs.Inputs.{stops_at}
use Rattle.execution.specs.Opcodes.{decoded}
use Rattle.execution.specs.OpcodesFd.{decoded_fd}
use Rattle.execution.specs.Listed.{is_listed, listed_first}
use Rattle.execution.specs.Step.{waiting, StepEnd, did, stopped, fetched, decoded_by, decoded_step_of, reached_of, halted_of, step_of}
use Rattle.execution.specs.Conditions.{Halting, HaltedStop, Waits, Due, AddressStop, Fetches, first_byte, second_byte, FirstUnlisted, SecondUnlisted, Completes, NoStop}
use Rattle.execution.specs.Code.Shapes.{opcode_at}
use Rattle.execution.proofs.OpcodeRead.{instruction_answer}
use Rattle.execution.proofs.StopsClean.{IsDid, IsActive, active_did, active_listed}
use Rattle.execution.proofs.Choices.{none_left, none_right, cond_true, cond_false}
use Rattle.execution.proofs.TimerReached.{reached_p}
use Rattle.execution.proofs.Tests.{off_step, halting_step, address_step, fetching_step, accepted_step, halted_stops, halted_waits}
use Rattle.execution.proofs.StopAddress.{stops_at_is, elsewhere_is}

-- what a decoded opcode comes to
decoded_end : Lh5801 → Inputs → Pages → Code Opcode → StepEnd
decoded_end m inputs pages o = (exec (decoded_step_of m inputs o (decoded_by o.value)) pages).answer

end_unlisted : (m : Lh5801) (inputs : Inputs) (pages : Pages) (o : Code Opcode) → decoded_by o.value ≡ None
    → decoded_end m inputs pages o ≡ stopped (Unlisted o.value)
unfolding decoded_end decoded_step_of
end_unlisted m inputs pages o e = ap (λ d. (exec (decoded_step_of m inputs o d) pages).answer) e ∙ done_answer _ pages

end_listed : (m : Lh5801) (inputs : Inputs) (pages : Pages) (o : Code Opcode) (i : Instruction) (n : ℕ) → decoded_by o.value ≡ listed i n
    → IsActive (decoded_end m inputs pages o)
unfolding decoded_end
end_listed m inputs pages o i n e =
    subst (λ d. IsActive (exec (decoded_step_of m inputs o d) pages).answer) (sym e)
    (always_exec IsActive (decoded_step_of m inputs o (listed i n)) (active_listed m inputs o i n) pages)

-- the opcode, by whether the first byte is FD
opcode_first : (pages : Pages) (p b : ℕ) → at pages p ≡ b → ¬ (b ≡ 0xFD) → opcode_at pages p ≡ fetched (First b) (up16 p)
opcode_first pages p b e h =
    cond_false (eqb (at pages p) 0xFD) _ _ (ne_eqb (at pages p) 0xFD (λ q. h (sym e ∙ q))) ∙ ap (λ n. fetched (First n) (up16 p)) e

opcode_second : (pages : Pages) (p b : ℕ) → at pages p ≡ 0xFD → at pages (up16 p) ≡ b → opcode_at pages p ≡ fetched (AfterFd b) (up16 (up16 p))
opcode_second pages p b h e =
    cond_true (eqb (at pages p) 0xFD) _ _ (eq-eqb (at pages p) 0xFD h) ∙ ap (λ n. fetched (AfterFd n) (up16 (up16 p))) e

-- what "unlisted" says: the table has no entry, and a first byte is not FD
no_entry : (d : Option Listed) → is_listed d ≡ false → d ≡ None
no_entry (Some l) e = absurd (true≢false e)
no_entry None e = refl

first_no_entry : (b : ℕ) → listed_first b ≡ false → decoded b ≡ None
first_no_entry b e = no_entry (decoded b) (none_right (eqb b 0xFD) _ e)

first_not_fd : (b : ℕ) → listed_first b ≡ false → ¬ (b ≡ 0xFD)
first_not_fd b e = eqb-false b 0xFD (none_left (eqb b 0xFD) _ e)

first_unlisted : (b : ℕ) → ¬ (b ≡ 0xFD) → decoded b ≡ None → listed_first b ≡ false
first_unlisted b h e = rw (ne_eqb b 0xFD h, e)

module _ (m : Lh5801) (inputs : Inputs) (pages : Pages) where
  answer : StepEnd
  answer = (exec (step_of m inputs) pages).answer

  -- a halted step, and one that reads an opcode
  halting_answer : Halting m → answer ≡ halted_of (reached_of m) inputs
  unfolding answer
  halting_answer h = ap (λ p. (exec p pages).answer) (halting_step m inputs h) ∙ done_answer _ pages

  waiting_answer : Waits inputs m → answer ≡ did (timer_part_of (add_state_of (reached_of m) inputs.idle)) inputs.idle waiting
  waiting_answer w = halting_answer w.halting ∙ halted_waits (reached_of m) inputs w.idle

  fetching_answer : Fetches inputs m → (o : Code Opcode) → opcode_at pages m.p ≡ o → answer ≡ decoded_end (reached_of m) inputs pages o
  unfolding answer decoded_end
  fetching_answer f o e =
      ap (λ p. (exec p pages).answer) (fetching_step m inputs f)
      ∙ instruction_answer (reached_of m) inputs pages
      ∙ ap (decoded_end (reached_of m) inputs pages) (ap (opcode_at pages) (reached_p m) ∙ e)

  -- the condition of each stop tells the answer
  abbrev ConditionOf : Stop → Type 0
  ConditionOf Halted = HaltedStop inputs m
  ConditionOf AtAddress = AddressStop inputs m
  ConditionOf (Unlisted (First b)) = FirstUnlisted inputs m pages b
  ConditionOf (Unlisted (AfterFd b)) = SecondUnlisted inputs m pages b

  stop_answer : (s : Stop) → ConditionOf s → answer ≡ stopped s
  unfolding answer
  stop_answer Halted h = halting_answer h.halting ∙ halted_stops (reached_of m) inputs h.idle
  stop_answer AtAddress s = ap (λ p. (exec p pages).answer) (address_step m inputs s) ∙ done_answer _ pages
  stop_answer (Unlisted (First b)) f =
      let o : Code Opcode = fetched (First b) (up16 m.p) in
      fetching_answer f.fetches o (opcode_first pages m.p b f.first (first_not_fd b f.unlisted))
      ∙ end_unlisted (reached_of m) inputs pages o (first_no_entry b f.unlisted)
  stop_answer (Unlisted (AfterFd b)) f =
      let o : Code Opcode = fetched (AfterFd b) (up16 (up16 m.p)) in
      fetching_answer f.fetches o (opcode_second pages m.p b f.first f.second)
      ∙ end_unlisted (reached_of m) inputs pages o (no_entry (decoded_fd b) f.unlisted)

  -- the condition of a stop holds, or the step waits, or is completed otherwise
  data Case : Type 0 where
    is_stop : (s : Stop) → ConditionOf s → Case
    is_waiting : Waits inputs m → Case
    is_completed : IsActive answer → Case

  case_first : Fetches inputs m → (b : ℕ) → first_byte m pages ≡ b → ¬ (b ≡ 0xFD) → (d : Option Listed) → decoded b ≡ d → Case
  case_first r b f h (Some l) e =
      let o : Code Opcode = fetched (First b) (up16 m.p) in
      is_completed (subst IsActive (sym (fetching_answer r o (opcode_first pages m.p b f h))) (end_listed (reached_of m) inputs pages o l.instruction l.states e))
  case_first r b f h None e = is_stop (Unlisted (First b)) (record { fetches = r; first = f; unlisted = first_unlisted b h e })

  case_second : Fetches inputs m → first_byte m pages ≡ 0xFD → (b : ℕ) → second_byte m pages ≡ b → (d : Option Listed) → decoded_fd b ≡ d → Case
  case_second r h b f (Some l) e =
      let o : Code Opcode = fetched (AfterFd b) (up16 (up16 m.p)) in
      is_completed (subst IsActive (sym (fetching_answer r o (opcode_second pages m.p b h f))) (end_listed (reached_of m) inputs pages o l.instruction l.states e))
  case_second r h b f None e = is_stop (Unlisted (AfterFd b)) (record { fetches = r; first = h; second = f; unlisted = ap is_listed e })

  case_fetching : Fetches inputs m → Case
  case_fetching r = go (eqb (first_byte m pages) 0xFD) refl
    where
      go : (t : Bool) → eqb (first_byte m pages) 0xFD ≡ t → Case
      go true e = case_second r (eqb-true (first_byte m pages) 0xFD e) (second_byte m pages) refl (decoded_fd (second_byte m pages)) refl
      go false e = case_first r (first_byte m pages) refl (eqb-false (first_byte m pages) 0xFD e) (decoded (first_byte m pages)) refl

  case_due : Due m → Case
  case_due d = go (stops_at inputs m.p) refl
    where
      go : (t : Bool) → stops_at inputs m.p ≡ t → Case
      go true e = is_stop AtAddress (record { due = d; address = (stops_at_is inputs m.p).0 e })
      go false e = case_fetching (record { due = d; elsewhere = (elsewhere_is inputs m.p).0 e })

  case_halting : Halting m → Case
  case_halting h = go (ℕ_discrete inputs.idle 0)
    where
      go : Dec (inputs.idle ≡ 0) → Case
      go (yes e) = is_stop Halted (record { halting = h; idle = e })
      go (no e) = is_waiting (record { halting = h; idle = e })

  case_of : Case
  unfolding answer
  case_of = go m.bf refl (accepted m) refl m.is_halted refl
    where
      go : (b : Bool) → m.bf ≡ b → (a : Option Interrupt) → accepted m ≡ a → (h : Bool) → m.is_halted ≡ h → Case
      go false b a e h g = is_completed (always_exec IsActive (step_of m inputs) (off_step m inputs b) pages)
      go true b (Some i) e h g = is_completed (always_exec IsActive (step_of m inputs) (accepted_step m inputs b i e) pages)
      go true b None e true g = case_halting (record { on = b; halted = g; none = e })
      go true b None e false g = case_due (record { on = b; none = e; running = g })

  -- a completed step is no stop
  never_both : (s : Stop) → IsDid answer → answer ≡ stopped s → ⊥
  never_both s d e = subst IsDid e d

  waiting_did : Waits inputs m → IsDid answer
  waiting_did w = subst IsDid (sym (waiting_answer w)) tt

  completed_did : IsActive answer → IsDid answer
  completed_did = active_did answer

  -- a step stops with each of them exactly under its condition
  stops : (s : Stop) → (answer ≡ stopped s) ↔ ConditionOf s
  stops s = (λ e. go e case_of, stop_answer s)
    where
      go : answer ≡ stopped s → Case → ConditionOf s
      go e (is_stop t h) = let z : t ≡ s = cc (stop_answer t h, e) in subst ConditionOf z h
      go e (is_waiting w) = absurd (never_both s (waiting_did w) e)
      go e (is_completed d) = absurd (never_both s (completed_did d) e)

  -- 7
  pub stops_7 : ((exec (step_of m inputs) pages).answer ≡ stopped Halted) ↔ HaltedStop inputs m
  unfolding answer
  stops_7 = stops Halted

  -- 12
  pub stops_12 : ((exec (step_of m inputs) pages).answer ≡ stopped AtAddress) ↔ AddressStop inputs m
  unfolding answer
  stops_12 = stops AtAddress

  -- 5, with the byte
  pub stops_5 : (b : ℕ) → ((exec (step_of m inputs) pages).answer ≡ stopped (Unlisted (First b))) ↔ FirstUnlisted inputs m pages b
  unfolding answer
  stops_5 b = stops (Unlisted (First b))

  -- 6, with the byte
  pub stops_6 : (b : ℕ) → ((exec (step_of m inputs) pages).answer ≡ stopped (Unlisted (AfterFd b))) ↔ SecondUnlisted inputs m pages b
  unfolding answer
  stops_6 b = stops (Unlisted (AfterFd b))

  -- "no opcode is read": on 12 the step has made no access, and the pages are as before it
  pub stop_12_no_access : (exec (step_of m inputs) pages).answer ≡ stopped AtAddress
      → ((exec (step_of m inputs) pages).accesses ≡ []) × ((exec (step_of m inputs) pages).pages ≡ pages)
  stop_12_no_access e =
      let s = address_step m inputs (stops_12.0 e) in
      (ap (λ p. (exec p pages).accesses) s ∙ (done_none _ pages).1, ap (λ p. (exec p pages).pages) s ∙ (done_none _ pages).0)

  completes_did : (e : StepEnd) → IsDid e → Completes e
  completes_did (did k n kind) h = record { after = k; states = n; kind = kind; is = refl }
  completes_did (stopped s) h = absurd h

  no_condition : NoStop inputs m pages → (s : Stop) → ¬ ConditionOf s
  no_condition n Halted = n.seven
  no_condition n AtAddress = n.twelve
  no_condition n (Unlisted (First b)) = n.five b
  no_condition n (Unlisted (AfterFd b)) = n.six b

  -- 0: the step is completed exactly where no condition of a stop holds
  pub completes : Completes (exec (step_of m inputs) pages).answer ↔ NoStop inputs m pages
  unfolding answer
  completes = (
    λ c. record {
      seven = never c Halted;
      twelve = never c AtAddress;
      five = λ b. never c (Unlisted (First b));
      six = λ b. never c (Unlisted (AfterFd b));
    },
    go case_of,
  )
    where
      never : Completes answer → (s : Stop) → ¬ ConditionOf s
      never c s h = never_both s (subst IsDid (sym c.is) tt) (stop_answer s h)

      go : Case → NoStop inputs m pages → Completes answer
      go (is_stop s h) n = absurd (no_condition n s h)
      go (is_waiting w) n = completes_did answer (waiting_did w)
      go (is_completed d) n = completes_did answer (completed_did d)

  -- a step is of the waiting kind only where it waits
  pub waiting_only : (k : Lh5801) (s : ℕ) → (exec (step_of m inputs) pages).answer ≡ did k s waiting → Waits inputs m
  unfolding answer
  waiting_only k s e = go case_of
    where
      go : Case → Waits inputs m
      go (is_stop t h) = absurd (never_both t (subst IsDid (sym e) tt) (stop_answer t h))
      go (is_waiting w) = w
      go (is_completed d) = absurd (subst IsActive e d)
