-- How the code is built, and need not be believed: proofs/AccessesAhead.antt shows that these are the accesses of the step.
-- The accesses of the coming step, computed from the record and the pages before it, for the log of document 02's F-2. Each instruction has a
-- shape, what is read and written after its own bytes; `shape_accesses` says what each shape stands for.
use Rattle.std.specs.Prelude.{ℕ, zero, suc, ◌+◌, ◌/◌, ◌%◌, cond, ◌&&◌, Option, Some, None, List, [], ◌∷◌, ◌++◌, ◌==◌}
use Rattle.arithmetic.specs.declared.record.Lh5801.{Lh5801}
use Rattle.arithmetic.specs.Record.{with_p}
use Rattle.arithmetic.specs.Shifts.{drl_moved, drr_moved}
use Rattle.pages.specs.declared.Code.{Code}
use Rattle.pages.specs.Pages.{Pages, at, stored}
use Rattle.pages.specs.Prog.{Access, read_of, write_of, exec}
use Rattle.pages.specs.Stack.{up16, down16}
use Rattle.execution.specs.declared.places.Register.TheVariants.{X}
use Rattle.execution.specs.declared.places.Page.TheVariants.{Me0}
use Rattle.execution.specs.declared.places.Place.{Place}
use Rattle.execution.specs.declared.places.Place.TheVariants.{InHalf, Pointer, Fixed, InCode}
use Rattle.execution.specs.declared.instructions.Condition.{Condition}
use Rattle.execution.specs.declared.instructions.Instruction.{Instruction}
use Rattle.execution.specs.declared.instructions.Instruction.TheVariants.{Alu, Sta, Memory, Bii, Drr, Drl, Load, Compare, Inc, Dec, IncWord, DecWord, Sin, Sde, Lin, Lde, Branch, Lop, VectorIf, Vector, Jmp, Sjp, Rtn, Rti, LoadS, Tin, Cin, OnA, Sets, PopWord, PushWord, PopA, PushA, ToX, FromX, DropWord, Adr, Off, Hlt, Cdv, Nop}
use Rattle.execution.specs.declared.instructions.Listed.{Listed}
use Rattle.execution.specs.declared.shapes.Action.{Action}
use Rattle.execution.specs.declared.shapes.Action.TheVariants.{Read, StoreA, Update, Test, RotateRight, RotateLeft}
use Rattle.execution.specs.declared.shapes.Shape.{Shape}
use Rattle.execution.specs.declared.shapes.Shape.TheVariants as shapes
use Rattle.execution.specs.declared.Opcode.{Opcode}
use Rattle.execution.specs.declared.Opcode.TheVariants.{First, AfterFd}
use Rattle.execution.specs.declared.interrupts.Interrupt.{Interrupt}
use Rattle.execution.specs.Interrupts.{accepted, vector_address}
use Rattle.execution.specs.Places.{word_in, locate_of}
use Rattle.execution.specs.Instructions.{changed_of, holds_of}
use Rattle.execution.specs.Step.{fetched, decoded_by}

-- the opcode that the pages hold at p
abbrev pub opcode_at : Pages → ℕ → Code Opcode
opcode_at pages p =
    cond (at pages p == 0xFD) (fetched (AfterFd (at pages (up16 p))) (up16 (up16 p))) (fetched (First (at pages p)) (up16 p))

-- k bytes read one after the other from a, which wraps on 16 bits
abbrev pub bytes_from : Pages → ℕ → ℕ → List Access
bytes_from pages a zero = []
bytes_from pages a (suc k) = read_of a (at pages a) ∷ bytes_from pages (up16 a) k

-- the word w pushed, where S is s: low byte first
abbrev pub push_word_accesses : ℕ → ℕ → List Access
push_word_accesses s w = write_of s (w % 256) ∷ write_of (down16 s) (w / 256) ∷ []

-- what the address a reads after v was written at s, where it read b before: a write that is not stored changes nothing
abbrev pub after_write : Pages → ℕ → ℕ → ℕ → ℕ → ℕ
after_write pages s v a b = cond (stored pages a && a == s) v b

-- what it reads after the word w was pushed, where S was s
abbrev pub after_push_word : Pages → ℕ → ℕ → ℕ → ℕ → ℕ
after_push_word pages s w a b = after_write pages (down16 s) (w / 256) a (after_write pages s (w % 256) a b)

-- a word pushed, and then the vector at a read, which held high and low before the push
abbrev pub push_and_vector_accesses : Pages → ℕ → ℕ → ℕ → ℕ → ℕ → List Access
push_and_vector_accesses pages s w a high low =
    push_word_accesses s w ++ (read_of a (after_push_word pages s w a high) ∷ read_of (a + 1) (after_push_word pages s w (a + 1) low) ∷ [])

-- a vector taken, by its number
abbrev pub vector_accesses : Pages → ℕ → ℕ → ℕ → List Access
vector_accesses pages s w nr = push_and_vector_accesses pages s w (0xFF00 + nr) (at pages (0xFF00 + nr)) (at pages (0xFF00 + nr + 1))

-- an accepted interrupt: T pushed, then P pushed and the vector at a read
abbrev pub accept_accesses : Lh5801 → Pages → ℕ → List Access
accept_accesses m pages a =
    write_of m.s m.t ∷ push_and_vector_accesses pages (down16 m.s) m.p a (after_write pages m.s m.t a (at pages a))
    (after_write pages m.s m.t (a + 1) (at pages (a + 1)))

-- what is done at the address a, where the code goes on at p: ANI, ORI and ADI read the immediate before the memory byte, BII after it
abbrev pub accesses_at : Lh5801 → Pages → Action → ℕ → ℕ → List Access
accesses_at m pages Read a p = read_of a (at pages a) ∷ []
accesses_at m pages StoreA a p = write_of a m.a ∷ []
accesses_at m pages (Update o) a p = read_of p (at pages p) ∷ read_of a (at pages a) ∷ write_of a (changed_of m.t o (at pages a) (at pages p)).value ∷ []
accesses_at m pages Test a p = read_of a (at pages a) ∷ read_of p (at pages p) ∷ []
accesses_at m pages RotateRight a p = read_of a (at pages a) ∷ write_of a (drr_moved m.a (at pages a)).byte ∷ []
accesses_at m pages RotateLeft a p = read_of a (at pages a) ∷ write_of a (drl_moved m.a (at pages a)).byte ∷ []

-- at a place in memory: its word in the code is read first, where it has one
abbrev pub located_at : Lh5801 → Pages → Place → Code ℕ
located_at m pages place = (exec (locate_of m place) pages).answer

abbrev pub place_accesses : Lh5801 → Pages → Action → Place → List Access
place_accesses m pages o place =
    (exec (locate_of m place) pages).accesses ++ accesses_at m pages o (located_at m pages place).value (located_at m pages place).p

-- the vector's number in the code, and where the condition holds, the vector
abbrev pub vector_if_accesses : Lh5801 → Pages → Condition → List Access
vector_if_accesses m pages c =
    read_of m.p (at pages m.p) ∷ cond (holds_of m.t c) (vector_accesses pages m.s (up16 m.p) (at pages m.p)) []

-- the accesses after the opcode, by the shape; P stands after the opcode
abbrev pub shape_accesses : Lh5801 → Pages → Shape → List Access
shape_accesses m pages (shapes.At o place) = place_accesses m pages o place
shape_accesses m pages (shapes.Operand k) = bytes_from pages m.p k
shape_accesses m pages (shapes.Popped k) = bytes_from pages (up16 m.s) k
shape_accesses m pages shapes.PushA = write_of m.s m.a ∷ []
shape_accesses m pages (shapes.PushWord r) = push_word_accesses m.s (word_in m r)
-- the byte at X, written at Y
shape_accesses m pages shapes.Tin = read_of m.x (at pages m.x) ∷ write_of m.y (at pages m.x) ∷ []
-- the word in the code, and the address after it pushed
shape_accesses m pages shapes.Sjp = bytes_from pages m.p 2 ++ push_word_accesses m.s (up16 (up16 m.p))
shape_accesses m pages (shapes.Vector nr) = vector_accesses pages m.s m.p nr
shape_accesses m pages (shapes.VectorIf c) = vector_if_accesses m pages c

-- the byte of a place read, and A put there
abbrev pub operand_shape : Place → Shape
operand_shape (InHalf h) = shapes.Operand 0
operand_shape (Pointer page r) = shapes.At Read (Pointer page r)
operand_shape (Fixed page) = shapes.At Read (Fixed page)
operand_shape InCode = shapes.Operand 1

abbrev pub store_shape : Place → Shape
store_shape (InHalf h) = shapes.Operand 0
store_shape (Pointer page r) = shapes.At StoreA (Pointer page r)
store_shape (Fixed page) = shapes.At StoreA (Fixed page)
store_shape InCode = shapes.At StoreA InCode

-- the shape of each instruction
abbrev pub shape_of : Instruction → Shape
shape_of (Alu o place) = operand_shape place
shape_of (Sta place) = store_shape place
shape_of (Memory o place) = shapes.At (Update o) place
shape_of (Bii place) = shapes.At Test place
shape_of (Drr page) = shapes.At RotateRight (Pointer page X)
shape_of (Drl page) = shapes.At RotateLeft (Pointer page X)
shape_of (Load h) = shapes.Operand 1
shape_of (Compare h) = shapes.Operand 1
shape_of (Inc h) = shapes.Operand 0
shape_of (Dec h) = shapes.Operand 0
shape_of (IncWord r) = shapes.Operand 0
shape_of (DecWord r) = shapes.Operand 0
shape_of (Sin r) = shapes.At StoreA (Pointer Me0 r)
shape_of (Sde r) = shapes.At StoreA (Pointer Me0 r)
shape_of (Lin r) = shapes.At Read (Pointer Me0 r)
shape_of (Lde r) = shapes.At Read (Pointer Me0 r)
shape_of (Branch direction c) = shapes.Operand 1
shape_of Lop = shapes.Operand 1
shape_of (VectorIf c) = shapes.VectorIf c
shape_of (Vector nr) = shapes.Vector nr
shape_of Jmp = shapes.Operand 2
shape_of Sjp = shapes.Sjp
shape_of Rtn = shapes.Popped 2
shape_of Rti = shapes.Popped 3
shape_of LoadS = shapes.Operand 2
shape_of Tin = shapes.Tin
shape_of Cin = shapes.At Read (Pointer Me0 X)
shape_of (OnA o) = shapes.Operand 0
shape_of (Sets s v) = shapes.Operand 0
shape_of (PopWord r) = shapes.Popped 2
shape_of (PushWord r) = shapes.PushWord r
shape_of PopA = shapes.Popped 1
shape_of PushA = shapes.PushA
shape_of (ToX w) = shapes.Operand 0
shape_of (FromX w) = shapes.Operand 0
shape_of DropWord = shapes.Operand 0
shape_of (Adr r) = shapes.Operand 0
shape_of Off = shapes.Operand 0
shape_of Hlt = shapes.Operand 0
shape_of Cdv = shapes.Operand 0
shape_of Nop = shapes.Operand 0

abbrev pub shape_in : Option Listed → Option Shape
shape_in (Some l) = Some (shape_of l.instruction)
shape_in None = None

-- the shape of an opcode
unfoldable pub shape_by : Opcode → Option Shape
shape_by opcode = shape_in (decoded_by opcode)

-- the bytes that name an instruction
abbrev pub opcode_accesses : Pages → ℕ → Opcode → List Access
opcode_accesses pages p (First byte) = bytes_from pages p 1
opcode_accesses pages p (AfterFd byte) = bytes_from pages p 2

-- the accesses of the instruction that this opcode names, by its shape, and none where it is unlisted
abbrev pub fetched_accesses : Lh5801 → Pages → Code Opcode → Option Shape → List Access
fetched_accesses m pages o None = []
fetched_accesses m pages o (Some shape) = opcode_accesses pages m.p o.value ++ shape_accesses (with_p m o.p) pages shape

unfoldable pub instruction_accesses : Lh5801 → Pages → List Access
instruction_accesses m pages = fetched_accesses m pages (opcode_at pages m.p) (shape_by (opcode_at pages m.p).value)

-- with BF set: those of the interrupt that is accepted; none where the unit is halted, whether the step waits or stops; else those of the instruction
abbrev pub powered_accesses : Lh5801 → Pages → Option Interrupt → List Access
powered_accesses m pages (Some i) = accept_accesses m pages (vector_address i)
powered_accesses m pages None = cond m.is_halted [] (instruction_accesses m pages)

-- the accesses of the coming step
abbrev pub step_accesses : Lh5801 → Pages → List Access
step_accesses m pages = cond m.bf (powered_accesses m pages (accepted m)) []
