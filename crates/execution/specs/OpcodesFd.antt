-- The opcodes after FD, from the arms of `instruction_fd` in lh5801.rs and document 01, "Opcodes", laid out as the first page in
-- Opcodes.antt. The states are those of the whole instruction: FD by itself adds none.
use Rattle.std.specs.Prelude.{ℕ, ◌/◌, ◌%◌, true, false, List, [], ◌∷◌, slice_index_or}
use Rattle.execution.specs.declared.places.Register.{Register}
use Rattle.execution.specs.declared.places.Register.TheVariants.{X, Y, U}
use Rattle.execution.specs.declared.places.Half.TheVariants.{High}
use Rattle.execution.specs.declared.places.Page.TheVariants.{Me1}
use Rattle.execution.specs.declared.places.Place.TheVariants.{Pointer, Fixed}
use Rattle.execution.specs.declared.instructions.Operation.TheVariants.{Sbc, Adc, Lda, Cpa, And, Ora, Dcs, Dca, Eor, Bit}
use Rattle.execution.specs.declared.instructions.Change.TheVariants.{Ani, Ori, Adi}
use Rattle.execution.specs.declared.instructions.Word.TheVariants.{Of, S, P}
use Rattle.execution.specs.declared.instructions.Accumulator.TheVariants.{Tta, Att, Ita, Am0, Am1}
use Rattle.execution.specs.declared.instructions.Signal.TheVariants.{Disp, InterruptEnable}
use Rattle.execution.specs.declared.instructions.Instruction.TheVariants.{Alu, Sta, Memory, Bii, Drr, Drl, Inc, Dec, OnA, Sets, PopWord, PushWord, PopA, PushA, ToX, FromX, DropWord, Adr, Off, Hlt, Cdv, Nop}
use Rattle.execution.specs.declared.instructions.Listed.{Listed}
use Rattle.std.specs.Prelude.{Option, None as ——}
use Rattle.execution.specs.Opcodes.{listed}

-- Rows 0, 1 and 2, at X, Y and U: A with the byte of page 1 that the register points to. FD 08, X to X, changes nothing.
abbrev pub row0 : Register → List (Option Listed)
row0 r =
    —— ∷  -- 0
    listed (Alu Sbc (Pointer Me1 r)) 11 ∷  -- 1
    —— ∷  -- 2
    listed (Alu Adc (Pointer Me1 r)) 11 ∷  -- 3
    —— ∷  -- 4
    listed (Alu Lda (Pointer Me1 r)) 10 ∷  -- 5
    —— ∷  -- 6
    listed (Alu Cpa (Pointer Me1 r)) 11 ∷  -- 7
    listed (ToX (Of r)) 11 ∷  -- 8
    listed (Alu And (Pointer Me1 r)) 11 ∷  -- 9
    listed (PopWord r) 15 ∷  -- A
    listed (Alu Ora (Pointer Me1 r)) 11 ∷  -- B
    listed (Alu Dcs (Pointer Me1 r)) 17 ∷  -- C
    listed (Alu Eor (Pointer Me1 r)) 11 ∷  -- D
    listed (Sta (Pointer Me1 r)) 10 ∷  -- E
    listed (Alu Bit (Pointer Me1 r)) 11 ∷  -- F
    []

-- Row 3: a word dropped from the stack.
abbrev pub row3 : List (Option Listed)
row3 =
    —— ∷ —— ∷ —— ∷ —— ∷ —— ∷ —— ∷ —— ∷ —— ∷ —— ∷ —— ∷  -- 0 to 9
    listed DropWord 15 ∷  -- A
    —— ∷ —— ∷ —— ∷ —— ∷ —— ∷  -- B to F
    []

-- Rows 4, 5 and 6, at X, Y and U; at8, at_c and at_e stand in columns 8, C and E. FD 4A, X to X,
-- changes nothing.
abbrev pub row4 : Register → Option Listed → Option Listed → Option Listed → List (Option Listed)
row4 r at8 at_c at_e =
    listed (Inc (High r)) 9 ∷  -- 0
    —— ∷  -- 1
    listed (Dec (High r)) 9 ∷  -- 2
    —— ∷ —— ∷ —— ∷ —— ∷ —— ∷  -- 3 to 7
    at8 ∷  -- 8
    listed (Memory Ani (Pointer Me1 r)) 17 ∷  -- 9
    listed (FromX (Of r)) 11 ∷  -- A
    listed (Memory Ori (Pointer Me1 r)) 17 ∷  -- B
    at_c ∷  -- C
    listed (Bii (Pointer Me1 r)) 14 ∷  -- D
    at_e ∷  -- E
    listed (Memory Adi (Pointer Me1 r)) 17 ∷  -- F
    []

abbrev pub row4_x : List (Option Listed)
row4_x = row4 X (listed (ToX S) 11) (listed Off 8) (listed (FromX S) 11)

abbrev pub row4_y : List (Option Listed)
row4_y = row4 Y (listed (ToX P) 11) —— (listed (FromX P) 11)

abbrev pub row4_u : List (Option Listed)
row4_u = row4 U —— —— ——

-- Rows 7 and F list nothing.
abbrev pub empty_row : List (Option Listed)
empty_row =
    —— ∷ —— ∷ —— ∷ —— ∷ —— ∷ —— ∷ —— ∷ —— ∷ —— ∷ —— ∷ —— ∷ —— ∷ —— ∷ —— ∷ —— ∷ —— ∷  -- 0 to F
    []

-- Rows 8 and 9, at X and Y; at1, at_a and at_e stand in columns 1, A and E.
abbrev pub row8 : Register → Option Listed → Option Listed → Option Listed → List (Option Listed)
row8 r at1 at_a at_e =
    —— ∷  -- 0
    at1 ∷  -- 1
    —— ∷ —— ∷ —— ∷ —— ∷ —— ∷ —— ∷  -- 2 to 7
    listed (PushWord r) 14 ∷  -- 8
    —— ∷  -- 9
    at_a ∷  -- A
    —— ∷  -- B
    listed (Alu Dca (Pointer Me1 r)) 19 ∷  -- C
    —— ∷  -- D
    at_e ∷  -- E
    —— ∷  -- F
    []

abbrev pub row8_x : List (Option Listed)
row8_x = row8 X (listed (Sets InterruptEnable true) 8) (listed PopA 12) (listed Cdv 8)

abbrev pub row8_y : List (Option Listed)
row8_y = row8 Y —— —— ——

-- Row A: A with the byte of page 1 at the word in the code.
abbrev pub row_a : List (Option Listed)
row_a =
    —— ∷  -- 0
    listed (Alu Sbc (Fixed Me1)) 17 ∷  -- 1
    —— ∷  -- 2
    listed (Alu Adc (Fixed Me1)) 17 ∷  -- 3
    —— ∷  -- 4
    listed (Alu Lda (Fixed Me1)) 16 ∷  -- 5
    —— ∷  -- 6
    listed (Alu Cpa (Fixed Me1)) 17 ∷  -- 7
    listed (PushWord U) 14 ∷  -- 8
    listed (Alu And (Fixed Me1)) 17 ∷  -- 9
    listed (OnA Tta) 9 ∷  -- A
    listed (Alu Ora (Fixed Me1)) 17 ∷  -- B
    listed (Alu Dca (Pointer Me1 U)) 19 ∷  -- C
    listed (Alu Eor (Fixed Me1)) 17 ∷  -- D
    listed (Sta (Fixed Me1)) 16 ∷  -- E
    listed (Alu Bit (Fixed Me1)) 17 ∷  -- F
    []

abbrev pub row_b : List (Option Listed)
row_b =
    —— ∷  -- 0
    listed Hlt 9 ∷  -- 1
    —— ∷ —— ∷ —— ∷ —— ∷ —— ∷ —— ∷ —— ∷ —— ∷  -- 2 to 9
    listed (OnA Ita) 9 ∷  -- A
    —— ∷ —— ∷ —— ∷  -- B to D
    listed (Sets InterruptEnable false) 8 ∷  -- E
    —— ∷  -- F
    []

abbrev pub row_c : List (Option Listed)
row_c =
    listed (Sets Disp false) 8 ∷  -- 0
    listed (Sets Disp true) 8 ∷  -- 1
    —— ∷ —— ∷ —— ∷ —— ∷ —— ∷ —— ∷  -- 2 to 7
    listed PushA 11 ∷  -- 8
    —— ∷  -- 9
    listed (Adr X) 11 ∷  -- A
    —— ∷  -- B
    listed Nop 9 ∷  -- C
    —— ∷  -- D
    listed (OnA Am0) 9 ∷  -- E
    —— ∷  -- F
    []

abbrev pub row_d : List (Option Listed)
row_d =
    —— ∷ —— ∷ —— ∷  -- 0 to 2
    listed (Drr Me1) 16 ∷  -- 3
    —— ∷ —— ∷ —— ∷  -- 4 to 6
    listed (Drl Me1) 16 ∷  -- 7
    —— ∷ —— ∷  -- 8 9
    listed (Adr Y) 11 ∷  -- A
    —— ∷ —— ∷ —— ∷  -- B to D
    listed (OnA Am1) 9 ∷  -- E
    —— ∷  -- F
    []

abbrev pub row_e : List (Option Listed)
row_e =
    —— ∷ —— ∷ —— ∷ —— ∷ —— ∷ —— ∷ —— ∷ —— ∷ —— ∷  -- 0 to 8
    listed (Memory Ani (Fixed Me1)) 23 ∷  -- 9
    listed (Adr U) 11 ∷  -- A
    listed (Memory Ori (Fixed Me1)) 23 ∷  -- B
    listed (OnA Att) 9 ∷  -- C
    listed (Bii (Fixed Me1)) 20 ∷  -- D
    —— ∷  -- E
    listed (Memory Adi (Fixed Me1)) 23 ∷  -- F
    []

abbrev pub rows_fd : List (List (Option Listed))
rows_fd =
    row0 X ∷ row0 Y ∷ row0 U ∷ row3
    ∷ row4_x ∷ row4_y ∷ row4_u ∷ empty_row
    ∷ row8_x ∷ row8_y ∷ row_a ∷ row_b
    ∷ row_c ∷ row_d ∷ row_e ∷ empty_row
    ∷ []

-- what a byte after FD stands for
unfoldable pub decoded_fd : ℕ → Option Listed
decoded_fd op = slice_index_or (slice_index_or rows_fd (op / 16) []) (op % 16) ——
