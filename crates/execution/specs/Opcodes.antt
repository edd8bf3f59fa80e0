-- The opcodes of the first page, from the arms of `instruction` in lh5801.rs and document 01, "Opcodes": a row for each high digit, and in it
-- 16 entries, the column behind each. An entry is the instruction with its operand place and its states: the number that the arm adds,
-- without what a taken branch, LOP or a vector adds (`added_when_taken` in States.antt). —— is an unlisted byte.
-- Places: InHalf (Low X) is XL; Pointer Me0 X is the byte of page 0 that X points to; Fixed Me0 is the byte of page 0 at the word in the code;
-- InCode is the byte in the code; Missing is the register that the LH5801 does not have.
use Rattle.std.specs.Prelude.{ℕ, ◌/◌, ◌%◌, true, false, List, [], ◌∷◌, slice_index_or}
use Rattle.execution.specs.declared.places.Register.{Register}
use Rattle.execution.specs.declared.places.Register.TheVariants.{X, Y, U}
use Rattle.execution.specs.declared.places.Half.TheVariants.{High, Low, Missing}
use Rattle.execution.specs.declared.places.Page.TheVariants.{Me0}
use Rattle.execution.specs.declared.places.Place.TheVariants.{InHalf, Pointer, Fixed, InCode}
use Rattle.execution.specs.declared.instructions.Operation.TheVariants.{Sbc, Adc, Lda, Cpa, And, Ora, Dcs, Dca, Eor, Bit}
use Rattle.execution.specs.declared.instructions.Change.TheVariants.{Ani, Ori, Adi}
use Rattle.execution.specs.declared.instructions.Condition.TheVariants.{NoCarry, Carry, NoHalfCarry, HalfCarry, NotZero, Zero, NoOverflow, Overflow, Always}
use Rattle.execution.specs.declared.instructions.Direction.{Direction}
use Rattle.execution.specs.declared.instructions.Direction.TheVariants.{Forward, Backward}
use Rattle.execution.specs.declared.instructions.Accumulator.TheVariants.{IncA, DecA, Ror, Shr, Shl, Rol, Aex}
use Rattle.execution.specs.declared.instructions.Signal.TheVariants.{Pu, Pv, CarryFlag}
use Rattle.execution.specs.declared.instructions.Instruction.TheVariants.{Alu, Sta, Memory, Bii, Drr, Drl, Load, Compare, Inc, Dec, IncWord, DecWord, Sin, Sde, Lin, Lde, Branch, Lop, VectorIf, Vector, Jmp, Sjp, Rtn, Rti, LoadS, Tin, Cin, OnA, Sets}
use Rattle.execution.specs.declared.instructions.Instruction.{Instruction}
use Rattle.execution.specs.declared.instructions.Listed.{Listed}
use Rattle.std.specs.Prelude.{Option, Some, None as ——}

-- an entry: the instruction and its states
abbrev pub listed : Instruction → ℕ → Option Listed
listed i n = Some (record { instruction = i; states = n })

-- Rows 0, 1 and 2, at X, Y and U: A with the low half, and with the byte of page 0 that the register points to.
abbrev pub row0 : Register → List (Option Listed)
row0 r =
    listed (Alu Sbc (InHalf (Low r))) 6 ∷  -- 0
    listed (Alu Sbc (Pointer Me0 r)) 7 ∷  -- 1
    listed (Alu Adc (InHalf (Low r))) 6 ∷  -- 2
    listed (Alu Adc (Pointer Me0 r)) 7 ∷  -- 3
    listed (Alu Lda (InHalf (Low r))) 5 ∷  -- 4
    listed (Alu Lda (Pointer Me0 r)) 6 ∷  -- 5
    listed (Alu Cpa (InHalf (Low r))) 6 ∷  -- 6
    listed (Alu Cpa (Pointer Me0 r)) 7 ∷  -- 7
    listed (Sta (InHalf (High r))) 5 ∷  -- 8
    listed (Alu And (Pointer Me0 r)) 7 ∷  -- 9
    listed (Sta (InHalf (Low r))) 5 ∷  -- A
    listed (Alu Ora (Pointer Me0 r)) 7 ∷  -- B
    listed (Alu Dcs (Pointer Me0 r)) 13 ∷  -- C
    listed (Alu Eor (Pointer Me0 r)) 7 ∷  -- D
    listed (Sta (Pointer Me0 r)) 6 ∷  -- E
    listed (Alu Bit (Pointer Me0 r)) 7 ∷  -- F
    []

-- Row 3: A with the register that the LH5801 does not have.
abbrev pub row3 : List (Option Listed)
row3 =
    listed (Alu Sbc (InHalf Missing)) 6 ∷  -- 0
    —— ∷  -- 1
    listed (Alu Adc (InHalf Missing)) 6 ∷  -- 2
    —— ∷  -- 3
    listed (Alu Lda (InHalf Missing)) 5 ∷  -- 4
    —— ∷  -- 5
    listed (Alu Cpa (InHalf Missing)) 6 ∷  -- 6
    —— ∷  -- 7
    listed (Sta (InHalf Missing)) 5 ∷  -- 8
    —— ∷ —— ∷ —— ∷ —— ∷ —— ∷ —— ∷ —— ∷  -- 9 to F
    []

-- Rows 4, 5 and 6, at X, Y and U: the register, its halves, and the byte of page 0 that it points to.
abbrev pub row4 : Register → List (Option Listed)
row4 r =
    listed (Inc (Low r)) 5 ∷  -- 0
    listed (Sin r) 6 ∷  -- 1
    listed (Dec (Low r)) 5 ∷  -- 2
    listed (Sde r) 6 ∷  -- 3
    listed (IncWord r) 5 ∷  -- 4
    listed (Lin r) 6 ∷  -- 5
    listed (DecWord r) 5 ∷  -- 6
    listed (Lde r) 6 ∷  -- 7
    listed (Load (High r)) 6 ∷  -- 8
    listed (Memory Ani (Pointer Me0 r)) 13 ∷  -- 9
    listed (Load (Low r)) 6 ∷  -- A
    listed (Memory Ori (Pointer Me0 r)) 13 ∷  -- B
    listed (Compare (High r)) 7 ∷  -- C
    listed (Bii (Pointer Me0 r)) 10 ∷  -- D
    listed (Compare (Low r)) 7 ∷  -- E
    listed (Memory Adi (Pointer Me0 r)) 13 ∷  -- F
    []

-- Row 7: the register that the LH5801 does not have, again.
abbrev pub row7 : List (Option Listed)
row7 =
    —— ∷ —— ∷  -- 0 1
    listed (Dec Missing) 5 ∷  -- 2
    —— ∷ —— ∷ —— ∷ —— ∷ —— ∷ —— ∷ —— ∷ —— ∷ —— ∷ —— ∷ —— ∷ —— ∷ —— ∷  -- 3 to F
    []

-- Rows 8 and 9, the branches forward and backward; at8 and at_a stand in columns 8 and A.
abbrev pub branches : Direction → Register → Option Listed → Option Listed → List (Option Listed)
branches direction r at8 at_a =
    listed (Alu Sbc (InHalf (High r))) 6 ∷  -- 0
    listed (Branch direction NoCarry) 8 ∷  -- 1
    listed (Alu Adc (InHalf (High r))) 6 ∷  -- 2
    listed (Branch direction Carry) 8 ∷  -- 3
    listed (Alu Lda (InHalf (High r))) 5 ∷  -- 4
    listed (Branch direction NoHalfCarry) 8 ∷  -- 5
    listed (Alu Cpa (InHalf (High r))) 6 ∷  -- 6
    listed (Branch direction HalfCarry) 8 ∷  -- 7
    at8 ∷  -- 8
    listed (Branch direction NotZero) 8 ∷  -- 9
    at_a ∷  -- A
    listed (Branch direction Zero) 8 ∷  -- B
    listed (Alu Dca (Pointer Me0 r)) 15 ∷  -- C
    listed (Branch direction NoOverflow) 8 ∷  -- D
    listed (Branch direction Always) 6 ∷  -- E
    listed (Branch direction Overflow) 8 ∷  -- F
    []

abbrev pub row8 : List (Option Listed)
row8 = branches Forward X (listed Lop 8) (listed Rti 14)

abbrev pub row9 : List (Option Listed)
row9 = branches Backward Y —— (listed Rtn 11)

-- Row A: A with UH, and with the byte of page 0 at the word in the code.
abbrev pub row_a : List (Option Listed)
row_a =
    listed (Alu Sbc (InHalf (High U))) 6 ∷  -- 0
    listed (Alu Sbc (Fixed Me0)) 13 ∷  -- 1
    listed (Alu Adc (InHalf (High U))) 6 ∷  -- 2
    listed (Alu Adc (Fixed Me0)) 13 ∷  -- 3
    listed (Alu Lda (InHalf (High U))) 5 ∷  -- 4
    listed (Alu Lda (Fixed Me0)) 12 ∷  -- 5
    listed (Alu Cpa (InHalf (High U))) 6 ∷  -- 6
    listed (Alu Cpa (Fixed Me0)) 13 ∷  -- 7
    listed (Sets Pv true) 4 ∷  -- 8
    listed (Alu And (Fixed Me0)) 13 ∷  -- 9
    listed LoadS 12 ∷  -- A
    listed (Alu Ora (Fixed Me0)) 13 ∷  -- B
    listed (Alu Dca (Pointer Me0 U)) 15 ∷  -- C
    listed (Alu Eor (Fixed Me0)) 13 ∷  -- D
    listed (Sta (Fixed Me0)) 12 ∷  -- E
    listed (Alu Bit (Fixed Me0)) 13 ∷  -- F
    []

-- Row B: A with the byte in the code; JMP and SJP take the word in the code.
abbrev pub row_b : List (Option Listed)
row_b =
    —— ∷  -- 0
    listed (Alu Sbc InCode) 7 ∷  -- 1
    —— ∷  -- 2
    listed (Alu Adc InCode) 7 ∷  -- 3
    —— ∷  -- 4
    listed (Alu Lda InCode) 6 ∷  -- 5
    —— ∷  -- 6
    listed (Alu Cpa InCode) 7 ∷  -- 7
    listed (Sets Pv false) 4 ∷  -- 8
    listed (Alu And InCode) 7 ∷  -- 9
    listed Jmp 12 ∷  -- A
    listed (Alu Ora InCode) 7 ∷  -- B
    —— ∷  -- C
    listed (Alu Eor InCode) 7 ∷  -- D
    listed Sjp 19 ∷  -- E
    listed (Alu Bit InCode) 7 ∷  -- F
    []

-- Rows C to F: in the even columns the byte itself is the number of a vector. The vectors of row C that ask a flag read theirs in the code.
abbrev pub row_c : List (Option Listed)
row_c =
    listed (Vector 0xC0) 4 ∷  -- 0
    listed (VectorIf NoCarry) 8 ∷  -- 1
    listed (Vector 0xC2) 4 ∷  -- 2
    listed (VectorIf Carry) 8 ∷  -- 3
    listed (Vector 0xC4) 4 ∷  -- 4
    listed (VectorIf NoHalfCarry) 8 ∷  -- 5
    listed (Vector 0xC6) 4 ∷  -- 6
    listed (VectorIf HalfCarry) 8 ∷  -- 7
    listed (Vector 0xC8) 4 ∷  -- 8
    listed (VectorIf NotZero) 8 ∷  -- 9
    listed (Vector 0xCA) 4 ∷  -- A
    listed (VectorIf Zero) 8 ∷  -- B
    listed (Vector 0xCC) 4 ∷  -- C
    listed (VectorIf Always) 7 ∷  -- D
    listed (Vector 0xCE) 4 ∷  -- E
    listed (VectorIf Overflow) 8 ∷  -- F
    []

abbrev pub row_d : List (Option Listed)
row_d =
    listed (Vector 0xD0) 4 ∷  -- 0
    listed (OnA Ror) 9 ∷  -- 1
    listed (Vector 0xD2) 4 ∷  -- 2
    listed (Drr Me0) 12 ∷  -- 3
    listed (Vector 0xD4) 4 ∷  -- 4
    listed (OnA Shr) 9 ∷  -- 5
    listed (Vector 0xD6) 4 ∷  -- 6
    listed (Drl Me0) 12 ∷  -- 7
    listed (Vector 0xD8) 4 ∷  -- 8
    listed (OnA Shl) 6 ∷  -- 9
    listed (Vector 0xDA) 4 ∷  -- A
    listed (OnA Rol) 8 ∷  -- B
    listed (Vector 0xDC) 4 ∷  -- C
    listed (OnA IncA) 5 ∷  -- D
    listed (Vector 0xDE) 4 ∷  -- E
    listed (OnA DecA) 5 ∷  -- F
    []

abbrev pub row_e : List (Option Listed)
row_e =
    listed (Vector 0xE0) 4 ∷  -- 0
    listed (Sets Pu true) 4 ∷  -- 1
    listed (Vector 0xE2) 4 ∷  -- 2
    listed (Sets Pu false) 4 ∷  -- 3
    listed (Vector 0xE4) 4 ∷  -- 4
    —— ∷  -- 5
    listed (Vector 0xE6) 4 ∷  -- 6
    —— ∷  -- 7
    listed (Vector 0xE8) 4 ∷  -- 8
    listed (Memory Ani (Fixed Me0)) 19 ∷  -- 9
    listed (Vector 0xEA) 4 ∷  -- A
    listed (Memory Ori (Fixed Me0)) 19 ∷  -- B
    listed (Vector 0xEC) 4 ∷  -- C
    listed (Bii (Fixed Me0)) 16 ∷  -- D
    listed (Vector 0xEE) 4 ∷  -- E
    listed (Memory Adi (Fixed Me0)) 19 ∷  -- F
    []

-- FD names no instruction: the fetch reads the byte after it, and that byte is looked up in OpcodesFd.antt. So FD's place here is blank, and
-- `listed_first` says that it is listed.
abbrev pub row_f : List (Option Listed)
row_f =
    listed (Vector 0xF0) 4 ∷  -- 0
    listed (OnA Aex) 6 ∷  -- 1
    listed (Vector 0xF2) 4 ∷  -- 2
    —— ∷  -- 3
    listed (Vector 0xF4) 4 ∷  -- 4
    listed Tin 7 ∷  -- 5
    listed (Vector 0xF6) 4 ∷  -- 6
    listed Cin 7 ∷  -- 7
    —— ∷  -- 8
    listed (Sets CarryFlag false) 4 ∷  -- 9
    —— ∷  -- A
    listed (Sets CarryFlag true) 4 ∷  -- B
    —— ∷ —— ∷ —— ∷ —— ∷  -- C to F
    []

abbrev pub rows : List (List (Option Listed))
rows =
    row0 X ∷ row0 Y ∷ row0 U ∷ row3
    ∷ row4 X ∷ row4 Y ∷ row4 U ∷ row7
    ∷ row8 ∷ row9 ∷ row_a ∷ row_b
    ∷ row_c ∷ row_d ∷ row_e ∷ row_f
    ∷ []

-- what a first byte other than FD stands for
unfoldable pub decoded : ℕ → Option Listed
decoded op = slice_index_or (slice_index_or rows (op / 16) []) (op % 16) ——
