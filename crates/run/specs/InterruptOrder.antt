-- Two calls with all three requests set (document 02, F-6): the whole of what must come out. proofs/InterruptOrder.antt has the theorems over them.
use Rattle.std.specs.Prelude.{ℕ, ◌+◌, ◌-◌, List, [], ◌∷◌, ◌++◌, replicate}
use Rattle.arithmetic.specs.declared.record.Lh5801.{Lh5801}
use Rattle.pages.specs.Pages.{Pages, writable}
use Rattle.pages.specs.Prog.{Access, read_of, write_of}
use Rattle.run.specs.declared.End.TheVariants.{AllSteps}
use Rattle.run.specs.Run.{CallResult, call_result}
use Rattle.run.specs.RecordNumbers.{record_of}

-- page 0 has 65,536 bytes: code at 0000, nine bytes of a stack up to 000F, and zeros, so that each vector leads to 0000; page 1 is empty
abbrev pub with_stack : List ℕ → List ℕ → Pages
with_stack code stack = writable (code ++ (0x00 ∷ 0x00 ∷ 0x00 ∷ 0x00 ∷ stack) ++ replicate 65_520 0x00) []

abbrev pub unused : List ℕ
unused = 0x00 ∷ 0x00 ∷ 0x00 ∷ 0x00 ∷ 0x00 ∷ 0x00 ∷ 0x00 ∷ 0x00 ∷ 0x00 ∷ []

-- SIE and RTI; RTI alone
abbrev pub sie_rti : List ℕ
sie_rti = 0xFD ∷ 0x81 ∷ 0x8A ∷ []

abbrev pub rti : List ℕ
rti = 0x8A ∷ 0x00 ∷ 0x00 ∷ []

-- S 000F and P 1234; T, flags, states and previous as given, all else 0. Flags: 008 BF, 020 IR0, 040 IR1, 080 IR2
abbrev pub at_1234 : ℕ → ℕ → ℕ → ℕ → Lh5801
at_1234 t flags states previous = record_of (0 ∷ t ∷ 0 ∷ 0 ∷ 0 ∷ 0x000F ∷ 0x1234 ∷ 0 ∷ flags ∷ states ∷ previous ∷ states ∷ [])

-- an entry with S and its three bytes, and the vector
abbrev pub entered_at : ℕ → ℕ → ℕ → ℕ → ℕ → List Access
entered_at s t low high vector = write_of s t ∷ write_of (s - 1) low ∷ write_of (s - 2) high ∷ read_of vector 0x00 ∷ read_of (vector + 1) 0x00 ∷ []

abbrev pub sie_reads : List Access
sie_reads = read_of 0x0000 0xFD ∷ read_of 0x0001 0x81 ∷ []

-- RTI at p, which pops from s
abbrev pub rti_reads : ℕ → ℕ → ℕ → ℕ → ℕ → List Access
rti_reads p s high low t = read_of p 0x8A ∷ read_of s high ∷ read_of (s + 1) low ∷ read_of (s + 2) t ∷ []

-- IE set: IR0, IR1 and IR2 are entered, in this order, each as SIE in the routine of the one before has set IE; and three RTI lead back. In nine steps
-- SIE has 8 states, RTI 14
unfoldable pub order_comes : CallResult
order_comes =
    call_result AllSteps 9 66 (at_1234 0x02 0x008 66 52) (with_stack sie_rti (0x00 ∷ 0x02 ∷ 0x02 ∷ 0x00 ∷ 0x02 ∷ 0x02 ∷ 0x12 ∷ 0x34 ∷ 0x02 ∷ []))
    (entered_at 0x000F 0x02 0x34 0x12 0xFFFC ++ sie_reads
    ++ entered_at 0x000C 0x02 0x02 0x00 0xFFFA ++ sie_reads
    ++ entered_at 0x0009 0x02 0x02 0x00 0xFFF8 ++ sie_reads
    ++ rti_reads 0x0002 0x0007 0x00 0x02 0x02
    ++ rti_reads 0x0002 0x000A 0x00 0x02 0x02
    ++ rti_reads 0x0002 0x000D 0x12 0x34 0x02)

-- IE clear: IR0 is entered, and RTI leads back, with IE clear, and IR1 and IR2 still set
unfoldable pub masked_comes : CallResult
masked_comes =
    call_result AllSteps 2 14 (at_1234 0x00 0x0C8 14 0) (with_stack rti (0x00 ∷ 0x00 ∷ 0x00 ∷ 0x00 ∷ 0x00 ∷ 0x00 ∷ 0x12 ∷ 0x34 ∷ 0x00 ∷ []))
    (entered_at 0x000F 0x00 0x34 0x12 0xFFFC ++ rti_reads 0x0000 0x000D 0x12 0x34 0x00)
