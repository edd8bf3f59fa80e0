-- The writes of our bus log against an analyser's list (document 02, F-3).
use Rattle.std.specs.Prelude.{ℕ, suc, ◌/◌, ◌%◌, Bool, cond, ◌&&◌, ◌==◌, List, [], ◌∷◌, map, drop}
use Rattle.pages.specs.Written.{Write}
use Rattle.analyser.specs.declared.Comparison.{Comparison}
use Rattle.analyser.specs.declared.Comparison.TheVariants.{Equal, Differ, LogEnded, AnalyserEnded}

-- an entry of ours is a write where bit 25 is set
abbrev pub is_write : ℕ → Bool
is_write entry = entry / 0x2000000 % 2 == 1

-- the write in an entry: bits 24 to 8 are its address, bits 7 to 0 its byte, and no other bit is looked at
abbrev pub write_in : ℕ → Write
write_in entry = record { address = entry / 256 % 0x20000; byte = entry % 256 }

-- the writes of our log, in order: "reads between them never matter"
unfoldable pub writes_logged : List ℕ → List Write
writes_logged [] = []
writes_logged (entry ∷ entries) = cond (is_write entry) (write_in entry ∷ writes_logged entries) (writes_logged entries)

-- the writes of the analyser, which "catches writes alone": each of its entries is one
abbrev pub writes_caught : List ℕ → List Write
writes_caught entries = map write_in entries

-- the same address and the same byte
abbrev pub same_write : Write → Write → Bool
same_write v w = v.address == w.address && v.byte == w.byte

-- how many writes two sequences have in common, from the first on
unfoldable pub common : List Write → List Write → ℕ
common [] ws = 0
common (v ∷ vs) [] = 0
common (v ∷ vs) (w ∷ ws) = cond (same_write v w) (suc (common vs ws)) 0

-- the answer, by what each has left after the n writes that they have in common
abbrev pub parted : List Write → List Write → ℕ → Comparison
parted [] [] n = Equal
parted [] (w ∷ ws) n = LogEnded n
parted (v ∷ vs) [] n = AnalyserEnded n
parted (v ∷ vs) (w ∷ ws) n = Differ n

-- "the first place where they part, counted in writes from 0, with whichever list ended there named"
unfoldable pub verdict : List Write → List Write → Comparison
verdict ours theirs =
    let n : ℕ = common ours theirs in
    parted (drop n ours) (drop n theirs) n

-- our log, handed in as its used entries, against the analyser's list
abbrev pub comparison_of : List ℕ → List ℕ → Comparison
comparison_of log analyser = verdict (writes_logged log) (writes_caught analyser)

-- the number of an answer, and its place, in C
abbrev pub number_of : Comparison → ℕ
number_of Equal = 0
number_of (Differ n) = 1
number_of (LogEnded n) = 2
number_of (AnalyserEnded n) = 3

abbrev pub place_of : Comparison → ℕ
place_of Equal = 0
place_of (Differ n) = n
place_of (LogEnded n) = n
place_of (AnalyserEnded n) = n
