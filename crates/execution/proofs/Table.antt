-- The chain of a page's rows is its table, for any rows of at most 16 entries.
use Rattle.std.proofs.Common.{◌≡◌, ℕ, zero, suc, ◌+◌, ◌-◌, ◌*◌, ◌/◌, ◌%◌, ◌<◌, ◌≤◌, Bool, true, T, ltb, leb, List, [], ◌∷◌, length, get_or, take, drop, replicate, sym, refl, ap, ◌∙◌, arith, ltb→lt, leb→le, get_or-drop, get_or-take}
use lib.ListN.{get_or-eq_default}
use Rattle.arithmetic.proofs.Rows.{Rest, clear, default}
use Rattle.arithmetic.proofs.Compute.{both, both_left, both_right}
use Rattle.execution.specs.declared.instructions.Listed.{Listed}
use Rattle.std.specs.Prelude.{Option, Some, None}
use Rattle.execution.specs.Code.Chain.{chained, or_else, column}
use Rattle.execution.specs.OpcodesFd.{empty_row}

-- no row has more than 16 entries
abbrev pub short : List (List (Option Listed)) → Bool
short [] = true
short (row ∷ rest) = both (leb (length row) 16) (short rest)

nothing_else : (d : Option Listed) → or_else d None ≡ d
nothing_else (Some l) = refl
nothing_else None = refl

module _ (row : List (Option Listed)) (rest : List (List (Option Listed))) (s : T (short (row ∷ rest))) where
  -- past its columns a row lists nothing
  past : (k : ℕ) (e : Option Listed) → 16 ≤ k → or_else (get_or row k None) e ≡ e
  past k e h =
      let n : length row ≤ 16 = leb→le (length row) 16 (both_left (leb (length row) 16) (short rest) s) in
      ap (λ (d : Option Listed). or_else d e) (get_or-eq_default row None (omega arith))

  later : T (short rest)
  later = both_right (leb (length row) 16) (short rest) s

-- a byte before the first row is in none
before : (rest : List (List (Option Listed))) (i byte : ℕ) → T (short rest) → i + length rest ≤ 16 → byte < 16 * i → chained rest i byte ≡ None
unfolding chained
before [] i byte s f h = refl
before (row ∷ rest) i byte s f h =
    past row rest s (column i byte) (chained rest (suc i) byte) (omega arith)
    ∙ before rest (suc i) byte (later row rest s) (omega arith) (omega arith)

-- a byte of row i + j, counted from row i
found : (rest : List (List (Option Listed))) (i j k : ℕ) → T (short rest) → i + length rest ≤ 16 → i + j < 16 → k < 16
    → chained rest i (16 * (i + j) + k) ≡ get_or (get_or rest j []) k None
unfolding chained
found [] i j k s f g h = refl
found (row ∷ rest) i zero k s f g h =
    let e : column i (16 * (i + 0) + k) ≡ k = omega arith in
    ap (λ (d : Option Listed). or_else (get_or row (column i (16 * (i + 0) + k)) None) d) (before rest (suc i) (16 * (i + 0) + k) (later row rest s) (omega arith) (omega arith))
    ∙ nothing_else (get_or row (column i (16 * (i + 0) + k)) None)
    ∙ ap (λ (c : ℕ). get_or row c None) e
found (row ∷ rest) i (suc j) k s f g h =
    let e : 16 * (i + suc j) + k ≡ 16 * (suc i + j) + k = omega arith in
    past row rest s (column i (16 * (i + suc j) + k)) (chained rest (suc i) (16 * (i + suc j) + k)) (omega arith)
    ∙ ap (λ (b : ℕ). chained rest (suc i) b) e
    ∙ found rest (suc i) j k (later row rest s) (omega arith) (omega arith) h

pub table : (rows : List (List (Option Listed))) → T (short rows) → length rows ≤ 16 → (byte : ℕ) → byte < 256
    → chained rows 0 byte ≡ get_or (get_or rows (byte / 16) []) (byte % 16) None
table rows s f byte h =
    let e : byte ≡ 16 * (0 + byte / 16) + byte % 16 = omega arith in
    ap (λ (b : ℕ). chained rows 0 b) e ∙ found rows 0 (byte / 16) (byte % 16) s (omega arith) (omega arith) (omega arith)

-- rows that begin with row i
from_row : (rows : List (List (Option Listed))) (i : ℕ) → T (short rows) → i + length rows ≤ 16 → (byte : ℕ) → 16 * i ≤ byte → byte < 256
    → chained rows i byte ≡ get_or (get_or rows (byte / 16 - i) []) (byte % 16) None
from_row rows i s f byte l h =
    let e : byte ≡ 16 * (i + (byte / 16 - i)) + byte % 16 = omega arith in
    ap (λ (b : ℕ). chained rows i b) e ∙ found rows i (byte / 16 - i) (byte % 16) s f (omega arith) (omega arith)

-- the first n rows, and those after them
pub first_rows : (rows : List (List (Option Listed))) (n : ℕ) → T (short (take n rows)) → length (take n rows) ≤ 16 → (byte : ℕ) → byte < 16 * n → byte < 256
    → chained (take n rows) 0 byte ≡ get_or (get_or rows (byte / 16) []) (byte % 16) None
first_rows rows n s f byte l h =
    table (take n rows) s f byte h
    ∙ ap (λ (row : List (Option Listed)). get_or row (byte % 16) None) (get_or-take n rows (byte / 16) [] (omega arith))

pub rows_after : (rows : List (List (Option Listed))) (n : ℕ) → T (short (drop n rows)) → n + length (drop n rows) ≤ 16 → (byte : ℕ) → 16 * n ≤ byte → byte < 256
    → chained (drop n rows) n byte ≡ get_or (get_or rows (byte / 16) []) (byte % 16) None
rows_after rows n s f byte l h =
    let e : n + (byte / 16 - n) ≡ byte / 16 = omega arith in
    from_row (drop n rows) n s f byte l h
    ∙ ap (λ (row : List (Option Listed)). get_or row (byte % 16) None) (get_or-drop n rows (byte / 16 - n) [] ∙ ap (λ (j : ℕ). get_or rows j []) e)

-- the keys of row i, by its columns
abbrev pub keys : ℕ → List ℕ → List ℕ
keys i [] = []
keys i (k ∷ ks) = (16 * i + k) ∷ keys i ks

abbrev pub columns : List ℕ → Bool
columns [] = true
columns (k ∷ ks) = both (ltb k 16) (columns ks)

-- a byte that is none of the keys is, counted from row i, none of the columns
counted : (i byte : ℕ) → i < 16 → byte < 256 → (ks : List ℕ) → T (columns ks) → Rest byte (keys i ks) → Rest (column i byte) ks
counted i byte hi hb [] s r = tt
counted i byte hi hb (k ∷ ks) s r =
    let small : k < 16 = ltb→lt k 16 (both_left (ltb k 16) (columns ks) s) in
    (counted i byte hi hb ks (both_right (ltb k 16) (columns ks) s) r.0, λ e. r.1 (omega (arith, e)))

-- a row's last arm: what the row does not list is what the rows after it have
pub passed_over : (row : List (Option Listed)) (rest : List (List (Option Listed))) (i : ℕ) (ks : List ℕ) (byte : ℕ) {e : Option Listed}
    → i < 16 → byte < 256 → T (columns ks) → clear None row ks ≡ replicate 16 None → Rest byte (keys i ks)
    → e ≡ chained rest (suc i) byte → e ≡ chained (row ∷ rest) i byte
unfolding chained
passed_over row rest i ks byte hi hb s f r e =
    e ∙ ap (λ (x : Option Listed). or_else x (chained rest (suc i) byte)) (default None row ks 16 (column i byte) f (counted i byte hi hb ks s r))

-- a row that lists nothing: rows 7 and F after FD
pub blank : (k : ℕ) → get_or empty_row k None ≡ None
blank k = sym (default None empty_row [] 16 k refl tt)
