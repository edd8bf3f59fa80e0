-- Parts of a file at the start of a page.
use Rattle.std.proofs.Common.{slice_range, ◌-◌, ◌≡◌, ℕ, ◌+◌, ◌≤◌, List, ◌++◌, length, take, drop, ap, arith, length-drop, length-take-le, take_at}
use lib.Seq.{sets-eq}
use Rattle.run.specs.Parts.{part, at_start}

-- a part that lies inside the file
module _ (bytes : List ℕ) (at len : ℕ) (h : at + len ≤ length bytes) where
  pub part_length : length (part bytes at len) ≡ len
  part_length = length-take-le len (drop at bytes) (rw length-drop (omega arith))

-- the bytes of a range are that part
pub range_part : (bytes : List ℕ) (at len : ℕ) → slice_range bytes at (at + len) ≡ part bytes at len
range_part bytes at len =
    let many : at + len - at ≡ len = omega arith in
    ap (λ (n : ℕ). take n (drop at bytes)) many

-- a part at the start of a page, and the rest of the page behind it
pub put_before : (page bytes : List ℕ) (len : ℕ) → length bytes ≡ len → len ≤ length page → bytes ++ drop len page ≡ at_start page bytes
put_before page bytes len many fits =
    let end : 0 + length bytes ≡ len = omega arith in
    rw (sets-eq bytes page 0 (omega arith), end)

-- a part that was stored at the start of a page that it fits in is that start
pub copied : (page after bytes : List ℕ) (at : ℕ) {len : ℕ} → after ≡ at_start page (part bytes at len) → at + len ≤ length bytes → len ≤ length page
    → take len after ≡ part bytes at len
copied page after bytes at {len} e inside fits =
    let l : length (part bytes at len) ≡ len = part_length bytes at len inside in
    rw (e, sets-eq (part bytes at len) page 0 (omega arith)) (take_at (part bytes at len) _ len l)
