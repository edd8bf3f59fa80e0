-- What was read so far, and then what one more read gives, is what the reader lost.
use Rattle.std.proofs.Common.{◌≡◌, ℕ, ◌+◌, ◌-◌, ◌≤◌, List, ◌++◌, rules, arith, length, take, slice_range, sym, ap, ◌∙◌, subst, le_refl, drop, drop_at, length-take-le}
use Rattle.std.proofs.lemmas.Slice.{take-put_mid_below}
use Rattle.std.proofs.KnownBytes.{Consumes-trans}
use Rattle.std.specs.Io.KnownBytes.{Consumes}
use borrow.Rule.Slice.PartMut.{put_mid, post_of}
use lib.Seq.{take-add, take-append-le}
use Rattle.input.proofs.read_full.Goals as goal

-- the first bytes of old, and what stands behind them in new
take_split : (at n : ℕ) (old new : List ℕ) → take at new ≡ take at old → take at old ++ slice_range new at (at + n) ≡ take (at + n) new
take_split at n old new front =
    let same : (at + n) - at ≡ n = omega arith in
    ap (λ l. take at old ++ l) (ap (λ m. take m (drop at new)) same) ∙ ap (λ l. l ++ take n (drop at new)) (sym front) ∙ sym (take-add at n new)

-- the part that was put in the place
put_part : (at k n : ℕ) (xs part : List ℕ) → at ≤ length xs → n ≤ length part → slice_range (put_mid at k xs part) at (at + n) ≡ take n part
put_part at k n xs part within fits =
    let same : (at + n) - at ≡ n = omega arith in
    let after = post_of at k xs in
    ap (take ((at + n) - at)) (drop_at (take at xs) (part ++ after) at (length-take-le at xs within)) ∙ ap (λ m. take m (part ++ after)) same ∙ take-append-le n part after fits

pub loop-filled-preserved : goal.loop-filled-preserved
loop-filled-preserved g c =
    let at = c.loop-filled.filled in
    let n = c.in_ok-count.count in
    let old = c.loop-filled.buffer in
    let room = length old - at in
    let part = c.read.new.buf in
    let within = c.loop-filled.invariant.0 in
    let read = c.in_ok-count.ensures in
    let same = ap (λ l. take at old ++ l) (sym (put_part at room n old part within read.bound.0)) ∙ take_split at n old (put_mid at room old part) (take-put_mid_below _ _ _ _ _ (le_refl _) within) in
    (search rules, subst (Consumes _ _) same (Consumes-trans _ _ _ _ _ c.loop-filled.invariant.1 read.bytes.0))
