use Rattle.std.proofs.Common.{◌≡◌, ◌*◌, drop}
use Rattle.replay.specs.Bytes.{patch_of}
use Rattle.replay.proofs.patch.Given as goal

abbrev pub invariant-loop-low : goal.invariant-loop-low
invariant-loop-low l =
    (patch_of l.page0 0 (drop (l.low-index * 4) l.sets) ≡ patch_of l.initial.page0 0 l.sets) × (patch_of l.page1 1 (drop (l.low-index * 4) l.sets) ≡ patch_of l.initial.page1 1 l.sets)
