-- The tables of shapes against the opcode tables: one test, computed over both.
use Rattle.std.proofs.Common.{◌≡◌, ℕ, ◌<◌, List, refl, ap, ◌∙◌, zero-add, map, slice_index_or}
use Rattle.std.proofs.lemmas.List.FromFn.{get_or-map-range_with_len}
use Rattle.std.specs.Prelude.{Option, None}
use Rattle.std.specs.List.{range_with_len}
use Rattle.execution.specs.Opcodes.{decoded}
use Rattle.execution.specs.OpcodesFd.{decoded_fd}
use Rattle.execution.specs.declared.Opcode.{Opcode}
use Rattle.execution.specs.declared.Opcode.TheVariants.{First, AfterFd}
use Rattle.execution.specs.declared.shapes.Shape.{Shape}
use Rattle.execution.specs.Code.Shapes.{shape_by}
use Rattle.bus.specs.declared.tables.TheConstants.{FIRST, AFTER_FD}

-- the shapes of 256 opcodes in order
abbrev pub shapes_in_order : (ℕ → Opcode) → List (Option Shape)
shapes_in_order page = map (λ (byte : ℕ). shape_by (page byte)) (range_with_len 0 256)

pub shapes_right : (FIRST ≡ shapes_in_order First) × (AFTER_FD ≡ shapes_in_order AfterFd)
unfolding shape_by decoded decoded_fd
shapes_right = (refl, refl)

-- so the shape at each place is that of the opcode there
in_order : (page : ℕ → Opcode) {l : List (Option Shape)} → l ≡ shapes_in_order page → (byte : ℕ) → byte < 256 → slice_index_or l byte None ≡ shape_by (page byte)
in_order page e byte h =
    ap (λ (m : List (Option Shape)). slice_index_or m byte None) e
    ∙ get_or-map-range_with_len (λ (b : ℕ). shape_by (page b)) 0 256 byte byte None h (zero-add byte)

pub shape_first : (byte : ℕ) → byte < 256 → slice_index_or FIRST byte None ≡ shape_by (First byte)
shape_first = in_order First shapes_right.0

pub shape_after_fd : (byte : ℕ) → byte < 256 → slice_index_or AFTER_FD byte None ≡ shape_by (AfterFd byte)
shape_after_fd = in_order AfterFd shapes_right.1
