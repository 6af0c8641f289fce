use Rattle.std.proofs.Common.{◌≡◌, ◌∙◌, ◌-◌, ◌*◌, ◌++◌, min, List, ℕ, Vec, ap, sym}
use Rattle.std.specs.declared.alloc.Global.{Global}
use Rattle.zarr_grids_boxes.specs.Boxes.{Region, each2, place_at}
use Rattle.zarr_codecs_meaning.proofs.Covers.{zeros}
use Rattle.zarr_sharding_places.specs.Locating.{subchunk_box}
use Rattle.zarr_sharding_codec.proofs.NumberedParts.{zeros_are}
use Rattle.zarr_sharding_codec.proofs.subchunks.move_to_subchunk.Goals as goal

-- a box of this start and shape
abbrev region_at : List ℕ → List ℕ → Region
region_at start shape = record { start = start; shape = shape }

pub returns-in-Ok : goal.returns-in-Ok
returns-in-Ok c =
    let shape = c.args.cut.shape.now in
    let edges = c.args.cut.edges.now in
    let n = c.args.n in
    let box = subchunk_box shape edges n in
    let grid = c.args.cut.grid.now in
    let begin : c.as_slice.result.now ≡ box.start =
    c.as_slice.ensures.value
    ∙ (c.in_ok-start.ensures
    ∙ (ap (λ (z : List ℕ). each2 (λ i edge. i * edge) (place_at z grid n) edges) (zeros_are grid) ∙ ap (λ (g : List ℕ). each2 (λ i edge. i * edge) (place_at (zeros g) g n) edges) c.requires.grid)) in
    let start = ap (λ (v : Vec ℕ Global). v.items) c.in-Ok.ensures.start ∙ (sym c.as_slice.ensures.value ∙ begin) in
    let lengths = ap (λ (v : Vec ℕ Global). v.items) c.in-Ok.ensures.shape
    ∙ (c.in_ok-push_lengths.ensures
    ∙ (ap (λ (xs : List ℕ). xs ++ each2 min edges (each2 (λ size begin. size - begin) shape c.as_slice.result.now)) c.clear.ensures.items
    ∙ ap (λ (s : List ℕ). each2 min edges (each2 (λ size begin. size - begin) shape s)) begin)) in
    ap (λ (s : List ℕ). region_at s c.in-Ok.moved.shape.items) start ∙ ap (region_at box.start) lengths
