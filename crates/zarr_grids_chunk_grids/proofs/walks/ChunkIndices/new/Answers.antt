use Rattle.std.proofs.Common.{◌≡◌, ◌∙◌, ap, rules}
use Rattle.zarr_grids_boxes.proofs.Walking.{walk_new}
use Rattle.zarr_grids_dimensions.specs.Dimensions.{grid_of}
use Rattle.zarr_grids_chunk_grids.proofs.Walking.{all-chunks}
use Rattle.zarr_grids_chunk_grids.proofs.walks.ChunkIndices.new.Goals as goal

pub invariant_of-result : goal.invariant_of-result
invariant_of-result c =
    let s = c.in_ok-chunks.chunks in
    let e : c.in_ok-next.next.items ≡ c.in_ok-chunks.chunks.start.items = search rules in
    let h = c.is_empty-more.ensures in
    record { within = (walk_new s.start.items s.shape.items c.in_ok-next.next.items c.is_empty-more.result e s.same h.0 h.1).0 }

pub returns : goal.returns
returns c =
    let s = c.in_ok-chunks.chunks in
    let e : c.in_ok-next.next.items ≡ c.in_ok-chunks.chunks.start.items = search rules in
    let h = c.is_empty-more.ensures in
    (walk_new s.start.items s.shape.items c.in_ok-next.next.items c.is_empty-more.result e s.same h.0 h.1).1
    ∙ all-chunks (grid_of c.args.grid.now) s.start.items s.shape.items c.in_ok-shape.shape.items c.in_ok-chunks.ensures.start (ap (λ v. v.items) c.in_ok-chunks.ensures.shape) c.in_ok-shape.ensures
