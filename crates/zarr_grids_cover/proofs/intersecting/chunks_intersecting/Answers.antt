use Rattle.std.proofs.Common.{◌∙◌, sym}
use Rattle.std.proofs.lemmas.List.{length-map}
use Rattle.zarr_grids_boxes.specs.Subsets.{region_of}
use Rattle.zarr_grids_dimensions.specs.Dimensions.{dimension_of, grid_of}
use Rattle.zarr_grids_dimensions.proofs.Declared.{always_dimensions}
use Rattle.zarr_grids_cover.proofs.ChunksIntersecting.{ends-lie, found-are_intersecting}
use Rattle.zarr_grids_cover.proofs.intersecting.chunks_intersecting.Goals as goal

pub unreachable-requires : goal.unreachable-requires
unreachable-requires c =
    let missing = rw c.in-Ok-None.field-0-is at c.in-Ok-None.ensures.missing in
    ends-lie (grid_of c.args.grid.now) (region_of c.args.region.now) c.requires.covered c.requires.some c.args.region.now.same missing

pub returns-in-Ok-Some : goal.returns-in-Ok-Some
returns-in-Ok-Some c =
    let intersecting = rw c.in-Ok-Some.field-0-is at c.in-Ok-Some.ensures.intersecting in
    let rank = rw c.in-Ok-Some.field-0-is at c.in-Ok-Some.ensures.some in
    found-are_intersecting (grid_of c.args.grid.now) (region_of c.args.region.now) (region_of c.in-Ok-Some.chunks) (always_dimensions c.args.grid.now)
    (record {
      covered = c.requires.covered;
      some = c.requires.some;
      same = c.args.region.now.same;
      rank = rank ∙ sym (length-map c.args.grid.now dimension_of);
      lengths = c.in-Ok-Some.chunks.same;
      here = λ chunk. (intersecting chunk).0;
      all = λ chunk. (intersecting chunk).1;
    })
