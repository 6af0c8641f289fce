use Rattle.std.proofs.Common.{◌∙◌, List, ℕ, ap, sym, arith}
use Rattle.zarr_grids_boxes.specs.Boxes.{Region, product}
use Rattle.zarr_codecs_meaning.specs.Places.{grid_of}
use Rattle.zarr_sharding_places.specs.Locating.{subchunk_box}
use Rattle.zarr_sharding_codec.proofs.subchunks.part_shape.Goals as goal

pub subchunk_region-requires-clause-grid : goal.subchunk_region-requires-clause-grid
subchunk_region-requires-clause-grid c = c.as_slice-grid.ensures.value ∙ (c.in_ok-counted.ensures ∙ ap (grid_of c.args.shape.now) (sym c.as_slice-edges.ensures.edges))

pub subchunk_region-requires-clause-below : goal.subchunk_region-requires-clause-below
subchunk_region-requires-clause-below c =
    let below = c.requires.below in
    let grid = ap product (c.as_slice-grid.ensures.value ∙ c.in_ok-counted.ensures) in
    omega (arith, below, grid)

pub returns : goal.returns
returns c = ap (λ (box : Region). box.shape) (c.in_ok-region.ensures ∙ ap (λ (e : List ℕ). subchunk_box c.args.shape.now e c.args.n) c.as_slice-edges.ensures.edges)
