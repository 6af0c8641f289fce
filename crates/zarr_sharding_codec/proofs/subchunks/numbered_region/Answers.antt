use Rattle.std.proofs.Common.{◌∙◌, List, ℕ, ap, length, sym, arith}
use Rattle.std.proofs.lemmas.Result.{IfOk-weaker}
use Rattle.zarr_grids_boxes.specs.Boxes.{product}
use Rattle.zarr_codecs_meaning.specs.Places.{grid_of}
use Rattle.zarr_sharding_places.specs.Locating.{subchunk_box}
use Rattle.zarr_sharding_codec.proofs.subchunks.numbered_region.Goals as goal

pub grid_of-requires : goal.grid_of-requires
grid_of-requires c = c.if-shape-edges.false ∙ ap length c.as_slice-edges.ensures.edges

pub subchunk_region-requires-clause-grid : goal.subchunk_region-requires-clause-grid
subchunk_region-requires-clause-grid c = c.as_slice-grid.ensures.value ∙ (c.in_ok-counted.ensures ∙ ap (grid_of c.args.shape.now) (sym c.as_slice-edges.ensures.edges))

pub returns-clause-region : goal.returns-clause-region
returns-clause-region c =
    let edges = ap (λ (es : List ℕ). subchunk_box c.args.shape.now es c.args.n) c.as_slice-edges.ensures.edges in
    IfOk-weaker c.subchunk_region.result _ _ (λ region is. is ∙ edges) c.subchunk_region.ensures

pub returns-clause-below : goal.returns-clause-below
returns-clause-below c =
    let low = c.if-n-count.false in
    let count = c.in-Some.ensures.1 in
    let grid = ap product (c.as_slice-grid.ensures.value ∙ c.in_ok-counted.ensures) in
    IfOk-weaker c.subchunk_region.result _ _ (λ region is. omega (arith, low, count, grid)) c.subchunk_region.ensures
