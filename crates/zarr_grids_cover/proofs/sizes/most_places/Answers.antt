use Rattle.std.proofs.Common.{◌≡◌, ◌∙◌, ◌+◌, ◌-◌, ◌*◌, ◌^◌, ◌<◌, min, drop, length, sym, ap, arith}
use Rattle.std.proofs.lemmas.List.{length-map}
use Rattle.zarr_grids_boxes.specs.Boxes.{product}
use Rattle.zarr_grids_boxes.proofs.Dimensions.{positive_at}
use Rattle.zarr_grids_dimensions.specs.Dimensions.{dimension_of, grid_of}
use Rattle.zarr_grids_dimensions.proofs.Declared.{always_dimensions}
use Rattle.zarr_grids_cover.specs.Sizes.{largest_edges}
use Rattle.zarr_grids_cover.proofs.LargestEdges.{most-step, most-end, most-positive, last-below}
use Rattle.zarr_grids_cover.proofs.sizes.most_places.Goals as goal

pub largest_edge-requires-clause-some : goal.largest_edge-requires-clause-some
largest_edge-requires-clause-some c =
    let r : length c.args.start.now ≡ length c.args.grid.now = c.requires.below.rank ∙ length-map c.args.grid.now dimension_of in
    let h : c.loop-k.k < length c.args.shape.now = omega arith in
    omega (arith, positive_at _ _ h c.requires.some)

pub largest_edge-requires-clause-below : goal.largest_edge-requires-clause-below
largest_edge-requires-clause-below c = last-below c.args.grid.now c.args.start.now c.args.shape.now _ c.index-grid-k.result c.loop-k-test.true c.requires.same c.requires.some c.index-grid-k.is c.requires.below

pub loop-k-preserved : goal.loop-k-preserved
loop-k-preserved c =
    let r : length c.args.start.now ≡ length c.args.grid.now = c.requires.below.rank ∙ length-map c.args.grid.now dimension_of in
    let p = most-positive (grid_of c.args.grid.now) c.args.start.now c.args.shape.now (always_dimensions c.args.grid.now) c.requires.same c.requires.some c.requires.below in
    record {
      whole =
          most-step c.args.grid.now c.args.start.now c.args.shape.now c.loop-k.k (2 ^ 64 - 1) _ c.loop-k.most c.largest_edge.result c.index-grid-k.result c.loop-k-test.true r c.requires.same c.index-grid-k.is p c.largest_edge.ensures c.loop-k.invariant.whole
          ∙ ap (λ m. min (m * product (drop (c.loop-k.k + 1) (largest_edges (grid_of c.args.grid.now) c.args.start.now c.args.shape.now))) (2 ^ 64 - 1)) (sym c.saturating_mul-most.ensures);
      fits = let e = c.saturating_mul-most.ensures in omega arith;
    }

pub returns : goal.returns
returns c =
    let r : length c.args.start.now ≡ length c.args.grid.now = c.requires.below.rank ∙ length-map c.args.grid.now dimension_of in
    let f = c.loop-k.invariant.fits in
    most-end c.args.grid.now c.args.start.now c.args.shape.now c.loop-k.k (2 ^ 64 - 1) _ c.loop-k.most c.loop-k-test.false r c.requires.same (omega arith) c.loop-k.invariant.whole
