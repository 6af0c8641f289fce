use Rattle.std.proofs.Common.{◌≡◌, ◌∙◌, ℕ, List, length, ap, arith}
use Rattle.std.proofs.lemmas.List.{length-map, length-replicate}
use Rattle.zarr_grids_dimensions.specs.Dimensions.{dimension_of, grid_of}
use Rattle.zarr_grids_cover.specs.Boxed.{addressable_count}
use Rattle.zarr_grids_cover.proofs.BoxedChunks.{boxed_of, counted_end, counted_more, small_more, zeros_fit}
use Rattle.zarr_grids_cover.proofs.boxed.chunks_in_grid.Goals as goal

pub loop-dimension-preserved : goal.loop-dimension-preserved
loop-dimension-preserved c = record {
  counted = counted_more c.args.grid.now c.loop-dimension.shape.items c.push.new.self.items c.loop-dimension.dimension-index c.count_addressable.result c.dimension-item.result c.loop-dimension-test.true c.dimension-item.is c.count_addressable.ensures c.in_ok-push.ensures.items c.loop-dimension.invariant.counted;
  small = small_more c.loop-dimension.shape.items c.push.new.self.items c.count_addressable.result c.count_addressable.type_inv c.in_ok-push.ensures.items c.loop-dimension.invariant.small;
}

pub invariant_of-result : goal.invariant_of-result
invariant_of-result c =
    let shape = counted_end c.args.grid.now c.loop-dimension.shape.items c.loop-dimension.dimension-index c.loop-dimension-test.false c.loop-dimension.invariant.counted in
    let start = c.in_ok-start.ensures.items_if_clones_equal (λ x e. e) in
    let long : length c.loop-dimension.shape.items ≡ length c.args.grid.now = ap (λ (ns : List ℕ). length ns) shape ∙ length-map (grid_of c.args.grid.now) addressable_count ∙ length-map c.args.grid.now dimension_of in
    record {
      same = let many = ap (λ (ns : List ℕ). length ns) start ∙ length-replicate (length c.args.grid.now) 0 in omega (arith, long, many);
      fit = zeros_fit (length c.args.grid.now) c.in_ok-start.start.items c.loop-dimension.shape.items start long c.loop-dimension.invariant.small;
    }

pub returns : goal.returns
returns c = boxed_of c.args.grid.now c.in_ok-start.start.items c.loop-dimension.shape.items (c.in_ok-start.ensures.items_if_clones_equal (λ x e. e))
    (counted_end c.args.grid.now c.loop-dimension.shape.items c.loop-dimension.dimension-index c.loop-dimension-test.false c.loop-dimension.invariant.counted)
