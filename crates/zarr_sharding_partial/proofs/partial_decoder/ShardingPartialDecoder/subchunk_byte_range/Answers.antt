use Rattle.std.proofs.Common.{◌≡◌, ◌∙◌, ap, sym, subst, arith, List, ℕ, ◌<◌, ◌^◌}
use Rattle.zarr_codecs_meaning.specs.Places.{grid_of}
use Rattle.zarr_grids_boxes.specs.Boxes.{IsIndex, product, ravel}
use Rattle.zarr_grids_boxes.proofs.Dimensions.{ravel_below}
use Rattle.zarr_sharding_partial.proofs.Opened.{held_count}
use Rattle.zarr_sharding_partial.proofs.partial_decoder.ShardingPartialDecoder.subchunk_byte_range.Goals as goal

pub returns-in_default-clause-pair : goal.returns-in_default-clause-pair
returns-in_default-clause-pair g c = λ honest is.
    let self = c.args.self.now in
    let at_ = c.args.subchunk_indices.now in
    let grid = grid_of self.shape.now self.codec.now.subchunk_shape in
    let same : c.as_slice.result.now ≡ grid = c.as_slice.ensures.value ∙ self.cut in
    let below = ravel_below at_ grid is in
    let few = self.few in
    let low : ravel at_ grid < 2 ^ 64 = omega (arith, below, few) in
    c.in_default.ensures (subst (λ (sizes : List ℕ). IsIndex at_ sizes × (ravel at_ sizes < 2 ^ 64)) (sym same) (is, low))

pub get-pair-requires : goal.get-pair-requires
get-pair-requires g c =
    let self = c.args.self.now in
    let at_ = c.args.subchunk_indices.now in
    let grid = grid_of self.shape.now self.codec.now.subchunk_shape in
    let same : c.as_slice.result.now ≡ grid = c.as_slice.ensures.value ∙ self.cut in
    let is = subst (λ (sizes : List ℕ). IsIndex at_ sizes) same c.in-Some.ensures.0.0 in
    let below = ravel_below at_ grid is in
    let number : c.in-Some.number ≡ ravel at_ grid = c.in-Some.ensures.1 ∙ ap (ravel at_) same in
    let count = held_count (product grid) self.held c.in-Some-held.held c.in-Some-held.is self.many in
    omega (arith, below, number, count)
