use Rattle.std.proofs.Common.{◌≡◌, ◌∙◌, ◌+◌, ◌-◌, ◌*◌, ◌^◌, ◌<◌, min, map, drop, get_or, slice_index, ap, sym, arith}
use Rattle.std.proofs.lemmas.List.{drop_more, drop_all}
use Rattle.zarr_grids_boxes.specs.Boxes.{product}
use Rattle.zarr_codecs_array_to_array.specs.Sizes.{capped}
use Rattle.zarr_codecs_array_to_array.proofs.NewSizes.{counted_size, counted_all}
use Rattle.zarr_codecs_array_to_array.proofs.sizes.named_product.Goals as goal

pub loop-dimension-preserved : goal.loop-dimension-preserved
loop-dimension-preserved c =
    let shape = c.args.shape.now in
    let named = c.args.named.now in
    let i = c.loop-dimension.dimension-index in
    let p = c.loop-dimension.product in
    let next = c.saturating_mul-product.result in
    let is : next ≡ min (p * slice_index shape (get_or named i 0)) (2 ^ 128 - 1) = c.saturating_mul-product.ensures ∙ ap (λ s. min (p * s) (2 ^ 128 - 1)) c.size_at.ensures in
    let low : next < 2 ^ 128 = omega (arith, c.saturating_mul-product.ensures) in (
      low,
      counted_size p (slice_index shape (get_or named i 0)) (product (map (slice_index shape) (drop (i + 1) named))) (capped (product (map (slice_index shape) named))) next is
          (ap (λ ns. capped (p * product (map (slice_index shape) ns))) (sym (drop_more named i 0 c.loop-dimension-test.true)) ∙ c.loop-dimension.invariant.1),
    )

pub returns : goal.returns
returns c =
    let shape = c.args.shape.now in
    let named = c.args.named.now in
    let p = c.loop-dimension.product in
    counted_all p (capped (product (map (slice_index shape) named))) c.loop-dimension.invariant.0
    (ap (λ ns. capped (p * product (map (slice_index shape) ns))) (sym (drop_all c.loop-dimension.dimension-index named c.loop-dimension-test.false)) ∙ c.loop-dimension.invariant.1)
