use Rattle.std.proofs.Common.{◌∙◌, ◌+◌, ◌*◌, ◌^◌, ◌<◌, map, drop, ap, sym, arith}
use Rattle.std.proofs.lemmas.List.{drop_more, drop_all}
use Rattle.zarr_grids_boxes.specs.Boxes.{product}
use Rattle.zarr_codecs_array_to_array.specs.Entries.{entry_of}
use Rattle.zarr_codecs_array_to_array.specs.Sizes.{capped, size_or}
use Rattle.zarr_codecs_array_to_array.proofs.NewSizes.{counted_capped, counted_all}
use Rattle.zarr_codecs_array_to_array.proofs.sizes.product_of.Goals as goal

pub loop-dimension-preserved : goal.loop-dimension-preserved
loop-dimension-preserved c =
    let f = size_or c.args.left c.args.shape.now in
    let dims = c.args.dimensions.now in
    let i = c.loop-dimension.dimension-index in
    let p = c.loop-dimension.product in
    let x = c.dimension-item.result in
    let next = c.saturating_mul-product.result in
    let low : next < 2 ^ 128 = omega (arith, c.saturating_mul-product.ensures) in (
      low,
      counted_capped p (f (entry_of x)) c.size_of.result (product (map f (map entry_of (drop (i + 1) dims)))) (capped (product (map f (map entry_of dims)))) next c.size_of.ensures c.saturating_mul-product.ensures
          (ap (λ d. capped (p * (f (entry_of d) * product (map f (map entry_of (drop (i + 1) dims)))))) c.dimension-item.is ∙ (ap (λ ds. capped (p * product (map f (map entry_of ds)))) (sym (drop_more dims i x c.loop-dimension-test.true)) ∙ c.loop-dimension.invariant.1)),
    )

pub returns : goal.returns
returns c =
    let f = size_or c.args.left c.args.shape.now in
    let dims = c.args.dimensions.now in
    let p = c.loop-dimension.product in
    counted_all p (capped (product (map f (map entry_of dims)))) c.loop-dimension.invariant.0
    (ap (λ ds. capped (p * product (map f (map entry_of ds)))) (sym (drop_all c.loop-dimension.dimension-index dims c.loop-dimension-test.false)) ∙ c.loop-dimension.invariant.1)
