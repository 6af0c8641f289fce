use Rattle.std.proofs.Common.{◌≡◌, ◌∙◌, ◌^◌, ◌<◌, arith, rules}
use Rattle.zarr_codecs_array_to_array.specs.Entries.{entry_of}
use Rattle.zarr_codecs_array_to_array.specs.Sizes.{size_or}
use Rattle.zarr_codecs_array_to_array.proofs.NewSizes.{size_small, pushed_size}
use Rattle.zarr_codecs_array_to_array.proofs.sizes.sizes.Goals as goal

pub overflow_cast-size_of : goal.overflow_cast-size_of
overflow_cast-size_of c =
    let below = size_small (size_or c.args.left c.args.shape.now) entry_of c.args.dimensions.now c.loop-dimension.dimension-index c.dimension-item.result c.requires c.loop-dimension-test.true c.dimension-item.is in
    let h : c.size_of.result < 2 ^ 64 = omega (arith, below, c.size_of.ensures) in
    search rules

pub loop-dimension-preserved : goal.loop-dimension-preserved
loop-dimension-preserved c =
    let f = size_or c.args.left c.args.shape.now in
    let below = size_small f entry_of c.args.dimensions.now c.loop-dimension.dimension-index c.dimension-item.result c.requires c.loop-dimension-test.true c.dimension-item.is in
    let same : c.size_of.result ≡ f (entry_of c.dimension-item.result) = omega (arith, below, c.size_of.ensures) in
    c.in_ok-push.ensures.items ∙ pushed_size f entry_of c.args.dimensions.now c.loop-dimension.dimension-index c.dimension-item.result c.loop-dimension.sizes.items c.size_of.result c.loop-dimension-test.true c.dimension-item.is c.loop-dimension.invariant same
