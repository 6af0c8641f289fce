use Rattle.std.proofs.Common.{◌∙◌, map, sym, true, false}
use Rattle.zarr_codecs_types.specs.Views.{type_of}
use Rattle.zarr_codecs_arrays.specs.Views.{elements_of}
use Rattle.zarr_sharding_changes.proofs.Compactions.{plain_kept}
use Rattle.zarr_codecs_around.specs.ThenBytes.{then_meaning}
use Rattle.zarr_codecs_around.specs.Views.{plain_with}
use Rattle.zarr_codecs_around.proofs.PartChains.{fits_as}
use Rattle.zarr_codecs_around.proofs.then_bytes.ThenBytesArrayToBytesCodecTraits.compact_in_order.Goals as goal

pub returns-then-not-branch : goal.returns-then-not-branch
returns-then-not-branch g c =
    let codecs = map g.B.BytesToBytesCodecTraits.meaning c.args.self.now.bytes_to_bytes.items in
    fits_as (g.A.ArrayToBytesCodecTraits.meaning c.args.self.now.codec) codecs (type_of c.data_type.result.now) (elements_of c.args.elements.now).type c.args.shape.now c.in_ok-fits.field-0 false c.data_type.ensures c.in_ok-fits.ensures c.if-not-branch.true

pub returns-then-makes_no_shard : goal.returns-then-makes_no_shard
returns-then-makes_no_shard g c =
    let chain = g.A.ArrayToBytesCodecTraits.meaning c.args.self.now.codec in
    let codecs = map g.B.BytesToBytesCodecTraits.meaning c.args.self.now.bytes_to_bytes.items in (
      fits_as chain codecs (type_of c.data_type.result.now) (elements_of c.args.elements.now).type c.args.shape.now c.in_ok-fits.field-0 true c.data_type.ensures c.in_ok-fits.ensures c.if-not-branch.false,
      plain_kept (then_meaning g.A.ArrayToBytesCodecTraits.meaning g.B.BytesToBytesCodecTraits.meaning c.args.self.now) c.args.shape.now c.args.value.now (plain_with chain codecs ∙ (sym c.makes_no_shard.ensures ∙ c.if-makes_no_shard.true)),
    )
