use Rattle.std.proofs.Common.{map, true, false}
use Rattle.zarr_codecs_types.specs.Views.{type_of}
use Rattle.zarr_codecs_arrays.specs.Views.{elements_of}
use Rattle.zarr_sharding_changes.proofs.Compactions.{plain_kept}
use Rattle.zarr_codecs_chains.specs.Views.{codec_chain, bytes_meaning}
use Rattle.zarr_codecs_around.proofs.PartChains.{fits_as}
use Rattle.zarr_codecs_chains.specs.Views.{bytes_plain}
use Rattle.zarr_codecs_chains.proofs.bytes_chain.BytesChainArrayToBytesCodecTraits.compact_in_order.Goals as goal

pub returns-then-not-branch : goal.returns-then-not-branch
returns-then-not-branch g c =
    let codecs = map g.B.BytesToBytesCodecTraits.meaning c.args.self.now.bytes_to_bytes.items in
    fits_as (codec_chain g.B.BytesToBytesCodecTraits.meaning c.args.self.now.array_to_bytes) codecs (type_of c.data_type.result.now) (elements_of c.args.elements.now).type c.args.shape.now c.in_ok-fits.field-0 false c.data_type.ensures c.in_ok-fits.ensures c.if-not-branch.true

pub returns : goal.returns
returns g c =
    let meaning = g.B.BytesToBytesCodecTraits.meaning in
    let codecs = map meaning c.args.self.now.bytes_to_bytes.items in (
      fits_as (codec_chain g.B.BytesToBytesCodecTraits.meaning c.args.self.now.array_to_bytes) codecs (type_of c.data_type.result.now) (elements_of c.args.elements.now).type c.args.shape.now c.in_ok-fits.field-0 true c.data_type.ensures c.in_ok-fits.ensures c.if-not-branch.false,
      plain_kept (bytes_meaning meaning c.args.self.now) c.args.shape.now c.args.arg3.now (bytes_plain meaning c.args.self.now),
    )
