use Rattle.std.proofs.Common.{◌∙◌, subst, sym}
use Rattle.zarr_codecs_arrays.specs.Views.{payload_of}
use Rattle.zarr_codecs_traits.specs.Arrays.{coded}
use Rattle.zarr_codecs_traits.specs.Outcomes.{Encodes}
use Rattle.zarr_sharding_index.specs.Views.{pairs_of}
use Rattle.zarr_sharding_index.proofs.StoredIndex.{index_written}
use Rattle.zarr_sharding_index.proofs.stored.write_index.Goals as goal

pub returns : goal.returns
returns g c =
    let index = g.X.ArrayToBytesCodecTraits.meaning c.args.codec.now in
    let exact = g.X.ArrayToBytesCodecTraits.is_function c.args.codec.now in
    index_written index exact c.args.shape.now (pairs_of c.args.index) (payload_of c.into_numbers.result) c.encode_in_order.result (g.met.X.ArrayToBytesCodecTraits.lawful c.args.codec.now) c.requires.fit c.requires.many c.into_numbers.ensures.room
    c.into_numbers.ensures.cells (subst (λ e. Encodes (coded index e c.args.shape.now) exact (payload_of c.into_numbers.result) c.encode_in_order.result) c.in_ok-elements.ensures c.encode_in_order.ensures)

pub returns-then-encodes_as_is : goal.returns-then-encodes_as_is
returns-then-encodes_as_is g c =
    let index = g.X.ArrayToBytesCodecTraits.meaning c.args.codec.now in
    let exact = g.X.ArrayToBytesCodecTraits.is_function c.args.codec.now in
    c.into_bytes.ensures.stored index exact c.args.shape.now (sym c.encodes_as_is.ensures ∙ c.if-encodes_as_is.true) c.requires.fit c.requires.many
