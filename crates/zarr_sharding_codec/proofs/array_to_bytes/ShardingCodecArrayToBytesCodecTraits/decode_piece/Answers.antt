use Rattle.std.proofs.Common.{◌∙◌}
use Rattle.std.proofs.lemmas.List.{get_or_default}
use Rattle.zarr_codecs_arrays.specs.Views.{elements_of}
use Rattle.zarr_codecs_meaning.specs.Chains.{sharded}
use Rattle.zarr_sharding_index.specs.Views.{location_of}
use Rattle.zarr_sharding_codec.specs.Pieces.{no_slice}
use Rattle.zarr_sharding_codec.proofs.DecodedSlice.{of_pieces}
use Rattle.zarr_sharding_codec.proofs.array_to_bytes.ShardingCodecArrayToBytesCodecTraits.decode_piece.Goals as goal

pub returns : goal.returns
returns g c =
    let self = c.args.self.now in
    let subchunk = self.subchunk_shape in
    let inner = g.I.ArrayToBytesCodecTraits.meaning self.inner_codecs in
    let index = g.X.ArrayToBytesCodecTraits.meaning self.index_codecs in
    let location = location_of self.index_location in
    let pieces = c.args.pieces.now in
    let slice = c.index-slice.ensures ∙ get_or_default pieces.slices.items c.args.n c.index-slice.result.now no_slice c.requires in
    of_pieces (sharded subchunk inner index location) (elements_of c.args.elements.now) pieces c.args.n c.as_slice-shape.result.now c.as_slice.result.now c.index-slice.result.now c.decode_numbered.result c.as_slice-shape.ensures.value c.as_slice.ensures.value slice c.decode_numbered.ensures
