use Rattle.std.proofs.Common.{List, ℕ, subst}
use Rattle.zarr_codecs_arrays.specs.Views.{elements_of, payload_of}
use Rattle.zarr_codecs_meaning.specs.Chains.{sharded}
use Rattle.zarr_codecs_traits.specs.Arrays.{coded}
use Rattle.zarr_codecs_traits.specs.Pieces.{AnswersPiece}
use Rattle.zarr_sharding_index.specs.Views.{location_of}
use Rattle.zarr_sharding_codec.specs.Pieces.{StoresNumbered}
use Rattle.zarr_sharding_codec.proofs.array_to_bytes.ShardingCodecArrayToBytesCodecTraits.encode_piece.Goals as goal

pub returns : goal.returns
returns g c =
    let self = c.args.self.now in
    let subchunk = self.subchunk_shape in
    let inner = g.I.ArrayToBytesCodecTraits.meaning self.inner_codecs in
    let index = g.X.ArrayToBytesCodecTraits.meaning self.index_codecs in
    let location = location_of self.index_location in
    let exact = g.I.ArrayToBytesCodecTraits.is_function self.inner_codecs in
    subst (λ (shape : List ℕ). AnswersPiece (StoresNumbered exact (coded (sharded subchunk inner index location) (elements_of c.args.elements.now) shape) (payload_of c.args.pieces.now.bytes) c.args.n) c.store_numbered.result) c.as_slice-shape.ensures.value c.store_numbered.ensures
