use Rattle.std.proofs.Common.{List, subst}
use Rattle.zarr_codecs_arrays.specs.Views.{elements_of}
use Rattle.zarr_codecs_arrays.specs.declared.array_bytes.ArrayBytes.{ArrayBytes}
use Rattle.zarr_codecs_meaning.specs.Chains.{sharded}
use Rattle.zarr_codecs_traits.specs.Arrays.{coded}
use Rattle.zarr_codecs_traits.specs.declared.pieces.PieceSlice.{PieceSlice}
use Rattle.zarr_sharding_index.specs.Views.{location_of}
use Rattle.zarr_sharding_codec.specs.Pieces.{PutsSlices}
use Rattle.zarr_sharding_codec.proofs.CutValues.{pieces_lost, pieces_put}
use Rattle.zarr_sharding_codec.proofs.array_to_bytes.ShardingCodecArrayToBytesCodecTraits.put_pieces.Goals as goal

pub returns-in-Ok : goal.returns-in-Ok
returns-in-Ok g c = λ value cut are.
    let self = c.args.self.now in
    let subchunk = self.subchunk_shape in
    let inner = g.I.ArrayToBytesCodecTraits.meaning self.inner_codecs in
    let index = g.X.ArrayToBytesCodecTraits.meaning self.index_codecs in
    let location = location_of self.index_location in
    let elements = elements_of c.args.elements.now in
    let shape = c.args.shape.now in
    let array = coded (sharded subchunk inner index location) elements shape in
    let found = c.in-Ok.found.items in
    let r = c.put_slices.result in
    let puts = subst (λ (xs : List PieceSlice). PutsSlices array xs found r) c.as_slice-slices.ensures.value
    (subst (λ (ys : List ArrayBytes). PutsSlices array c.as_slice-slices.result.now ys r) c.as_slice.ensures.value c.put_slices.ensures) in
    pieces_put subchunk inner index location elements shape value c.args.pieces c.args.made.items cut are found r c.in-Ok.ensures.ok puts

pub returns : goal.returns
returns g c = λ value cut are.
    let self = c.args.self.now in
    let subchunk = self.subchunk_shape in
    let inner = g.I.ArrayToBytesCodecTraits.meaning self.inner_codecs in
    let index = g.X.ArrayToBytesCodecTraits.meaning self.index_codecs in
    let location = location_of self.index_location in
    let elements = elements_of c.args.elements.now in
    let shape = c.args.shape.now in
    pieces_lost subchunk inner index location elements shape value c.args.pieces c.args.made.items cut are c.in-Err.error c.in-Err.ensures.err
