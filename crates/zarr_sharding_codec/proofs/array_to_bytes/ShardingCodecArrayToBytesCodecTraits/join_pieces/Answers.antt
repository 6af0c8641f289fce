use Rattle.zarr_codecs_arrays.specs.Views.{elements_of}
use Rattle.zarr_sharding_index.specs.Views.{location_of}
use Rattle.zarr_sharding_codec.specs.Views.{makes_a_function}
use Rattle.zarr_sharding_codec.proofs.CutArrays.{pieces_joined, pieces_unstored}
use Rattle.zarr_sharding_codec.proofs.array_to_bytes.ShardingCodecArrayToBytesCodecTraits.join_pieces.Goals as goal

pub returns-in-Ok : goal.returns-in-Ok
returns-in-Ok g c = λ payload cut are.
    let self = c.args.self.now in
    let subchunk = self.subchunk_shape in
    let inner = g.I.ArrayToBytesCodecTraits.meaning self.inner_codecs in
    let index = g.X.ArrayToBytesCodecTraits.meaning self.index_codecs in
    let location = location_of self.index_location in
    let elements = elements_of c.args.elements.now in
    let shape = c.args.shape.now in
    let one = g.I.ArrayToBytesCodecTraits.is_function self.inner_codecs in
    let all = makes_a_function g.I.ArrayToBytesCodecTraits.is_function g.X.ArrayToBytesCodecTraits.is_function self in
    pieces_joined subchunk inner index location one all elements shape payload _ c.args.made.items cut are c.in-Ok.stored.items c.join_slices.result c.in-Ok.ensures.ok c.join_slices.ensures

pub returns : goal.returns
returns g c = λ payload cut are.
    let self = c.args.self.now in
    let subchunk = self.subchunk_shape in
    let inner = g.I.ArrayToBytesCodecTraits.meaning self.inner_codecs in
    let index = g.X.ArrayToBytesCodecTraits.meaning self.index_codecs in
    let location = location_of self.index_location in
    let elements = elements_of c.args.elements.now in
    let shape = c.args.shape.now in
    let one = g.I.ArrayToBytesCodecTraits.is_function self.inner_codecs in
    let all = makes_a_function g.I.ArrayToBytesCodecTraits.is_function g.X.ArrayToBytesCodecTraits.is_function self in
    pieces_unstored subchunk inner index location one all elements shape payload _ c.args.made.items cut are c.in-Err.error c.in-Err.ensures.err
