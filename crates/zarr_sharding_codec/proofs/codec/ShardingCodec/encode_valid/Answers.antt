use Rattle.std.proofs.Common.{◌≡◌, ◌*◌, ap, sym, ◌∙◌, subst, length}
use Rattle.zarr_grids_boxes.specs.Boxes.{product}
use Rattle.zarr_codecs_arrays.specs.Views.{elements_of, payload_of}
use Rattle.zarr_codecs_meaning.specs.Encoding.{base_of, index_size, pairs_from}
use Rattle.zarr_codecs_meaning.proofs.Parts.{index_product}
use Rattle.zarr_codecs_meaning.proofs.Shards.{length-pairs_from}
use Rattle.zarr_sharding_index.specs.Stored.{index_fits}
use Rattle.zarr_sharding_index.specs.Views.{location_of}
use Rattle.zarr_sharding_codec.specs.Assembled.{Assembles}
use Rattle.zarr_sharding_index.specs.Held.{index_coding}
use Rattle.zarr_sharding_inner.specs.Orders.{is_row_major}
use Rattle.zarr_sharding_codec.specs.Views.{makes_a_function}
use Rattle.zarr_sharding_codec.proofs.EncodedShard.{assembled_encodes, index_part, pieces_refused, slices_many}
use Rattle.zarr_sharding_codec.proofs.StoredLoop.{rank_fits}
use Rattle.zarr_sharding_codec.proofs.codec.ShardingCodec.encode_valid.Goals as goal

pub index_shape-requires : goal.index_shape-requires
index_shape-requires g c =
    let self = c.args.self.now in
    rank_fits self.subchunk_shape (g.I.ArrayToBytesCodecTraits.meaning self.inner_codecs) (g.X.ArrayToBytesCodecTraits.meaning self.index_codecs) (location_of self.index_location) (elements_of c.args.array.elements.now) c.args.array.shape.now c.requires.fit

pub returns-in-Err : goal.returns-in-Err
returns-in-Err g c =
    let self = c.args.self.now in
    let valid = c.requires.valid in
    pieces_refused self.subchunk_shape (g.I.ArrayToBytesCodecTraits.meaning self.inner_codecs) (g.X.ArrayToBytesCodecTraits.meaning self.index_codecs) (location_of self.index_location) (g.I.ArrayToBytesCodecTraits.is_function self.inner_codecs) (makes_a_function g.I.ArrayToBytesCodecTraits.is_function g.X.ArrayToBytesCodecTraits.is_function self)
    (elements_of c.args.array.elements.now) c.args.array.shape.now (base_of (location_of self.index_location) c.args.size) (payload_of c.args.bytes.now) valid.0 c.in-Err.error c.requires.fit valid.1 (c.in-Err.ensures valid.0 valid.1)

pub assemble-requires-clause-fit : goal.assemble-requires-clause-fit
assemble-requires-clause-fit g c =
    let self = c.args.self.now in
    let index = g.X.ArrayToBytesCodecTraits.meaning self.index_codecs in
    let pairs = c.as_slice.ensures.value ∙ c.in_ok-pairs_shape-in-Ok.ensures in
    ap (index_fits index) pairs ∙ index_part self.subchunk_shape (g.I.ArrayToBytesCodecTraits.meaning self.inner_codecs) index (location_of self.index_location) (elements_of c.args.array.elements.now) c.args.array.shape.now c.requires.fit

pub assemble-requires-clause-many : goal.assemble-requires-clause-many
assemble-requires-clause-many g c =
    let self = c.args.self.now in
    let shape = c.args.array.shape.now in
    let subchunk = self.subchunk_shape in
    let valid = c.requires.valid in
    let laid = c.in-Ok.ensures valid.0 valid.1 in
    let count = slices_many (g.I.ArrayToBytesCodecTraits.meaning self.inner_codecs) (g.I.ArrayToBytesCodecTraits.is_function self.inner_codecs) (elements_of c.args.array.elements.now) shape subchunk valid.0 laid.stored laid.are in
    let pairs = c.as_slice.ensures.value ∙ c.in_ok-pairs_shape-in-Ok.ensures in
    let many = ap length laid.indexed ∙ (length-pairs_from laid.stored (base_of (location_of self.index_location) c.args.size) ∙ count) in
    ap product pairs ∙ (index_product shape subchunk ∙ ap (λ n. 2 * n) (sym many))

pub returns-in_ok-pairs_shape-in-Ok : goal.returns-in_ok-pairs_shape-in-Ok
returns-in_ok-pairs_shape-in-Ok g c =
    let self = c.args.self.now in
    let shape = c.args.array.shape.now in
    let inner = g.I.ArrayToBytesCodecTraits.meaning self.inner_codecs in
    let index = g.X.ArrayToBytesCodecTraits.meaning self.index_codecs in
    let one = g.I.ArrayToBytesCodecTraits.is_function self.inner_codecs in
    let two = g.X.ArrayToBytesCodecTraits.is_function self.index_codecs in
    let location = location_of self.index_location in
    let valid = c.requires.valid in
    let laid = c.in-Ok.ensures valid.0 valid.1 in
    let pairs = c.as_slice.ensures.value ∙ c.in_ok-pairs_shape-in-Ok.ensures in
    let base : base_of location c.args.size ≡ base_of location (index_size index c.as_slice.result.now) = ap (base_of location) (c.requires.size ∙ ap (index_size index) (sym pairs)) in
    let made = subst (λ s. Assembles (index_coding index two location s) laid.stored c.assemble.result) pairs (c.assemble.ensures laid.stored laid.in_row (laid.indexed ∙ ap (λ n. pairs_from n laid.stored) base)) in
    assembled_encodes self.subchunk_shape inner index location (is_row_major self.subchunk_write_order) one two (elements_of c.args.array.elements.now) shape (payload_of c.args.bytes.now) valid.0 laid.stored c.assemble.result
    (g.met.I.ArrayToBytesCodecTraits.lawful self.inner_codecs) (g.met.X.ArrayToBytesCodecTraits.lawful self.index_codecs) c.requires.fit valid.1 laid.are made
