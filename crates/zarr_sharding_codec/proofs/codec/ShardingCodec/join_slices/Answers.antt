use Rattle.std.proofs.Common.{◌≡◌, ◌∙◌, ap, sym, subst, arith, length, map, List, ℕ}
use Rattle.std.proofs.lemmas.List.{length-map}
use Rattle.zarr_grids_boxes.specs.Boxes.{product}
use Rattle.zarr_codecs_arrays.specs.Views.{elements_of}
use Rattle.zarr_codecs_meaning.specs.Encoding.{Pair, base_of, index_size, pairs_from}
use Rattle.zarr_codecs_meaning.specs.Places.{index_shape}
use Rattle.zarr_codecs_meaning.proofs.Parts.{index_product}
use Rattle.zarr_codecs_meaning.proofs.Shards.{length-pairs_from}
use Rattle.zarr_sharding_index.specs.Stored.{index_fits}
use Rattle.zarr_sharding_index.specs.Views.{location_of}
use Rattle.zarr_sharding_index.proofs.StoredIndex.{index_below}
use Rattle.zarr_sharding_inner.specs.Orders.{is_row_major}
use Rattle.zarr_sharding_codec.specs.Assembled.{Assembles}
use Rattle.zarr_sharding_index.specs.Held.{index_coding}
use Rattle.zarr_sharding_codec.specs.Slices.{slice_of}
use Rattle.zarr_sharding_codec.proofs.EncodedShard.{assembled_encodes, index_part}
use Rattle.zarr_sharding_codec.proofs.Gapless.{base_small}
use Rattle.zarr_sharding_codec.proofs.StoredLoop.{rank_fits}
use Rattle.zarr_sharding_codec.proofs.codec.ShardingCodec.join_slices.Goals as goal

pub index_shape-requires : goal.index_shape-requires
index_shape-requires g c =
    let self = c.args.self.now in
    let subchunk = self.subchunk_shape in
    let inner = g.I.ArrayToBytesCodecTraits.meaning self.inner_codecs in
    let index = g.X.ArrayToBytesCodecTraits.meaning self.index_codecs in
    let location = location_of self.index_location in
    let elements = elements_of c.args.array.elements.now in
    let shape = c.args.array.shape.now in
    rank_fits subchunk inner index location elements shape c.requires.fit

pub in_row-requires : goal.in_row-requires
in_row-requires g c =
    let self = c.args.self.now in
    let subchunk = self.subchunk_shape in
    let inner = g.I.ArrayToBytesCodecTraits.meaning self.inner_codecs in
    let index = g.X.ArrayToBytesCodecTraits.meaning self.index_codecs in
    let location = location_of self.index_location in
    let elements = elements_of c.args.array.elements.now in
    let shape = c.args.array.shape.now in
    let less = base_small location c.args.size in
    let small = (index_below index (index_shape shape subchunk) (index_part subchunk inner index location elements shape c.requires.fit)).1 in
    let size : c.args.size ≡ index_size index (index_shape shape subchunk) = c.requires.size in
    let base = c.base.ensures in
    omega (arith, less, small, size, base)

pub assemble-requires-clause-fit : goal.assemble-requires-clause-fit
assemble-requires-clause-fit g c =
    let self = c.args.self.now in
    let subchunk = self.subchunk_shape in
    let inner = g.I.ArrayToBytesCodecTraits.meaning self.inner_codecs in
    let index = g.X.ArrayToBytesCodecTraits.meaning self.index_codecs in
    let location = location_of self.index_location in
    let elements = elements_of c.args.array.elements.now in
    let shape = c.args.array.shape.now in
    let pairs = c.as_slice-2.ensures.value ∙ c.in_ok-pairs_shape.ensures in
    ap (index_fits index) pairs ∙ index_part subchunk inner index location elements shape c.requires.fit

pub assemble-requires-clause-many : goal.assemble-requires-clause-many
assemble-requires-clause-many g c =
    let shape = c.args.array.shape.now in
    let subchunk = c.args.self.now.subchunk_shape in
    let base = c.base.result in
    let stored = c.args.stored.items in
    let whole = ap product (c.as_slice-2.ensures.value ∙ c.in_ok-pairs_shape.ensures) in
    let half = ap product (c.as_slice.ensures.value ∙ c.in_ok-pairs_shape.ensures) in
    let numbers = c.in-Some.ensures.1 in
    let two = index_product shape subchunk in
    let half_is = c.if-numbers-len.false in
    let many = ap (λ (ps : List Pair). length ps) c.in_ok-data.ensures.index ∙ (length-pairs_from (map slice_of stored) base ∙ length-map stored slice_of) in
    omega (arith, whole, half, numbers, two, half_is, many)

pub returns : goal.returns
returns g c = λ payload cells valid are.
    let self = c.args.self.now in
    let subchunk = self.subchunk_shape in
    let inner = g.I.ArrayToBytesCodecTraits.meaning self.inner_codecs in
    let index = g.X.ArrayToBytesCodecTraits.meaning self.index_codecs in
    let location = location_of self.index_location in
    let elements = elements_of c.args.array.elements.now in
    let shape = c.args.array.shape.now in
    let one = g.I.ArrayToBytesCodecTraits.is_function self.inner_codecs in
    let two = g.X.ArrayToBytesCodecTraits.is_function self.index_codecs in
    let stored = map slice_of c.args.stored.items in
    let pairs = c.as_slice-2.ensures.value ∙ c.in_ok-pairs_shape.ensures in
    let base : c.base.result ≡ base_of location (index_size index c.as_slice-2.result.now) = c.base.ensures ∙ (ap (base_of location) (c.requires.size ∙ ap (index_size index) (sym pairs))) in
    let made = subst (λ (s : List ℕ). Assembles (index_coding index two location s) stored c.assemble.result) pairs (c.assemble.ensures stored c.in_ok-data.ensures.data (c.in_ok-data.ensures.index ∙ ap (λ n. pairs_from n stored) base)) in
    assembled_encodes subchunk inner index location (is_row_major self.subchunk_write_order) one two elements shape payload cells stored c.assemble.result
    (g.met.I.ArrayToBytesCodecTraits.lawful self.inner_codecs) (g.met.X.ArrayToBytesCodecTraits.lawful self.index_codecs) c.requires.fit valid are made
