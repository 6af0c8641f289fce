use Rattle.std.proofs.Common.{◌≡◌, ◌∙◌, ℕ, List, Some, ap, subst, sym, rules}
use Rattle.zarr_grids_boxes.specs.Boxes.{Region}
use Rattle.zarr_codecs_arrays.specs.Views.{elements_of}
use Rattle.zarr_codecs_meaning.specs.Chains.{sharded}
use Rattle.zarr_codecs_meaning.specs.Decoding.{slice_at}
use Rattle.zarr_codecs_traits.specs.Arrays.{coded}
use Rattle.zarr_codecs_traits.specs.Indexers.{listed}
use Rattle.zarr_codecs_traits.specs.Pieces.{AnswersPiece}
use Rattle.zarr_sharding_index.specs.Views.{location_of, pair_of}
use Rattle.zarr_sharding_places.specs.Locating.{part_shape}
use Rattle.zarr_sharding_codec.specs.Pieces.{DecodesAsked}
use Rattle.zarr_sharding_codec.proofs.DecodedSlice.{box_decoded, list_decoded, slice_past, whole_decoded}
use Rattle.zarr_sharding_codec.proofs.codec.ShardingCodec.decode_numbered.Goals as goal

pub returns-in_default : goal.returns-in_default
returns-in_default g c =
    let self = c.args.self.now in
    let array = coded (sharded self.subchunk_shape (g.I.ArrayToBytesCodecTraits.meaning self.inner_codecs) (g.X.ArrayToBytesCodecTraits.meaning self.index_codecs) (location_of self.index_location)) (elements_of c.args.array.elements.now) c.args.array.shape.now in
    slice_past array c.args.data.now c.args.slice.now (sym c.in_default.ensures)

pub returns-in-All : goal.returns-in-All
returns-in-All g c =
    let self = c.args.self.now in
    let slice = c.args.slice.now in
    let array = coded (sharded self.subchunk_shape (g.I.ArrayToBytesCodecTraits.meaning self.inner_codecs) (g.X.ArrayToBytesCodecTraits.meaning self.index_codecs) (location_of self.index_location)) (elements_of c.args.array.elements.now) c.args.array.shape.now in
    let edges : c.shape-shape.result.now ≡ part_shape c.args.array.shape.now self.subchunk_shape slice.number = c.shape-shape.ensures ∙ ap (λ (r : Region). r.shape) c.in_ok-region.ensures.region in
    let same : c.in_ok-bytes.bytes.items ≡ c.in-Some.bytes.now = search rules in
    let found : slice_at c.args.data.now (pair_of slice.range) ≡ Some c.in_ok-bytes.bytes.items = sym c.in-Some.ensures ∙ ap Some (sym same) in
    whole_decoded array c.args.data.now c.in_ok-bytes.bytes.items c.shape-shape.result.now slice c.decode_in_order.result edges found c.in-All.is c.decode_in_order.ensures

pub returns-in-InBox : goal.returns-in-InBox
returns-in-InBox g c =
    let self = c.args.self.now in
    let slice = c.args.slice.now in
    let array = coded (sharded self.subchunk_shape (g.I.ArrayToBytesCodecTraits.meaning self.inner_codecs) (g.X.ArrayToBytesCodecTraits.meaning self.index_codecs) (location_of self.index_location)) (elements_of c.args.array.elements.now) c.args.array.shape.now in
    let edges : c.shape-shape.result.now ≡ part_shape c.args.array.shape.now self.subchunk_shape slice.number = c.shape-shape.ensures ∙ ap (λ (r : Region). r.shape) c.in_ok-region.ensures.region in
    let same : c.in_ok-bytes.bytes.items ≡ c.in-Some.bytes.now = search rules in
    let found : slice_at c.args.data.now (pair_of slice.range) ≡ Some c.in_ok-bytes.bytes.items = sym c.in-Some.ensures ∙ ap Some (sym same) in
    box_decoded array c.args.data.now c.in_ok-bytes.bytes.items c.shape-shape.result.now slice c.in-InBox.inside _ c.decode_asked.result edges found c.in-InBox.is c.decode_asked.ensures

pub returns : goal.returns
returns g c =
    let self = c.args.self.now in
    let slice = c.args.slice.now in
    let array = coded (sharded self.subchunk_shape (g.I.ArrayToBytesCodecTraits.meaning self.inner_codecs) (g.X.ArrayToBytesCodecTraits.meaning self.index_codecs) (location_of self.index_location)) (elements_of c.args.array.elements.now) c.args.array.shape.now in
    let edges : c.shape-shape.result.now ≡ part_shape c.args.array.shape.now self.subchunk_shape slice.number = c.shape-shape.ensures ∙ ap (λ (r : Region). r.shape) c.in_ok-region.ensures.region in
    let same : c.in_ok-bytes.bytes.items ≡ c.in-Some.bytes.now = search rules in
    let found : slice_at c.args.data.now (pair_of slice.range) ≡ Some c.in_ok-bytes.bytes.items = sym c.in-Some.ensures ∙ ap Some (sym same) in
    let r = c.decode_asked-in-Listed.result in
    let inner = g.I.ArrayToBytesCodecTraits.meaning self.inner_codecs in
    let read = subst (λ (ns : List ℕ). AnswersPiece (DecodesAsked (coded inner (elements_of c.args.array.elements.now) c.shape-shape.result.now) c.in_ok-bytes.bytes.items (listed ns)) r) c.as_slice.ensures.value c.decode_asked-in-Listed.ensures in
    list_decoded array c.args.data.now c.in_ok-bytes.bytes.items c.shape-shape.result.now slice c.in-Listed.insides _ r edges found c.in-Listed.is read
