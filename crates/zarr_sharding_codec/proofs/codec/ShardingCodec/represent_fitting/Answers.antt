use Rattle.std.proofs.Common.{◌≡◌, ◌∙◌, [], List, ℕ, Some, None, Err, option_map, ap, length, subst, sym}
use Rattle.zarr_codecs_types.specs.Views.{type_of}
use Rattle.zarr_codecs_meaning.specs.Types.{zero_filled}
use Rattle.zarr_sharding_index.specs.Views.{location_of}
use Rattle.zarr_sharding_codec.specs.Fitting.{BoundsShapes, any_told_long, behind, bound_of_shapes, capped}
use Rattle.zarr_sharding_codec.proofs.ShardSizes.{index_told, slices_refused, slices_told, slices_unknown}
use Rattle.zarr_sharding_codec.proofs.StoredLoop.{rank_fits}
use Rattle.zarr_sharding_codec.proofs.codec.ShardingCodec.represent_fitting.Goals as goal

pub returns-then-has_no_place : goal.returns-then-has_no_place
returns-then-has_no_place g c =
    let self = c.args.self.now in
    index_told self.subchunk_shape (g.I.ArrayToBytesCodecTraits.meaning self.inner_codecs) (g.X.ArrayToBytesCodecTraits.meaning self.index_codecs) (location_of self.index_location) (type_of c.args.data_type.now) c.args.shape.now c.requires.fit
    c.args.size c.requires.size (c.has_no_place.ensures.0 c.if-has_no_place.true)

pub bound_shapes-requires-clause-rank : goal.bound_shapes-requires-clause-rank
bound_shapes-requires-clause-rank g c =
    let self = c.args.self.now in
    rank_fits self.subchunk_shape (g.I.ArrayToBytesCodecTraits.meaning self.inner_codecs) (g.X.ArrayToBytesCodecTraits.meaning self.index_codecs) (location_of self.index_location) (zero_filled (type_of c.args.data_type.now)) c.args.shape.now c.requires.fit
    ∙ ap length (sym c.as_slice-edges.ensures.edges)

pub returns-in-Ok-Some : goal.returns-in-Ok-Some
returns-in-Ok-Some g c =
    let self = c.args.self.now in
    let inner = g.I.ArrayToBytesCodecTraits.meaning self.inner_codecs in
    let type = type_of c.args.data_type.now in
    let shape = c.args.shape.now in
    let front : c.as_slice-front.result.now ≡ [] = c.as_slice-front.ensures.value ∙ c.new-front.ensures.items in
    let same = ap (λ (f : List ℕ). option_map capped (bound_of_shapes inner type (behind f shape c.as_slice-edges.result.now))) front
    ∙ ap (λ (es : List ℕ). option_map capped (bound_of_shapes inner type (behind [] shape es))) c.as_slice-edges.ensures.edges in
    let alike = ap (λ (f : List ℕ). any_told_long inner type (behind f shape c.as_slice-edges.result.now)) front
    ∙ ap (λ (es : List ℕ). any_told_long inner type (behind [] shape es)) c.as_slice-edges.ensures.edges in
    let bounds : Some c.in-Ok-Some.slices ≡ option_map capped (bound_of_shapes inner type (behind [] shape self.subchunk_shape)) = sym c.in-Ok-Some.field-0-is ∙ (c.in-Ok-Some.ensures.sum ∙ same) in
    slices_told self.subchunk_shape inner (g.X.ArrayToBytesCodecTraits.meaning self.index_codecs) (location_of self.index_location) type shape c.requires.fit c.args.size c.in-Ok-Some.slices c.bounded.result c.requires.size bounds (sym alike ∙ c.in-Ok-Some.ensures.short) c.bounded.ensures

pub returns-in-Ok-None : goal.returns-in-Ok-None
returns-in-Ok-None g c =
    let self = c.args.self.now in
    let inner = g.I.ArrayToBytesCodecTraits.meaning self.inner_codecs in
    let type = type_of c.args.data_type.now in
    let shape = c.args.shape.now in
    let front : c.as_slice-front.result.now ≡ [] = c.as_slice-front.ensures.value ∙ c.new-front.ensures.items in
    let same = ap (λ (f : List ℕ). option_map capped (bound_of_shapes inner type (behind f shape c.as_slice-edges.result.now))) front
    ∙ ap (λ (es : List ℕ). option_map capped (bound_of_shapes inner type (behind [] shape es))) c.as_slice-edges.ensures.edges in
    let alike = ap (λ (f : List ℕ). any_told_long inner type (behind f shape c.as_slice-edges.result.now)) front
    ∙ ap (λ (es : List ℕ). any_told_long inner type (behind [] shape es)) c.as_slice-edges.ensures.edges in
    let none : None ≡ option_map capped (bound_of_shapes inner type (behind [] shape self.subchunk_shape)) = sym c.in-Ok-None.field-0-is ∙ (c.in-Ok-None.ensures.sum ∙ same) in
    slices_unknown self.subchunk_shape inner (g.X.ArrayToBytesCodecTraits.meaning self.index_codecs) (location_of self.index_location) type shape c.requires.fit c.args.size c.requires.size none (sym alike ∙ c.in-Ok-None.ensures.short)

pub returns : goal.returns
returns g c =
    let self = c.args.self.now in
    let inner = g.I.ArrayToBytesCodecTraits.meaning self.inner_codecs in
    let type = type_of c.args.data_type.now in
    let shape = c.args.shape.now in
    let e = c.in-Err.error in
    let front : c.as_slice-front.result.now ≡ [] = c.as_slice-front.ensures.value ∙ c.new-front.ensures.items in
    let found = subst (λ (f : List ℕ). BoundsShapes inner type (behind f shape c.as_slice-edges.result.now) (Err e)) front c.in-Err.ensures in
    slices_refused self.subchunk_shape inner (g.X.ArrayToBytesCodecTraits.meaning self.index_codecs) (location_of self.index_location) type shape c.requires.fit e
    (subst (λ (es : List ℕ). BoundsShapes inner type (behind [] shape es) (Err e)) c.as_slice-edges.ensures.edges found)
