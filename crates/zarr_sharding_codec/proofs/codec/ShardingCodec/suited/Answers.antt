use Rattle.std.proofs.Common.{◌≡◌, ap, sym, ◌∙◌, subst, not, true, false, length, Some, None}
use Rattle.zarr_codecs_types.specs.Views.{type_of}
use Rattle.zarr_codecs_meaning.specs.Places.{index_shape}
use Rattle.zarr_sharding_index.specs.Stored.{SizesIndex}
use Rattle.zarr_sharding_index.specs.Views.{location_of}
use Rattle.zarr_sharding_codec.specs.Fitting.{parts_fit}
use Rattle.zarr_sharding_codec.proofs.NumberedParts.{cuts_when}
use Rattle.zarr_sharding_codec.proofs.FitParts.{IsCutFit, no_dimensions, suits_when}
use Rattle.zarr_sharding_codec.proofs.codec.ShardingCodec.suited.Goals as goal

pub returns-then-shape-edges : goal.returns-then-shape-edges
returns-then-shape-edges g c =
    let self = c.args.self.now in
    let subchunk = self.subchunk_shape in
    let inner = g.I.ArrayToBytesCodecTraits.meaning self.inner_codecs in
    let index = g.X.ArrayToBytesCodecTraits.meaning self.index_codecs in
    let type = type_of c.args.data_type.now in
    no_dimensions subchunk inner index (location_of self.index_location) type c.args.shape.now (λ same. c.if-shape-edges.true (same ∙ ap length (sym c.as_slice-edges.ensures.edges)))

pub returns : goal.returns
returns g c =
    let self = c.args.self.now in
    let subchunk = self.subchunk_shape in
    let shape = c.args.shape.now in
    let inner = g.I.ArrayToBytesCodecTraits.meaning self.inner_codecs in
    let index = g.X.ArrayToBytesCodecTraits.meaning self.index_codecs in
    let type = type_of c.args.data_type.now in
    let edges = c.as_slice-edges.ensures.edges in
    let same : length shape ≡ length subchunk = c.if-shape-edges.false ∙ ap length edges in
    let at : c.as_slice.result.now ≡ index_shape shape subchunk = c.as_slice.ensures.value ∙ c.in_ok-pairs_shape.ensures in
    let h : IsCutFit subchunk inner type shape = record {
      cuts = cuts_when shape subchunk same c.as_slice-edges.ensures.positive;
      plain = ap not (sym c.is_optional.ensures) ∙ ap not c.if-is_optional.false;
      parts = sym c.in_ok-suits_parts.ensures ∙ c.if-not-branch.false;
    } in
    suits_when subchunk inner index (location_of self.index_location) type shape c.in-Some.size h (subst (λ s. SizesIndex index s (Some c.in-Some.size)) at (subst (SizesIndex index c.as_slice.result.now) c.in-Some.is c.in_ok-size.ensures))
