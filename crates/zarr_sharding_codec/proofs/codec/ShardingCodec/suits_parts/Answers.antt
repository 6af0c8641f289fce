use Rattle.std.proofs.Common.{◌≡◌, ◌∙◌, [], List, ℕ, ap, sym}
use Rattle.std.proofs.lemmas.Result.{IfOk-weaker}
use Rattle.zarr_codecs_types.specs.Views.{type_of}
use Rattle.zarr_sharding_codec.specs.Fitting.{behind, fits_shapes}
use Rattle.zarr_sharding_codec.proofs.NumberedParts.{cuts_when}
use Rattle.zarr_sharding_codec.proofs.FitParts.{fits_all, fits_nothing}
use Rattle.zarr_sharding_codec.proofs.codec.ShardingCodec.suits_parts.Goals as goal

pub returns-then-has_no_place : goal.returns-then-has_no_place
returns-then-has_no_place g c =
    let self = c.args.self.now in
    let shape = c.args.shape.now in
    let subchunk = self.subchunk_shape in
    sym (fits_nothing (g.I.ArrayToBytesCodecTraits.meaning self.inner_codecs) (type_of c.args.data_type.now) shape subchunk (cuts_when shape subchunk c.requires c.as_slice-edges.ensures.positive) (c.has_no_place.ensures.0 c.if-has_no_place.true))

pub returns : goal.returns
returns g c =
    let self = c.args.self.now in
    let inner = g.I.ArrayToBytesCodecTraits.meaning self.inner_codecs in
    let type = type_of c.args.data_type.now in
    let shape = c.args.shape.now in
    let front : c.as_slice-front.result.now ≡ [] = c.as_slice-front.ensures.value ∙ c.new-front.ensures.items in
    let same = ap (λ (f : List ℕ). fits_shapes inner type (behind f shape c.as_slice-edges.result.now)) front
    ∙ (ap (λ (es : List ℕ). fits_shapes inner type (behind [] shape es)) c.as_slice-edges.ensures.edges ∙ fits_all inner type shape self.subchunk_shape) in
    IfOk-weaker c.suits_shapes.result _ _ (λ fit is. is ∙ same) c.suits_shapes.ensures
