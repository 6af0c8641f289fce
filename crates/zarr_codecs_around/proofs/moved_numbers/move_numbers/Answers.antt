use Rattle.std.proofs.Common.{◌≡◌, ◌∙◌, ◌+◌, List, ◌∷◌, drop, ap, refl, sym, subst, true}
use Rattle.zarr_codecs_meaning.specs.Chains.{ArrayCodec}
use Rattle.zarr_codecs_meaning.specs.Fits.{array_codec_fits}
use Rattle.zarr_codecs_meaning.specs.Places.{encoded_shape}
use Rattle.zarr_codecs_array_to_array.specs.Moving.{moved_numbers}
use Rattle.zarr_codecs_array_to_array.specs.Views.{codec_of}
use Rattle.zarr_codecs_around.specs.Views.{codecs_of}
use Rattle.zarr_codecs_around.proofs.Left.{left_at}
use Rattle.zarr_codecs_around.proofs.MovedNumbers.{IsLeft, all_left, one_less}
use Rattle.zarr_codecs_around.proofs.moved_numbers.move_numbers.Goals as goal

pub loop-codec-init : goal.loop-codec-init
loop-codec-init c =
    let codec = codec_of c.args.first.now in
    let others = codecs_of c.args.others.now in
    let shape = c.args.part.shape.now in
    let numbers = c.args.part.numbers.now in
    one_less codec others (codec ∷ others) shape numbers shape numbers c.in-Ok.encoded.items c.in_ok-numbers.numbers.items (all_left (codec ∷ others) shape numbers c.args.part.inside c.requires) c.in-Ok.ensures.0 c.in-Ok.ensures.1 c.in_ok-numbers.ensures.moved

pub loop-codec-preserved : goal.loop-codec-preserved
loop-codec-preserved c =
    let i = c.loop-codec.codec-index in
    let codec = codec_of c.codec-item.result in
    let others = codecs_of (drop (i + 1) c.args.others.now) in
    let whole = codec_of c.args.first.now ∷ codecs_of c.args.others.now in
    let now = c.loop-codec.shape.items in
    let moved = c.loop-codec.numbers.items in
    let left : codecs_of (drop i c.args.others.now) ≡ codec ∷ others = ap codecs_of (left_at c.args.others.now c.codec-item.result i (i + 1) refl c.loop-codec-test.true c.codec-item.is) in
    let told : c.in-Ok-encoded_shape.encoded.items ≡ encoded_shape codec now = c.in-Ok-encoded_shape.ensures.1 ∙ ap (encoded_shape codec) c.as_slice.ensures.value in
    let fit : array_codec_fits codec now ≡ true = ap (array_codec_fits codec) (sym c.as_slice.ensures.value) ∙ c.in-Ok-encoded_shape.ensures.0 in
    let next : c.in_ok-numbers-2.numbers.items ≡ moved_numbers codec now moved =
    c.in_ok-numbers-2.ensures.moved ∙ (ap (λ es. moved_numbers codec es c.as_slice-in-loop-codec-2.result.now) c.as_slice-in-loop-codec.ensures.value ∙ ap (moved_numbers codec now) c.as_slice-in-loop-codec-2.ensures.value) in
    one_less codec others whole c.args.part.shape.now c.args.part.numbers.now now moved c.in-Ok-encoded_shape.encoded.items c.in_ok-numbers-2.numbers.items
    (subst (λ (codecs : List ArrayCodec). IsLeft codecs whole c.args.part.shape.now c.args.part.numbers.now now moved) left c.loop-codec.invariant) fit told next
