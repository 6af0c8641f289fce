use Rattle.std.proofs.Common.{◌≡◌, ◌∙◌, ◌+◌, List, [], ◌∷◌, drop, ap, sym, subst, true, refl, Ok, Err}
use Rattle.std.proofs.lemmas.Bool.{and_parts}
use Rattle.std.proofs.lemmas.List.{drop_all}
use Rattle.zarr_codecs_meaning.specs.Chains.{ArrayCodec}
use Rattle.zarr_codecs_meaning.specs.Fits.{array_codec_fits}
use Rattle.zarr_codecs_meaning.specs.Places.{encoded_shape}
use Rattle.zarr_codecs_arrays.specs.Views.{elements_of, payload_of}
use Rattle.zarr_codecs_array_to_array.specs.Views.{codec_of}
use Rattle.zarr_codecs_traits.specs.Outcomes.{EncodesArray}
use Rattle.zarr_codecs_around.specs.ArrayCodecs.{MovesAll, all_fit}
use Rattle.zarr_codecs_around.specs.Views.{codecs_of}
use Rattle.zarr_codecs_around.proofs.AllArrayCodecs.{moves_next, moves_refused}
use Rattle.zarr_codecs_around.proofs.Left.{left_at}
use Rattle.zarr_codecs_around.proofs.array_codecs.move_all.Goals as goal

pub loop-codec-preserved : goal.loop-codec-preserved
loop-codec-preserved c =
    let i = c.loop-codec.codec-index in
    let codec = codec_of c.codec-item.result in
    let others = codecs_of (drop (i + 1) c.args.codecs.now) in
    let elements = elements_of c.args.elements.now in
    let shape = c.loop-codec.after.items in
    let payload = payload_of c.loop-codec.moved in
    let moved = c.in-Ok-encode.made in
    let left : codecs_of (drop i c.args.codecs.now) ≡ codec ∷ others = ap codecs_of (left_at c.args.codecs.now c.codec-item.result i (i + 1) refl c.loop-codec-test.true c.codec-item.is) in
    let all : all_fit (codec ∷ others) shape ≡ true = ap (λ (codecs : List ArrayCodec). all_fit codecs shape) (sym left) ∙ c.loop-codec.invariant.fit in
    let two = and_parts (array_codec_fits codec shape) (all_fit others (encoded_shape codec shape)) all in
    let told : c.in-Ok.encoded.items ≡ encoded_shape codec shape = c.in-Ok.ensures.1 ∙ ap (encoded_shape codec) c.as_slice.ensures.value in
    let m = subst (λ es. EncodesArray codec elements es payload (Ok moved)) c.as_slice-in-loop-codec.ensures.value c.in-Ok-encode.ensures in
    record {
      fit = ap (all_fit others) told ∙ two.1;
      moves = λ r h. c.loop-codec.invariant.moves r (subst (λ (codecs : List ArrayCodec). MovesAll codecs elements shape payload r) (sym left)
          (moves_next codec others elements shape payload moved r c.args.elements.now.fills two.1 m (subst (λ es. MovesAll others elements es (payload_of moved) r) told h)));
    }

pub returns-in-Err-encode : goal.returns-in-Err-encode
returns-in-Err-encode c =
    let i = c.loop-codec.codec-index in
    let codec = codec_of c.codec-item.result in
    let others = codecs_of (drop (i + 1) c.args.codecs.now) in
    let elements = elements_of c.args.elements.now in
    let shape = c.loop-codec.after.items in
    let payload = payload_of c.loop-codec.moved in
    let e = c.in-Err-encode.error in
    let left : codecs_of (drop i c.args.codecs.now) ≡ codec ∷ others = ap codecs_of (left_at c.args.codecs.now c.codec-item.result i (i + 1) refl c.loop-codec-test.true c.codec-item.is) in
    let all : all_fit (codec ∷ others) shape ≡ true = ap (λ (codecs : List ArrayCodec). all_fit codecs shape) (sym left) ∙ c.loop-codec.invariant.fit in
    let why = subst (λ es. EncodesArray codec elements es payload (Err e)) c.as_slice-in-loop-codec.ensures.value c.in-Err-encode.ensures in
    c.loop-codec.invariant.moves (Err e) (subst (λ (codecs : List ArrayCodec). MovesAll codecs elements shape payload (Err e)) (sym left) (moves_refused codec others elements shape payload e all why))

pub returns : goal.returns
returns c =
    let elements = elements_of c.args.elements.now in
    let shape = c.loop-codec.after.items in
    let moved = c.loop-codec.moved in
    let none : codecs_of (drop c.loop-codec.codec-index c.args.codecs.now) ≡ [] = ap codecs_of (drop_all c.loop-codec.codec-index c.args.codecs.now c.loop-codec-test.false) in
    c.loop-codec.invariant.moves (Ok moved) (subst (λ (codecs : List ArrayCodec). MovesAll codecs elements shape (payload_of moved) (Ok moved)) (sym none) (λ chain exact r fit h. h))
