use Rattle.std.proofs.Common.{◌≡◌, ◌∷◌, ◌≤◌, ◌+◌, ◌∙◌, List, ap, sym, subst, true, Err}
use Rattle.zarr_codecs_arrays.specs.Views.{elements_of}
use Rattle.zarr_codecs_array_to_array.specs.Moving.{are_places}
use Rattle.zarr_codecs_array_to_array.specs.Views.{codec_of}
use Rattle.zarr_codecs_array_to_array.specs.declared.codec.ArrayToArrayCodec.{ArrayToArrayCodec}
use Rattle.zarr_codecs_traits.specs.Indexers.{are_inside, asked_of, listed, numbers_asked}
use Rattle.zarr_codecs_traits.specs.Arrays.{coded}
use Rattle.zarr_codecs_traits.specs.Outcomes.{DecodesPart}
use Rattle.zarr_codecs_traits.specs.ReadBytes.{most_of_numbers}
use Rattle.zarr_codecs_around.specs.ArrayCodecs.{shape_after}
use Rattle.zarr_codecs_around.specs.MovedNumbers.{numbers_after}
use Rattle.zarr_codecs_around.specs.Views.{codecs_of, with_array_codecs}
use Rattle.zarr_codecs_around.proofs.MovedNumbers.{lists_all, most_all, unlisted_all}
use Rattle.zarr_codecs_around.proofs.PartChains.{asked_places, asked_by_numbers}
use Rattle.zarr_codecs_around.proofs.part_reading.decode_asked_after.Goals as goal

pub invariant_of-listed : goal.invariant_of-listed
invariant_of-listed g c =
    let shape = c.args.part.shape.now in
    let asked = asked_of c.args.part.indexer in
    let inside : are_inside shape asked ≡ true = c.requires.inside in
    record { inside = ap (are_places shape) (c.as_slice.ensures.value ∙ c.in_ok-numbers.ensures.numbers) ∙ asked_places shape asked inside }

pub invariant_of-inner : goal.invariant_of-inner
invariant_of-inner g c =
    record { inside = ap (are_places c.as_slice-2.result.now) c.as_slice-3.ensures.value ∙ (ap (λ es. are_places es c.in-Ok.moved.numbers.items) c.as_slice-2.ensures.value ∙ c.in-Ok.ensures.inside) }

pub returns-in-Err-clause-part : goal.returns-in-Err-clause-part
returns-in-Err-clause-part g c = λ honest.
    let rest = g.A.ArrayToBytesCodecTraits.meaning c.args.chain.rest.now in
    let codecs = codec_of c.in-Some.first.now ∷ codecs_of c.in-Some.others.now in
    let elements = elements_of c.args.part.elements.now in
    let shape = c.args.part.shape.now in
    let asked = asked_of c.args.part.indexer in
    let stored = g.D.BytesPartialDecoderTraits.contents c.args.source.now in
    let e = c.in-Err.error in
    subst (λ (codecs : List ArrayToArrayCodec). DecodesPart (coded (with_array_codecs (codecs_of codecs) rest) elements shape) stored asked (Err e)) (sym c.in-Some.ensures.cases.0)
    (unlisted_all codecs rest elements shape stored c.as_slice.result.now asked e c.in-Err.ensures)

pub returns-clause-part : goal.returns-clause-part
returns-clause-part g c = λ honest.
    let rest = g.A.ArrayToBytesCodecTraits.meaning c.args.chain.rest.now in
    let codecs = codec_of c.in-Some.first.now ∷ codecs_of c.in-Some.others.now in
    let elements = elements_of c.args.part.elements.now in
    let shape = c.args.part.shape.now in
    let asked = asked_of c.args.part.indexer in
    let numbers = numbers_asked shape asked in
    let stored = g.D.BytesPartialDecoderTraits.contents c.args.source.now in
    let r = c.decode_numbers.result in
    let told : c.as_slice.result.now ≡ numbers = c.as_slice.ensures.value ∙ c.in_ok-numbers.ensures.numbers in
    let inside : are_inside shape asked ≡ true = c.requires.inside in
    let last : c.as_slice-2.result.now ≡ shape_after codecs shape = c.as_slice-2.ensures.value ∙ c.in-Ok.ensures.last_is in
    let moved : c.as_slice-3.result.now ≡ numbers_after codecs shape numbers = c.as_slice-3.ensures.value ∙ (c.in-Ok.ensures.moved_are ∙ ap (numbers_after codecs shape) told) in
    let read = subst (λ es. DecodesPart (coded rest elements es) stored (listed c.as_slice-3.result.now) r) last (c.decode_numbers.ensures.part honest) in
    subst (λ (codecs : List ArrayToArrayCodec). DecodesPart (coded (with_array_codecs (codecs_of codecs) rest) elements shape) stored asked r) (sym c.in-Some.ensures.cases.0)
    (asked_by_numbers (with_array_codecs codecs rest) elements shape stored asked r inside
    (lists_all codecs rest elements shape stored numbers r c.in-Ok.ensures.fit (asked_places shape asked inside) (subst (λ ns. DecodesPart (coded rest elements (shape_after codecs shape)) stored (listed ns) r) moved read)))

pub returns-clause-given : goal.returns-clause-given
returns-clause-given g c = λ honest.
    let D = g.D.BytesPartialDecoderTraits in
    let rest = g.A.ArrayToBytesCodecTraits.meaning c.args.chain.rest.now in
    let codecs = codec_of c.in-Some.first.now ∷ codecs_of c.in-Some.others.now in
    let type = (elements_of c.args.part.elements.now).type in
    let shape = c.args.part.shape.now in
    let asked = asked_of c.args.part.indexer in
    let numbers = numbers_asked shape asked in
    let stored = D.contents c.args.source.now in
    let old = D.given_bytes c.args.source.now in
    let new = D.given_bytes c.decode_numbers.new.source in
    let told : c.as_slice.result.now ≡ numbers = c.as_slice.ensures.value ∙ c.in_ok-numbers.ensures.numbers in
    let last : c.as_slice-2.result.now ≡ shape_after codecs shape = c.as_slice-2.ensures.value ∙ c.in-Ok.ensures.last_is in
    let moved : c.as_slice-3.result.now ≡ numbers_after codecs shape numbers = c.as_slice-3.ensures.value ∙ (c.in-Ok.ensures.moved_are ∙ ap (numbers_after codecs shape) told) in
    let most : most_of_numbers rest type c.as_slice-2.result.now stored c.as_slice-3.result.now ≡ most_of_numbers (with_array_codecs codecs rest) type shape stored numbers =
    ap (λ es. most_of_numbers rest type es stored c.as_slice-3.result.now) last ∙ (ap (λ ns. most_of_numbers rest type (shape_after codecs shape) stored ns) moved ∙ most_all codecs rest type shape stored numbers) in
    subst (λ (codecs : List ArrayToArrayCodec). new ≤ old + most_of_numbers (with_array_codecs (codecs_of codecs) rest) type shape stored numbers) (sym c.in-Some.ensures.cases.0)
    (subst (λ n. new ≤ old + n) most (c.decode_numbers.ensures.given honest))
