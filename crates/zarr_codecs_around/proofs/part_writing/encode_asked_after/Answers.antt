use Rattle.std.proofs.Common.{◌≡◌, ◌∷◌, ◌∙◌, List, ap, refl, sym, subst, true, Err}
use Rattle.std.specs.Prelude.{OnOk}
use Rattle.zarr_codecs_meaning.specs.Partial.{encodes_in_part}
use Rattle.zarr_codecs_meaning.specs.Types.{Cell}
use Rattle.zarr_codecs_arrays.specs.Views.{elements_of, payload_of}
use Rattle.zarr_codecs_array_to_array.specs.Moving.{are_places}
use Rattle.zarr_codecs_array_to_array.specs.Views.{codec_of}
use Rattle.zarr_codecs_array_to_array.specs.declared.codec.ArrayToArrayCodec.{ArrayToArrayCodec}
use Rattle.zarr_codecs_traits.specs.Indexers.{are_inside, asked_of, listed, numbers_asked}
use Rattle.zarr_codecs_traits.specs.Arrays.{coded, update_of}
use Rattle.zarr_codecs_traits.specs.PartWriting.{IsEncodedInto}
use Rattle.zarr_codecs_around.specs.ArrayCodecs.{shape_after}
use Rattle.zarr_codecs_around.specs.MovedNumbers.{numbers_after}
use Rattle.zarr_codecs_around.specs.Parts.{WritesPart, source_write}
use Rattle.zarr_codecs_around.specs.Views.{codecs_of, with_array_codecs}
use Rattle.zarr_codecs_around.proofs.MovedNumbers.{unmoved_all, writes_all, written_all}
use Rattle.zarr_codecs_around.proofs.PartChains.{asked_places}
use Rattle.zarr_codecs_around.proofs.WritingAfter.{on_written, unread_writes, writes_by_numbers, written_by_numbers}
use Rattle.zarr_codecs_around.proofs.part_writing.encode_asked_after.Goals as goal

pub invariant_of-listed : goal.invariant_of-listed
invariant_of-listed g c =
    let shape = c.args.part.shape.now in
    let asked = asked_of c.args.part.indexer in
    let inside : are_inside shape asked ≡ true = c.requires.inside in
    record { inside = ap (are_places shape) (c.as_slice.ensures.value ∙ c.in_ok-numbers.ensures.numbers) ∙ asked_places shape asked inside }

pub invariant_of-inner : goal.invariant_of-inner
invariant_of-inner g c =
    record { inside = ap (are_places c.as_slice-2.result.now) c.as_slice-3.ensures.value ∙ (ap (λ es. are_places es c.in-Ok.moved.numbers.items) c.as_slice-2.ensures.value ∙ c.in-Ok.ensures.inside) }

pub returns-in-Err-clause-writes : goal.returns-in-Err-clause-writes
returns-in-Err-clause-writes g c = λ honest same.
    let E = g.E.BytesPartialDecoderTraits in
    let rest = g.A.ArrayToBytesCodecTraits.meaning c.args.chain.rest.now in
    let codecs = codec_of c.in-Some.first.now ∷ codecs_of c.in-Some.others.now in
    let elements = elements_of c.args.part.elements.now in
    let shape = c.args.part.shape.now in
    let asked = asked_of c.args.part.indexer in
    let payload = payload_of c.args.bytes in
    let old = E.contents c.args.source.now in
    let e = c.in-Err.error in
    let source = source_write old (g.E.BytesPartialEncoderTraits.writes_ranges c.args.source.now) (E.given_bytes c.args.source.now) (E.given_bytes c.args.source.now) in
    subst (λ (codecs : List ArrayToArrayCodec). WritesPart {A = Unit {0}} (coded (with_array_codecs (codecs_of codecs) rest) elements shape) (update_of asked payload old) source (Err e)) (sym c.in-Some.ensures.cases.0)
    (unread_writes (coded (with_array_codecs codecs rest) elements shape) (update_of asked payload old) source e (unmoved_all codecs rest elements shape c.as_slice.result.now asked payload old e c.in-Err.ensures) refl)

pub returns-clause-ok : goal.returns-clause-ok
returns-clause-ok g c = λ honest.
    let E = g.E.BytesPartialDecoderTraits in
    let rest = g.A.ArrayToBytesCodecTraits.meaning c.args.chain.rest.now in
    let exact = g.A.ArrayToBytesCodecTraits.is_function c.args.chain.rest.now in
    let codecs = codec_of c.in-Some.first.now ∷ codecs_of c.in-Some.others.now in
    let chain = with_array_codecs codecs rest in
    let elements = elements_of c.args.part.elements.now in
    let shape = c.args.part.shape.now in
    let asked = asked_of c.args.part.indexer in
    let numbers = numbers_asked shape asked in
    let payload = payload_of c.args.bytes in
    let old = E.contents c.args.source.now in
    let new = E.contents c.encode_numbers.new.source in
    let r = c.encode_numbers.result in
    let inside : are_inside shape asked ≡ true = c.requires.inside in
    let told : c.as_slice.result.now ≡ numbers = c.as_slice.ensures.value ∙ c.in_ok-numbers.ensures.numbers in
    let last : c.as_slice-2.result.now ≡ shape_after codecs shape = c.as_slice-2.ensures.value ∙ c.in-Ok.ensures.last_is in
    let moved : c.as_slice-3.result.now ≡ numbers_after codecs shape numbers = c.as_slice-3.ensures.value ∙ (c.in-Ok.ensures.moved_are ∙ ap (numbers_after codecs shape) told) in
    let found = subst (λ es. OnOk r ((cells : List Cell) × IsEncodedInto (coded rest elements es) exact (update_of (listed c.as_slice-3.result.now) payload old) cells new)) last (c.encode_numbers.ensures.ok honest) in
    let at = subst (λ ns. OnOk r ((cells : List Cell) × IsEncodedInto (coded rest elements (shape_after codecs shape)) exact (update_of (listed ns) payload old) cells new)) moved found in
    subst (λ (codecs : List ArrayToArrayCodec). OnOk r ((cells : List Cell) × IsEncodedInto (coded (with_array_codecs (codecs_of codecs) rest) elements shape) exact (update_of asked payload old) cells new)) (sym c.in-Some.ensures.cases.0)
    (on_written r ((cells : List Cell) × IsEncodedInto (coded rest elements (shape_after codecs shape)) exact (update_of (listed (numbers_after codecs shape numbers)) payload old) cells new)
    ((cells : List Cell) × IsEncodedInto (coded chain elements shape) exact (update_of asked payload old) cells new)
    (λ w. (w.0, written_by_numbers chain exact elements shape asked payload w.0 old new inside (written_all codecs rest exact elements shape numbers payload w.0 old new c.in-Ok.ensures.fit (asked_places shape asked inside) w.1))) at)

pub returns-clause-writes : goal.returns-clause-writes
returns-clause-writes g c = λ honest same.
    let E = g.E.BytesPartialDecoderTraits in
    let rest = g.A.ArrayToBytesCodecTraits.meaning c.args.chain.rest.now in
    let codecs = codec_of c.in-Some.first.now ∷ codecs_of c.in-Some.others.now in
    let chain = with_array_codecs codecs rest in
    let elements = elements_of c.args.part.elements.now in
    let shape = c.args.part.shape.now in
    let asked = asked_of c.args.part.indexer in
    let numbers = numbers_asked shape asked in
    let payload = payload_of c.args.bytes in
    let old = E.contents c.args.source.now in
    let r = c.encode_numbers.result in
    let source = source_write (E.contents c.encode_numbers.new.source) (g.E.BytesPartialEncoderTraits.writes_ranges c.args.source.now) (E.given_bytes c.args.source.now) (E.given_bytes c.encode_numbers.new.source) in
    let inside : are_inside shape asked ≡ true = c.requires.inside in
    let told : c.as_slice.result.now ≡ numbers = c.as_slice.ensures.value ∙ c.in_ok-numbers.ensures.numbers in
    let last : c.as_slice-2.result.now ≡ shape_after codecs shape = c.as_slice-2.ensures.value ∙ c.in-Ok.ensures.last_is in
    let moved : c.as_slice-3.result.now ≡ numbers_after codecs shape numbers = c.as_slice-3.ensures.value ∙ (c.in-Ok.ensures.moved_are ∙ ap (numbers_after codecs shape) told) in
    let partly = subst (λ (codecs : List ArrayToArrayCodec). encodes_in_part (with_array_codecs (codecs_of codecs) rest) ≡ encodes_in_part rest) c.in-Some.ensures.cases.0 same in
    let found = subst (λ es. WritesPart (coded rest elements es) (update_of (listed c.as_slice-3.result.now) payload old) source r) last (c.encode_numbers.ensures.writes honest) in
    let at = subst (λ ns. WritesPart (coded rest elements (shape_after codecs shape)) (update_of (listed ns) payload old) source r) moved found in
    subst (λ (codecs : List ArrayToArrayCodec). WritesPart (coded (with_array_codecs (codecs_of codecs) rest) elements shape) (update_of asked payload old) source r) (sym c.in-Some.ensures.cases.0)
    (writes_by_numbers chain elements shape asked payload old source r inside (writes_all codecs rest elements shape numbers payload old source r c.in-Ok.ensures.fit (asked_places shape asked inside) partly at))
