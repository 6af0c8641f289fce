use Rattle.std.proofs.Common.{rules, ◌≡◌, ◌<◌, ◌^◌, ◌∙◌, List, [], ◌∷◌, ap, map, sym, subst, true, Some, Ok, Err}
use Rattle.zarr_grids_boxes.specs.Boxes.{product}
use Rattle.zarr_codecs_meaning.specs.Fits.{fits}
use Rattle.zarr_codecs_meaning.specs.Types.{inner_type}
use Rattle.zarr_codecs_meaning.proofs.KeptOptions.{options_fit}
use Rattle.zarr_codecs_types.specs.Views.{type_of}
use Rattle.zarr_codecs_array_to_array.specs.declared.codec.ArrayToArrayCodec.{ArrayToArrayCodec}
use Rattle.zarr_codecs_traits.specs.Representations.{RepresentsArray, known_size}
use Rattle.zarr_codecs_around.specs.ArrayCodecs.{EncodesShapes, all_fit, shape_after}
use Rattle.zarr_codecs_around.specs.Codecs.{RepresentsAll}
use Rattle.zarr_codecs_around.specs.Views.{codecs_of, with_codecs}
use Rattle.zarr_codecs_chains.specs.Views.{codec_chain, meaning_of}
use Rattle.zarr_codecs_around.proofs.AllArrayCodecs.{fits_between}
use Rattle.zarr_codecs_around.proofs.Telling.{represents_with, unrepresented_with}
use Rattle.zarr_codecs_chains.proofs.Told.{all_told, codec_told, mask_refused, mask_told, sections_represent, sections_told, values_fit, values_refused, values_told, told_before, untold_before, untold_size}
use Rattle.zarr_codecs_chains.proofs.representing.+representing.Goals as goal

pub size_by_chain-returns-in-Err-clause-represents : goal.size_by_chain-returns-in-Err-clause-represents
size_by_chain-returns-in-Err-clause-represents g t c = λ fit.
    let meaning = g.B.BytesToBytesCodecTraits.meaning in
    let own = c.args.chain.now in
    let chain = codec_chain meaning own.others.array_to_bytes in
    let after = map meaning own.others.bytes_to_bytes.items in
    let shape = c.args.shape.now in
    let e = c.in-Err.error in
    let refused = subst (λ (codecs : List ArrayToArrayCodec). EncodesShapes (codecs_of codecs) shape (Err e)) c.as_slice-codecs.ensures.value c.in-Err.ensures in
    untold_before (codecs_of own.array_to_array.items) (with_codecs chain after) (type_of c.args.data_type.now) shape e refused

pub size_by_chain-returns-in-Ok-size_by_codec-clause-represents : goal.size_by_chain-returns-in-Ok-size_by_codec-clause-represents
size_by_chain-returns-in-Ok-size_by_codec-clause-represents g t c = λ whole.
    let meaning = g.B.BytesToBytesCodecTraits.meaning in
    let own = c.args.chain.now in
    let before = own.array_to_array.items in
    let chain = codec_chain meaning own.others.array_to_bytes in
    let after = map meaning own.others.bytes_to_bytes.items in
    let type = type_of c.args.data_type.now in
    let shape = c.args.shape.now in
    let all : all_fit (codecs_of before) shape ≡ true = ap (λ (codecs : List ArrayToArrayCodec). all_fit (codecs_of codecs) shape) (sym c.as_slice-codecs.ensures.value) ∙ c.in-Ok.ensures.0 in
    let made : c.in-Ok.last.items ≡ shape_after (codecs_of before) shape = c.in-Ok.ensures.1 ∙ ap (λ (codecs : List ArrayToArrayCodec). shape_after (codecs_of codecs) shape) c.as_slice-codecs.ensures.value in
    let fit : fits chain type c.as_slice.result.now ≡ true = fits_between meaning before chain own.others.bytes_to_bytes.items type shape c.as_slice.result.now all (c.as_slice.ensures.value ∙ made) ∙ whole in
    let size = c.in-Ok-size_by_codec.size in
    let r = c.represent_all.result in
    let inner = subst (λ es. RepresentsArray chain type es (Ok size)) (c.as_slice.ensures.value ∙ made) (c.in-Ok-size_by_codec.ensures.represents fit) in
    let told = subst (λ xs. RepresentsAll (map meaning xs) (known_size size) r) c.as_slice-others.ensures.value c.represent_all.ensures in
    told_before (codecs_of before) (with_codecs chain after) type shape r all (represents_with chain after type (shape_after (codecs_of before) shape) size r inner told)

pub size_by_chain-returns-clause-represents : goal.size_by_chain-returns-clause-represents
size_by_chain-returns-clause-represents g t c = λ whole.
    let meaning = g.B.BytesToBytesCodecTraits.meaning in
    let own = c.args.chain.now in
    let before = own.array_to_array.items in
    let chain = codec_chain meaning own.others.array_to_bytes in
    let after = map meaning own.others.bytes_to_bytes.items in
    let type = type_of c.args.data_type.now in
    let shape = c.args.shape.now in
    let all : all_fit (codecs_of before) shape ≡ true = ap (λ (codecs : List ArrayToArrayCodec). all_fit (codecs_of codecs) shape) (sym c.as_slice-codecs.ensures.value) ∙ c.in-Ok.ensures.0 in
    let made : c.in-Ok.last.items ≡ shape_after (codecs_of before) shape = c.in-Ok.ensures.1 ∙ ap (λ (codecs : List ArrayToArrayCodec). shape_after (codecs_of codecs) shape) c.as_slice-codecs.ensures.value in
    let fit : fits chain type c.as_slice.result.now ≡ true = fits_between meaning before chain own.others.bytes_to_bytes.items type shape c.as_slice.result.now all (c.as_slice.ensures.value ∙ made) ∙ whole in
    let e = c.in-Err-size_by_codec.error in
    let inner = subst (λ es. RepresentsArray chain type es (Err e)) (c.as_slice.ensures.value ∙ made) (c.in-Err-size_by_codec.ensures.represents fit) in
    told_before (codecs_of before) (with_codecs chain after) type shape (Err e) all (unrepresented_with chain after type (shape_after (codecs_of before) shape) e inner)

pub size_by_chain-returns-in-Err-clause-told : goal.size_by_chain-returns-in-Err-clause-told
size_by_chain-returns-in-Err-clause-told g t c = λ fit takes few is.
    let own = c.args.chain.now in
    let shape = c.args.shape.now in
    let e = c.in-Err.error in
    let refused = subst (λ (codecs : List ArrayToArrayCodec). EncodesShapes (codecs_of codecs) shape (Err e)) c.as_slice-codecs.ensures.value c.in-Err.ensures in
    absurd (untold_size (codecs_of own.array_to_array.items) shape e refused is)

pub size_by_chain-returns-in-Ok-size_by_codec-clause-told : goal.size_by_chain-returns-in-Ok-size_by_codec-clause-told
size_by_chain-returns-in-Ok-size_by_codec-clause-told g t c = λ whole takes few.
    let meaning = g.B.BytesToBytesCodecTraits.meaning in
    let own = c.args.chain.now in
    let before = own.array_to_array.items in
    let chain = codec_chain meaning own.others.array_to_bytes in
    let after = map meaning own.others.bytes_to_bytes.items in
    let type = type_of c.args.data_type.now in
    let shape = c.args.shape.now in
    let all : all_fit (codecs_of before) shape ≡ true = ap (λ (codecs : List ArrayToArrayCodec). all_fit (codecs_of codecs) shape) (sym c.as_slice-codecs.ensures.value) ∙ c.in-Ok.ensures.0 in
    let made : c.in-Ok.last.items ≡ shape_after (codecs_of before) shape = c.in-Ok.ensures.1 ∙ ap (λ (codecs : List ArrayToArrayCodec). shape_after (codecs_of codecs) shape) c.as_slice-codecs.ensures.value in
    let fit : fits chain type c.as_slice.result.now ≡ true = fits_between meaning before chain own.others.bytes_to_bytes.items type shape c.as_slice.result.now all (c.as_slice.ensures.value ∙ made) ∙ whole in
    let size = c.in-Ok-size_by_codec.size in
    let r = c.represent_all.result in
    let inner = subst (λ es. RepresentsArray chain type es (Ok size)) (c.as_slice.ensures.value ∙ made) (c.in-Ok-size_by_codec.ensures.represents fit) in
    let told = subst (λ xs. RepresentsAll (map meaning xs) (known_size size) r) c.as_slice-others.ensures.value c.represent_all.ensures in
    all_told (codecs_of before) chain after type shape size r inner told

pub size_by_chain-returns-clause-told : goal.size_by_chain-returns-clause-told
size_by_chain-returns-clause-told g t c = λ whole takes few is.
    let meaning = g.B.BytesToBytesCodecTraits.meaning in
    let own = c.args.chain.now in
    let before = own.array_to_array.items in
    let chain = codec_chain meaning own.others.array_to_bytes in
    let after = map meaning own.others.bytes_to_bytes.items in
    let type = type_of c.args.data_type.now in
    let shape = c.args.shape.now in
    let all : all_fit (codecs_of before) shape ≡ true = ap (λ (codecs : List ArrayToArrayCodec). all_fit (codecs_of codecs) shape) (sym c.as_slice-codecs.ensures.value) ∙ c.in-Ok.ensures.0 in
    let made : c.in-Ok.last.items ≡ shape_after (codecs_of before) shape = c.in-Ok.ensures.1 ∙ ap (λ (codecs : List ArrayToArrayCodec). shape_after (codecs_of codecs) shape) c.as_slice-codecs.ensures.value in
    let fit : fits chain type c.as_slice.result.now ≡ true = fits_between meaning before chain own.others.bytes_to_bytes.items type shape c.as_slice.result.now all (c.as_slice.ensures.value ∙ made) ∙ whole in
    codec_told (codecs_of before) chain after type shape c.as_slice.result.now c.in-Err-size_by_codec.error takes few (c.as_slice.ensures.value ∙ made) (c.in-Err-size_by_codec.ensures.told fit) is

pub size_by_optional-returns-in-Err-clause-represents : goal.size_by_optional-returns-in-Err-clause-represents
size_by_optional-returns-in-Err-clause-represents g t c = λ fit.
    let meaning = g.B.BytesToBytesCodecTraits.meaning in
    let mask = meaning_of meaning c.args.codec.now.mask_codecs in
    let values = meaning_of meaning c.args.codec.now.data_codecs in
    let type = type_of c.args.data_type.now in
    let shape = c.args.shape.now in
    let suits = options_fit mask values type shape fit in
    mask_refused mask values type shape c.in-Err.error (c.in-Err.ensures.represents suits.mask_fits)

pub size_by_optional-returns-in-Err-clause-told : goal.size_by_optional-returns-in-Err-clause-told
size_by_optional-returns-in-Err-clause-told g t c = λ fit few size.
    let meaning = g.B.BytesToBytesCodecTraits.meaning in
    let mask = meaning_of meaning c.args.codec.now.mask_codecs in
    let values = meaning_of meaning c.args.codec.now.data_codecs in
    let type = type_of c.args.data_type.now in
    let shape = c.args.shape.now in
    let suits = options_fit mask values type shape fit in
    mask_told mask values type shape c.in-Err.error (c.in-Err.ensures.represents suits.mask_fits) few size

pub size_by_optional-returns-in-Ok-size_by_chain-clause-represents : goal.size_by_optional-returns-in-Ok-size_by_chain-clause-represents
size_by_optional-returns-in-Ok-size_by_chain-clause-represents g t c = λ fit.
    let meaning = g.B.BytesToBytesCodecTraits.meaning in
    let mask = meaning_of meaning c.args.codec.now.mask_codecs in
    let values = meaning_of meaning c.args.codec.now.data_codecs in
    let type = type_of c.args.data_type.now in
    let shape = c.args.shape.now in
    let suits = options_fit mask values type shape fit in
    let inner = type_of c.in-Some-inner.of_type.now in
    let count = c.in-Some.count in
    let is : inner_type type ≡ Some inner = search rules in
    let same : count ≡ product shape = search rules in
    let some = values_fit mask values type inner shape (count ∷ []) fit is in
    sections_represent mask values type inner shape count c.in-Ok.mask c.in-Ok-size_by_chain.values c.sum_of_sections.result fit is same (c.in-Ok.ensures.represents suits.mask_fits) (c.in-Ok-size_by_chain.ensures.represents some) c.sum_of_sections.ensures

pub size_by_optional-returns-in-Ok-size_by_chain-clause-told : goal.size_by_optional-returns-in-Ok-size_by_chain-clause-told
size_by_optional-returns-in-Ok-size_by_chain-clause-told g t c = λ fit.
    let meaning = g.B.BytesToBytesCodecTraits.meaning in
    let mask = meaning_of meaning c.args.codec.now.mask_codecs in
    let values = meaning_of meaning c.args.codec.now.data_codecs in
    let type = type_of c.args.data_type.now in
    let shape = c.args.shape.now in
    let suits = options_fit mask values type shape fit in
    let inner = type_of c.in-Some-inner.of_type.now in
    let count = c.in-Some.count in
    let is : inner_type type ≡ Some inner = search rules in
    let same : count ≡ product shape = search rules in
    let some = values_fit mask values type inner shape (count ∷ []) fit is in
    sections_told mask values type inner shape count c.in-Ok.mask c.in-Ok-size_by_chain.values c.sum_of_sections.result is same (c.in-Ok.ensures.represents suits.mask_fits) (c.in-Ok-size_by_chain.ensures.represents some) c.sum_of_sections.ensures

pub size_by_optional-returns-in-Err-size_by_chain-clause-represents : goal.size_by_optional-returns-in-Err-size_by_chain-clause-represents
size_by_optional-returns-in-Err-size_by_chain-clause-represents g t c = λ fit.
    let meaning = g.B.BytesToBytesCodecTraits.meaning in
    let mask = meaning_of meaning c.args.codec.now.mask_codecs in
    let values = meaning_of meaning c.args.codec.now.data_codecs in
    let type = type_of c.args.data_type.now in
    let shape = c.args.shape.now in
    let suits = options_fit mask values type shape fit in
    let inner = type_of c.in-Some-inner.of_type.now in
    let count = c.in-Some.count in
    let is : inner_type type ≡ Some inner = search rules in
    let same : count ≡ product shape = search rules in
    let some = values_fit mask values type inner shape (count ∷ []) fit is in
    let few : product shape < 2 ^ 63 = search rules in
    values_refused mask values type inner shape count c.in-Err-size_by_chain.error fit is same few (c.in-Err-size_by_chain.ensures.represents some) (c.in-Err-size_by_chain.ensures.told some suits.takes)

pub size_by_optional-returns-in-Err-size_by_chain-clause-told : goal.size_by_optional-returns-in-Err-size_by_chain-clause-told
size_by_optional-returns-in-Err-size_by_chain-clause-told g t c = λ fit few size.
    let meaning = g.B.BytesToBytesCodecTraits.meaning in
    let mask = meaning_of meaning c.args.codec.now.mask_codecs in
    let values = meaning_of meaning c.args.codec.now.data_codecs in
    let type = type_of c.args.data_type.now in
    let shape = c.args.shape.now in
    let suits = options_fit mask values type shape fit in
    let inner = type_of c.in-Some-inner.of_type.now in
    let count = c.in-Some.count in
    let is : inner_type type ≡ Some inner = search rules in
    let same : count ≡ product shape = search rules in
    let some = values_fit mask values type inner shape (count ∷ []) fit is in
    values_told mask values type inner shape count c.in-Err-size_by_chain.error is same few (c.in-Err-size_by_chain.ensures.told some suits.takes) size
