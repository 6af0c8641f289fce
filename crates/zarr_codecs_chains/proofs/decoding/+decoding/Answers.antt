use Rattle.std.proofs.Common.{◌≡◌, ◌∙◌, List, [], ◌∷◌, length, map, replicate, option_map, ap, sym, subst, true, false, Some, Ok, Err}
use Rattle.std.specs.Prelude.{IfOk}
use Rattle.std.proofs.lemmas.Bool.{and_parts, eqb-true}
use Rattle.zarr_codecs_meaning.specs.Chains.Chain.{vlen, optional}
use Rattle.zarr_codecs_meaning.specs.Decoding.{decoded, masked_of}
use Rattle.zarr_codecs_meaning.specs.Fits.{fits, takes_each_shape}
use Rattle.zarr_codecs_meaning.specs.Keeping.{spread}
use Rattle.zarr_codecs_meaning.specs.Payloads.{cells_in}
use Rattle.zarr_codecs_meaning.specs.Types.{bool, inner_type, is_variable, Elements, zero_filled}
use Rattle.zarr_codecs_meaning.proofs.KeptOptions.{options_fit}
use Rattle.zarr_codecs_meaning.proofs.KeptVariable.{vlen_fits}
use Rattle.zarr_codecs_types.specs.Views.{type_of}
use Rattle.zarr_codecs_arrays.specs.Views.{elements_of, payload_of}
use Rattle.zarr_codecs_array_to_array.specs.declared.codec.ArrayToArrayCodec.{ArrayToArrayCodec}
use Rattle.zarr_codecs_traits.specs.Arrays.{coded}
use Rattle.zarr_codecs_traits.specs.Outcomes.{Decodes, UndoesBytes}
use Rattle.zarr_codecs_sections.specs.Marks.{count_ones}
use Rattle.zarr_codecs_sections.specs.Views.{width_of, location_of}
use Rattle.zarr_codecs_around.specs.ArrayCodecs.{EncodesShapes, UndoesAll, all_fit, shape_after}
use Rattle.zarr_codecs_around.specs.Codecs.{all_decoded}
use Rattle.zarr_codecs_around.specs.Views.{codecs_of, with_codecs}
use Rattle.zarr_codecs_around.proofs.AllArrayCodecs.{fits_between, unshaped_decodes, decodes_between, undecoded_between, unundone_between}
use Rattle.zarr_codecs_chains.specs.Chosen.{chosen_type}
use Rattle.zarr_codecs_chains.specs.Inside.{FindsInner, FindsMarked}
use Rattle.zarr_codecs_chains.specs.Views.{codec_chain, meaning_of, vlen_chain}
use Rattle.zarr_codecs_chains.proofs.Alone.{takes_alone}
use Rattle.zarr_codecs_chains.proofs.OptionalDecoding.{below_found, decoded_ones, found_decodes, found_some, none_marked, options_decode, options_marked, product_one, undone_by_none, undone_some, unfound_marked}
use Rattle.zarr_codecs_chains.proofs.decoding.+decoding.Goals as goal

pub decode_chain-returns-in-Err : goal.decode_chain-returns-in-Err
decode_chain-returns-in-Err g t c =
    let meaning = g.B.BytesToBytesCodecTraits.meaning in
    let own = c.args.chain.now in
    let before = own.array_to_array.items in
    let chain = codec_chain meaning own.others.array_to_bytes in
    let after = map meaning own.others.bytes_to_bytes.items in
    let elements = elements_of c.args.array.elements.now in
    let shape = c.args.array.shape.now in
    let e = c.in-Err.error in
    let refused = subst (λ (codecs : List ArrayToArrayCodec). EncodesShapes (codecs_of codecs) shape (Err e)) c.as_slice-codecs.ensures.value c.in-Err.ensures in
    unshaped_decodes (codecs_of before) (with_codecs chain after) elements shape c.args.value.items e refused

pub decode_chain-returns-then-not-branch : goal.decode_chain-returns-then-not-branch
decode_chain-returns-then-not-branch g t c =
    let meaning = g.B.BytesToBytesCodecTraits.meaning in
    let own = c.args.chain.now in
    let before = own.array_to_array.items in
    let chain = codec_chain meaning own.others.array_to_bytes in
    let after = map meaning own.others.bytes_to_bytes.items in
    let elements = elements_of c.args.array.elements.now in
    let shape = c.args.array.shape.now in
    let all : all_fit (codecs_of before) shape ≡ true = ap (λ (codecs : List ArrayToArrayCodec). all_fit (codecs_of codecs) shape) (sym c.as_slice-codecs.ensures.value) ∙ c.in-Ok.ensures.0 in
    let made : c.in-Ok.last.items ≡ shape_after (codecs_of before) shape = c.in-Ok.ensures.1 ∙ ap (λ (codecs : List ArrayToArrayCodec). shape_after (codecs_of codecs) shape) c.as_slice-codecs.ensures.value in
    let unfit : fits chain elements.type c.in-Ok.last.items ≡ false = ap (fits chain elements.type) (sym c.as_slice.ensures.value) ∙ (ap (λ t. fits chain t c.as_slice.result.now) (sym c.data_type.ensures) ∙ (sym c.in_ok-fits_codec.ensures ∙ c.if-not-branch.true)) in
    sym (fits_between meaning before chain own.others.bytes_to_bytes.items elements.type shape c.in-Ok.last.items all made) ∙ unfit

pub decode_chain-returns-in-Err-decode_all : goal.decode_chain-returns-in-Err-decode_all
decode_chain-returns-in-Err-decode_all g t c =
    let meaning = g.B.BytesToBytesCodecTraits.meaning in
    let own = c.args.chain.now in
    let before = own.array_to_array.items in
    let chain = codec_chain meaning own.others.array_to_bytes in
    let after = map meaning own.others.bytes_to_bytes.items in
    let elements = elements_of c.args.array.elements.now in
    let shape = c.args.array.shape.now in
    let all : all_fit (codecs_of before) shape ≡ true = ap (λ (codecs : List ArrayToArrayCodec). all_fit (codecs_of codecs) shape) (sym c.as_slice-codecs.ensures.value) ∙ c.in-Ok.ensures.0 in
    let made : c.in-Ok.last.items ≡ shape_after (codecs_of before) shape = c.in-Ok.ensures.1 ∙ ap (λ (codecs : List ArrayToArrayCodec). shape_after (codecs_of codecs) shape) c.as_slice-codecs.ensures.value in
    let fit : fits chain elements.type c.in-Ok.last.items ≡ true = ap (fits chain elements.type) (sym c.as_slice.ensures.value) ∙ (ap (λ t. fits chain t c.as_slice.result.now) (sym c.data_type.ensures) ∙ (sym c.in_ok-fits_codec.ensures ∙ c.if-not-branch.false)) in
    let e = c.in-Err-decode_all.error in
    let refused = subst (λ xs. UndoesBytes (all_decoded (map meaning xs)) c.args.value.items (Err e)) c.as_slice-2.ensures.value c.in-Err-decode_all.ensures in
    unundone_between (codecs_of before) chain after elements shape c.in-Ok.last.items c.args.value.items e all made fit refused

pub decode_chain-returns-in-Ok-decode_codec : goal.decode_chain-returns-in-Ok-decode_codec
decode_chain-returns-in-Ok-decode_codec g t c =
    let meaning = g.B.BytesToBytesCodecTraits.meaning in
    let own = c.args.chain.now in
    let before = own.array_to_array.items in
    let chain = codec_chain meaning own.others.array_to_bytes in
    let after = map meaning own.others.bytes_to_bytes.items in
    let elements = elements_of c.args.array.elements.now in
    let shape = c.args.array.shape.now in
    let all : all_fit (codecs_of before) shape ≡ true = ap (λ (codecs : List ArrayToArrayCodec). all_fit (codecs_of codecs) shape) (sym c.as_slice-codecs.ensures.value) ∙ c.in-Ok.ensures.0 in
    let made : c.in-Ok.last.items ≡ shape_after (codecs_of before) shape = c.in-Ok.ensures.1 ∙ ap (λ (codecs : List ArrayToArrayCodec). shape_after (codecs_of codecs) shape) c.as_slice-codecs.ensures.value in
    let found = c.in-Ok-decode_codec.found in
    let inside = c.in-Ok-decode_all.inside.items in
    let undone : all_decoded after c.args.value.items ≡ Some inside = ap (λ xs. all_decoded (map meaning xs) c.args.value.items) (sym c.as_slice-2.ensures.value) ∙ c.in-Ok-decode_all.ensures in
    let inner = subst (λ es. Decodes (coded chain elements es) inside (Ok found)) c.as_slice-3.ensures.value c.in-Ok-decode_codec.ensures in
    let undoes = subst (λ (codecs : List ArrayToArrayCodec). UndoesAll (codecs_of codecs) elements shape found c.undo_all.result) c.as_slice-codecs.ensures.value c.undo_all.ensures in
    decodes_between (codecs_of before) chain after elements shape c.in-Ok.last.items c.args.value.items inside found c.undo_all.result made undone inner undoes

pub decode_chain-returns : goal.decode_chain-returns
decode_chain-returns g t c =
    let meaning = g.B.BytesToBytesCodecTraits.meaning in
    let own = c.args.chain.now in
    let before = own.array_to_array.items in
    let chain = codec_chain meaning own.others.array_to_bytes in
    let after = map meaning own.others.bytes_to_bytes.items in
    let elements = elements_of c.args.array.elements.now in
    let shape = c.args.array.shape.now in
    let all : all_fit (codecs_of before) shape ≡ true = ap (λ (codecs : List ArrayToArrayCodec). all_fit (codecs_of codecs) shape) (sym c.as_slice-codecs.ensures.value) ∙ c.in-Ok.ensures.0 in
    let made : c.in-Ok.last.items ≡ shape_after (codecs_of before) shape = c.in-Ok.ensures.1 ∙ ap (λ (codecs : List ArrayToArrayCodec). shape_after (codecs_of codecs) shape) c.as_slice-codecs.ensures.value in
    let e = c.in-Err-decode_codec.error in
    let inside = c.in-Ok-decode_all.inside.items in
    let undone : all_decoded after c.args.value.items ≡ Some inside = ap (λ xs. all_decoded (map meaning xs) c.args.value.items) (sym c.as_slice-2.ensures.value) ∙ c.in-Ok-decode_all.ensures in
    let inner = subst (λ es. Decodes (coded chain elements es) inside (Err e)) c.as_slice-3.ensures.value c.in-Err-decode_codec.ensures in
    undecoded_between (codecs_of before) chain after elements shape c.in-Ok.last.items c.args.value.items inside e all made undone inner

pub decode_below-returns-in_ok-mask_elements-in-Ok-clause-all : goal.decode_below-returns-in_ok-mask_elements-in-Ok-clause-all
decode_below-returns-in_ok-mask_elements-in-Ok-clause-all g t c = λ masks takes mask present.
    let chain = meaning_of g.B.BytesToBytesCodecTraits.meaning c.args.codec.now.data_codecs in
    let inner = type_of c.args.marked.inner.now in
    let marks = c.args.marked.marks.items in
    let taken = c.choose-chosen.result in
    let is : chosen_type taken ≡ inner = ap type_of c.choose-chosen.ensures.data_type in
    let same : taken.marks.now ≡ marks = c.choose-chosen.ensures.marks ∙ c.as_slice.ensures.value in
    let found = below_found chain (chosen_type taken) inner taken.marks.now marks taken.count c.args.section.now masks (payload_of c.in-Ok.below) is same c.choose-chosen.ensures.count present (c.in-Ok.ensures takes) in
    (spread masks found.0, ap (option_map (spread masks)) found.1, c.in_ok-mask_elements-in-Ok.ensures.all inner masks found.0 found.2 mask)

pub decode_below-returns-in_ok-mask_elements-in-Ok-clause-chosen : goal.decode_below-returns-in_ok-mask_elements-in-Ok-clause-chosen
decode_below-returns-in_ok-mask_elements-in-Ok-clause-chosen g t c = λ outer masks takes mask long present.
    let chain = meaning_of g.B.BytesToBytesCodecTraits.meaning c.args.codec.now.data_codecs in
    let inner = type_of c.args.marked.inner.now in
    let marks = c.args.marked.marks.items in
    let taken = c.choose-chosen.result in
    let is : chosen_type taken ≡ inner = ap type_of c.choose-chosen.ensures.data_type in
    let same : taken.marks.now ≡ marks = c.choose-chosen.ensures.marks ∙ c.as_slice.ensures.value in
    let found = below_found chain (chosen_type taken) inner taken.marks.now marks taken.count c.args.section.now masks (payload_of c.in-Ok.below) is same c.choose-chosen.ensures.count present (c.in-Ok.ensures takes) in
    (spread masks found.0, ap (option_map (spread masks)) found.1, c.in_ok-mask_elements-in-Ok.ensures.chosen inner outer masks found.0 found.2 mask long)

pub decode_chosen-returns-then-chosen-eq0 : goal.decode_chosen-returns-then-chosen-eq0
decode_chosen-returns-then-chosen-eq0 g t c = λ takes.
    let chain = meaning_of g.B.BytesToBytesCodecTraits.meaning c.args.chain.now in
    let taken = c.args.chosen in
    let type = chosen_type taken in
    let r = c.none_decoded.result in
    let elements : elements_of c.in_ok-elements.elements ≡ zero_filled type = c.in_ok-elements.ensures ∙ ap zero_filled c.in_ok-try_clone.ensures in
    let lists = subst (λ (e : Elements). IfOk r (λ made. cells_in e.type (payload_of made) ≡ Some (replicate (length taken.marks.now) e.fill))) elements c.none_decoded.ensures.found in
    none_marked type taken.marks.now c.args.section.now taken.count (zero_filled type).fill (decoded chain (zero_filled type) (taken.count ∷ [])) r c.if-chosen-eq0.true c.requires lists c.none_decoded.ensures.nothing c.none_decoded.ensures.cause

pub decode_chosen-returns-then-is_empty : goal.decode_chosen-returns-then-is_empty
decode_chosen-returns-then-is_empty g t c = λ takes.
    let meaning = g.B.BytesToBytesCodecTraits.meaning in
    let own = c.args.chain.now in
    let before = own.array_to_array.items in
    let chain = codec_chain meaning own.others.array_to_bytes in
    let after = own.others.bytes_to_bytes.items in
    let taken = c.args.chosen in
    let section = c.args.section.now in
    let none : length after ≡ 0 = ap length (sym c.as_slice-codecs.ensures.value) ∙ eqb-true (length c.as_slice-codecs.result.now) 0 (sym c.is_empty.ensures ∙ c.if-is_empty.true) in
    found_some meaning before chain after (chosen_type taken) taken.marks.now taken.count section section c.decode_chosen_by.result takes c.if-chosen-eq0.false (undone_by_none meaning after section none) (c.decode_chosen_by.ensures (takes_alone meaning before chain after takes))

pub decode_chosen-returns-in-Ok : goal.decode_chosen-returns-in-Ok
decode_chosen-returns-in-Ok g t c = λ takes.
    let meaning = g.B.BytesToBytesCodecTraits.meaning in
    let own = c.args.chain.now in
    let before = own.array_to_array.items in
    let chain = codec_chain meaning own.others.array_to_bytes in
    let after = own.others.bytes_to_bytes.items in
    let taken = c.args.chosen in
    let type = chosen_type taken in
    let section = c.args.section.now in
    let inside = c.in-Ok.inside.items in
    let r = c.decode_chosen_by-in-Ok.result in
    let given : c.in_ok-to_vec.field-0.items ≡ section = c.in_ok-to_vec.ensures.items_if_clones_equal (λ x y e. e) in
    let undone : all_decoded (map meaning after) section ≡ Some inside =
    ap (λ xs. all_decoded (map meaning xs) section) (sym c.as_slice-codecs.ensures.value) ∙ (ap (all_decoded (map meaning c.as_slice-codecs.result.now)) (sym given) ∙ c.in-Ok.ensures) in
    let found = subst (λ v. FindsMarked (decoded chain (zero_filled type) (taken.count ∷ []) v) type taken.marks.now r) c.as_slice.ensures.value (c.decode_chosen_by-in-Ok.ensures (takes_alone meaning before chain after takes)) in
    found_some meaning before chain after type taken.marks.now taken.count section inside r takes c.if-chosen-eq0.false undone found

pub decode_chosen-returns-in-Err : goal.decode_chosen-returns-in-Err
decode_chosen-returns-in-Err g t c = λ takes.
    let meaning = g.B.BytesToBytesCodecTraits.meaning in
    let own = c.args.chain.now in
    let before = own.array_to_array.items in
    let chain = codec_chain meaning own.others.array_to_bytes in
    let after = own.others.bytes_to_bytes.items in
    let taken = c.args.chosen in
    let section = c.args.section.now in
    let e = c.in-Err.error in
    let given : c.in_ok-to_vec.field-0.items ≡ section = c.in_ok-to_vec.ensures.items_if_clones_equal (λ x y e. e) in
    let undone = subst (λ v. UndoesBytes (all_decoded (map meaning after)) v (Err e)) given (subst (λ xs. UndoesBytes (all_decoded (map meaning xs)) c.in_ok-to_vec.field-0.items (Err e)) c.as_slice-codecs.ensures.value c.in-Err.ensures) in
    undone_some meaning before chain after (chosen_type taken) taken.marks.now taken.count section e takes c.if-chosen-eq0.false undone

pub decode_optional-returns : goal.decode_optional-returns
decode_optional-returns g t c =
    let meaning = g.B.BytesToBytesCodecTraits.meaning in
    let own = c.args.codec.now in
    let mask = meaning_of meaning own.mask_codecs in
    let values = meaning_of meaning own.data_codecs in
    let elements = elements_of c.args.array.elements.now in
    let shape = c.args.array.shape.now in
    let inner = type_of c.in-Some.inner.now in
    let front = c.in-Some-split_mask.sections.first.now in
    let back = c.in-Some-split_mask.sections.second.now in
    let masks = c.in-Ok.ensures in
    let fit : fits (optional mask values) elements.type shape ≡ true = ap (λ t. fits (optional mask values) t shape) (sym c.data_type-data_type.ensures) ∙ (sym c.in_ok-fits_optional.ensures ∙ c.if-not-branch.false) in
    let is : inner_type elements.type ≡ Some inner = ap inner_type (sym c.data_type-data_type.ensures) ∙ sym c.in-Some.ensures in
    let cut : masked_of c.args.value.items ≡ Some (front, back) = ap masked_of (sym c.as_slice.ensures.value) ∙ sym c.in-Some-split_mask.ensures in
    let takes = (options_fit mask values elements.type shape fit).takes in
    let below = c.decode_below.ensures.all masks.0 takes (c.in_ok-marks.ensures.marks masks.0 masks.2) (c.in_ok-marks.ensures.count masks.0 masks.2) in
    options_decode mask values elements inner shape c.args.value.items front back masks.0 c.decode_below.result fit cut is masks.1 below

pub decode_options-returns : goal.decode_options-returns
decode_options-returns g t c = λ takes.
    let meaning = g.B.BytesToBytesCodecTraits.meaning in
    let own = c.args.codec.now in
    let mask = meaning_of meaning own.mask_codecs in
    let values = meaning_of meaning own.data_codecs in
    let taken = c.args.chosen in
    let type = chosen_type taken in
    let outer = taken.marks.now in
    let inner = type_of c.in-Some.inner.now in
    let section = c.args.section.now in
    let front = c.in-Some-split_mask.sections.first.now in
    let back = c.in-Some-split_mask.sections.second.now in
    let masks = c.in-Ok.ensures in
    let is : inner_type type ≡ Some inner = sym c.in-Some.ensures in
    let cut : masked_of section ≡ Some (front, back) = sym c.in-Some-split_mask.ensures in
    let each = (and_parts (takes_each_shape mask) (takes_each_shape values) takes).1 in
    let long = decoded_ones mask (zero_filled bool) front taken.count (count_ones outer) masks.0 c.requires masks.1 in
    let below = c.decode_below.ensures.chosen outer masks.0 each (c.in_ok-marks.ensures.marks masks.0 masks.2) long (c.in_ok-marks.ensures.count masks.0 masks.2 long) in
    options_marked mask values type inner taken.count section front back outer masks.0 c.decode_below.result cut is masks.1 below

pub decode_texts-returns-in_ok-spread_elements-in-Ok : goal.decode_texts-returns-in_ok-spread_elements-in-Ok
decode_texts-returns-in_ok-spread_elements-in-Ok g t c =
    let chain = vlen_chain g.B.BytesToBytesCodecTraits.meaning c.args.codec.now in
    let taken = c.args.chosen in
    let type = chosen_type taken in
    let section = c.args.section.now in
    let variable : is_variable type ≡ true = sym c.is_variable.ensures ∙ c.if-not-is_variable.false in
    let found = c.in-Ok.ensures (zero_filled type) (taken.count ∷ []) (product_one taken.count) variable in
    let long = decoded_ones chain (zero_filled type) section taken.count (count_ones taken.marks.now) found.0 c.requires found.1 in
    (found.0, found.1, c.in_ok-spread_elements-in-Ok.ensures found.0 found.2 long)

pub decode_texts-returns-in-Err : goal.decode_texts-returns-in-Err
decode_texts-returns-in-Err g t c =
    let chain = vlen_chain g.B.BytesToBytesCodecTraits.meaning c.args.codec.now in
    let taken = c.args.chosen in
    let type = chosen_type taken in
    let section = c.args.section.now in
    let variable : is_variable type ≡ true = sym c.is_variable.ensures ∙ c.if-not-is_variable.false in
    let found = c.in-Err.ensures (zero_filled type) (taken.count ∷ []) (product_one taken.count) variable in
    unfound_marked (decoded chain (zero_filled type) (taken.count ∷ []) section) type taken.marks.now c.in-Err.error found

pub decode_vlen-returns : goal.decode_vlen-returns
decode_vlen-returns g t c =
    let meaning = g.B.BytesToBytesCodecTraits.meaning in
    let own = c.args.codec.now in
    let index = meaning_of meaning own.index_codecs in
    let content = meaning_of meaning own.data_codecs in
    let width = width_of own.index_data_type in
    let location = location_of own.index_location in
    let elements = elements_of c.args.array.elements.now in
    let shape = c.args.array.shape.now in
    let r = c.decode_sections.result in
    let fit : fits (vlen index content width location) elements.type shape ≡ true = ap (λ t. fits (vlen index content width location) t shape) (sym c.data_type.ensures) ∙ (sym c.in_ok-fits_vlen.ensures ∙ c.if-not-branch.false) in
    let variable = (vlen_fits index content width location elements.type shape fit).variable in
    let found = c.decode_sections.ensures elements shape (sym c.in-Some.ensures.1) variable in
    found_decodes (vlen index content width location) elements shape c.args.value.items r fit (subst (λ v. FindsInner (decoded (vlen index content width location) elements shape v) elements.type r) c.as_slice.ensures.value found)
