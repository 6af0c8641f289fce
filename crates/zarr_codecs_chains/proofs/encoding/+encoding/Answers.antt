use Rattle.std.proofs.Common.{◌≡◌, ◌∙◌, ◌+◌, List, [], ◌∷◌, length, map, ap, refl, sym, subst, arith, true, false, inr, Some, Ok, Err, unwrap_or}
use Rattle.std.specs.List.{list_all}
use Rattle.zarr_grids_boxes.specs.Boxes.{product}
use Rattle.zarr_codecs_meaning.specs.Chains.Chain.{optional, vlen}
use Rattle.zarr_codecs_meaning.specs.Encoding.{number_cells, with_index}
use Rattle.zarr_codecs_meaning.specs.Fits.{fits}
use Rattle.zarr_codecs_meaning.specs.Refusals.{offsets_of}
use Rattle.zarr_codecs_meaning.specs.Types.{integer, unsigned, inner_type, is_value, zero_filled, IsTooLarge}
use Rattle.zarr_codecs_meaning.proofs.KeptOptions.{options_fit}
use Rattle.zarr_codecs_meaning.proofs.KeptVariable.{vlen_fits}
use Rattle.zarr_codecs_meaning.proofs.Zeros.{fits_each, zero_is_value}
use Rattle.zarr_codecs_types.specs.Views.{type_of}
use Rattle.zarr_codecs_arrays.specs.Outcomes.{IsValid}
use Rattle.zarr_codecs_sections.specs.Marks.{AreMarked}
use Rattle.zarr_codecs_sections.specs.Outcomes.{Indexes}
use Rattle.zarr_codecs_sections.specs.Views.{width_of, location_of}
use Rattle.zarr_codecs_sections.proofs.Joined.{vlen_is_refused}
use Rattle.zarr_codecs_chains.specs.Inside.{MakesInner, MakesSome}
use Rattle.zarr_codecs_chains.specs.Chosen.{SuitsChosen, chosen_type}
use Rattle.zarr_codecs_arrays.specs.Views.{elements_of, payload_of}
use Rattle.zarr_codecs_array_to_array.specs.declared.codec.ArrayToArrayCodec.{ArrayToArrayCodec}
use Rattle.zarr_codecs_traits.specs.Arrays.{coded}
use Rattle.zarr_codecs_traits.specs.Outcomes.{Encodes, MakesBytes}
use Rattle.zarr_codecs_around.specs.Codecs.{all_encoded}
use Rattle.zarr_codecs_around.specs.ArrayCodecs.{EncodesShapes, MovesAll, all_fit, shape_after}
use Rattle.zarr_codecs_around.specs.Views.{codecs_of, with_codecs}
use Rattle.zarr_codecs_chains.specs.Views.{codec_chain, codec_lawful, lawful_of, meaning_of}
use Rattle.zarr_codecs_around.proofs.AllArrayCodecs.{fits_between, unshaped_encodes, encodes_between, unmoved_between}
use Rattle.zarr_codecs_chains.proofs.Alone.{chain_alone, fits_alone, none_before, takes_alone}
use Rattle.zarr_codecs_chains.proofs.OptionalEncoding.{makes_encodes, makes_with, marked_count, none_made, optional_is, some_made, unmade_with}
use Rattle.zarr_codecs_chains.proofs.VlenEncoding.{content_unmade, index_unmade, vlen_encodes}
use Rattle.zarr_codecs_chains.proofs.encoding.+encoding.Goals as goal

pub encode_chain-returns-in-Err : goal.encode_chain-returns-in-Err
encode_chain-returns-in-Err g t c =
    let meaning = g.B.BytesToBytesCodecTraits.meaning in
    let own = c.args.chain.now in
    let before = own.array_to_array.items in
    let chain = codec_chain meaning own.others.array_to_bytes in
    let after = map meaning own.others.bytes_to_bytes.items in
    let elements = elements_of c.args.array.elements.now in
    let shape = c.args.array.shape.now in
    let e = c.in-Err.error in
    let refused = subst (λ (codecs : List ArrayToArrayCodec). EncodesShapes (codecs_of codecs) shape (Err e)) c.as_slice-codecs.ensures.value c.in-Err.ensures in
    unshaped_encodes (codecs_of before) (with_codecs chain after) true elements shape (payload_of c.args.bytes) e refused

pub encode_chain-returns-then-not-branch : goal.encode_chain-returns-then-not-branch
encode_chain-returns-then-not-branch g t c =
    let meaning = g.B.BytesToBytesCodecTraits.meaning in
    let own = c.args.chain.now in
    let before = own.array_to_array.items in
    let chain = codec_chain meaning own.others.array_to_bytes in
    let after = map meaning own.others.bytes_to_bytes.items in
    let elements = elements_of c.args.array.elements.now in
    let shape = c.args.array.shape.now in
    let all : all_fit (codecs_of before) shape ≡ true = ap (λ (codecs : List ArrayToArrayCodec). all_fit (codecs_of codecs) shape) (sym c.as_slice-codecs.ensures.value) ∙ c.in-Ok.ensures.0 in
    let made : c.in-Ok.last.items ≡ shape_after (codecs_of before) shape = c.in-Ok.ensures.1 ∙ ap (λ (codecs : List ArrayToArrayCodec). shape_after (codecs_of codecs) shape) c.as_slice-codecs.ensures.value in
    let unfit : fits chain elements.type c.in-Ok.last.items ≡ false = ap (fits chain elements.type) (sym c.as_slice.ensures.value) ∙ (ap (λ t. fits chain t c.as_slice.result.now) (sym c.data_type.ensures) ∙ (sym c.in_ok-fits_codec.ensures ∙ c.if-not-branch.true)) in
    sym (fits_between meaning before chain own.others.bytes_to_bytes.items elements.type shape c.in-Ok.last.items all made) ∙ unfit

pub encode_chain-returns-in-Err-move_all : goal.encode_chain-returns-in-Err-move_all
encode_chain-returns-in-Err-move_all g t c =
    let meaning = g.B.BytesToBytesCodecTraits.meaning in
    let own = c.args.chain.now in
    let before = own.array_to_array.items in
    let chain = codec_chain meaning own.others.array_to_bytes in
    let after = map meaning own.others.bytes_to_bytes.items in
    let elements = elements_of c.args.array.elements.now in
    let shape = c.args.array.shape.now in
    let all : all_fit (codecs_of before) shape ≡ true = ap (λ (codecs : List ArrayToArrayCodec). all_fit (codecs_of codecs) shape) (sym c.as_slice-codecs.ensures.value) ∙ c.in-Ok.ensures.0 in
    let made : c.in-Ok.last.items ≡ shape_after (codecs_of before) shape = c.in-Ok.ensures.1 ∙ ap (λ (codecs : List ArrayToArrayCodec). shape_after (codecs_of codecs) shape) c.as_slice-codecs.ensures.value in
    let fit : fits chain elements.type c.in-Ok.last.items ≡ true = ap (fits chain elements.type) (sym c.as_slice.ensures.value) ∙ (ap (λ t. fits chain t c.as_slice.result.now) (sym c.data_type.ensures) ∙ (sym c.in_ok-fits_codec.ensures ∙ c.if-not-branch.false)) in
    let e = c.in-Err-move_all.error in
    let refused = subst (λ (codecs : List ArrayToArrayCodec). MovesAll (codecs_of codecs) elements shape (payload_of c.args.bytes) (Err e)) c.as_slice-codecs.ensures.value c.in-Err-move_all.ensures in
    unmoved_between (codecs_of before) chain after elements shape c.in-Ok.last.items (payload_of c.args.bytes) e refused made fit

pub encode_chain-returns : goal.encode_chain-returns
encode_chain-returns g t c =
    let meaning = g.B.BytesToBytesCodecTraits.meaning in
    let own = c.args.chain.now in
    let before = own.array_to_array.items in
    let chain = codec_chain meaning own.others.array_to_bytes in
    let after = map meaning own.others.bytes_to_bytes.items in
    let elements = elements_of c.args.array.elements.now in
    let shape = c.args.array.shape.now in
    let all : all_fit (codecs_of before) shape ≡ true = ap (λ (codecs : List ArrayToArrayCodec). all_fit (codecs_of codecs) shape) (sym c.as_slice-codecs.ensures.value) ∙ c.in-Ok.ensures.0 in
    let made : c.in-Ok.last.items ≡ shape_after (codecs_of before) shape = c.in-Ok.ensures.1 ∙ ap (λ (codecs : List ArrayToArrayCodec). shape_after (codecs_of codecs) shape) c.as_slice-codecs.ensures.value in
    let fit : fits chain elements.type c.in-Ok.last.items ≡ true = ap (fits chain elements.type) (sym c.as_slice.ensures.value) ∙ (ap (λ t. fits chain t c.as_slice.result.now) (sym c.data_type.ensures) ∙ (sym c.in_ok-fits_codec.ensures ∙ c.if-not-branch.false)) in
    let moved = c.in-Ok-move_all.moved in
    let r = c.encode_made.result in
    let moves = subst (λ (codecs : List ArrayToArrayCodec). MovesAll (codecs_of codecs) elements shape (payload_of c.args.bytes) (Ok moved)) c.as_slice-codecs.ensures.value c.in-Ok-move_all.ensures in
    let inner = c.encode_made.ensures chain elements c.as_slice-2.result.now (payload_of moved) (codec_lawful meaning g.met.B.BytesToBytesCodecTraits.lawful own.others.array_to_bytes) c.args.array.elements.now.fills c.encode_codec-made.ensures in
    let whole = subst (λ xs. Encodes (coded (with_codecs chain (map meaning xs)) elements c.as_slice-2.result.now) true (payload_of moved) r) c.as_slice-3.ensures.value inner in
    encodes_between (codecs_of before) chain after elements shape c.in-Ok.last.items (payload_of c.args.bytes) moved r moves made fit
    (subst (λ es. Encodes (coded (with_codecs chain after) elements es) true (payload_of moved) r) c.as_slice-2.ensures.value whole)

pub encode_sections-returns-in-Err-Size : goal.encode_sections-returns-in-Err-Size
encode_sections-returns-in-Err-Size g t c = λ elements shape cells same fill fit valid.
    let meaning = g.B.BytesToBytesCodecTraits.meaning in
    let own = c.args.codec.now in
    let index = meaning_of meaning own.index_codecs in
    let content = meaning_of meaning own.data_codecs in
    let width = width_of own.index_data_type in
    let location = location_of own.index_location in
    let payload = payload_of c.args.bytes in
    let whole = subst (λ n. IsValid elements.type payload n cells) (sym same) valid in
    let variable = (vlen_fits index content width location elements.type shape fit).variable in
    let far = subst (λ e. Indexes width cells (Err e)) c.in-Err-Size.field-0-is (c.in-Err-Size.ensures elements.type cells variable valid.is.lists) in
    inr (cells, record { valid = whole; fit = fit; is = (vlen_is_refused index content width location elements shape cells).offset_passes far })

pub encode_sections-returns-in-Err-encode_offsets : goal.encode_sections-returns-in-Err-encode_offsets
encode_sections-returns-in-Err-encode_offsets g t c = λ elements shape cells same fill fit valid.
    let meaning = g.B.BytesToBytesCodecTraits.meaning in
    let own = c.args.codec.now in
    let index = meaning_of meaning own.index_codecs in
    let content = meaning_of meaning own.data_codecs in
    let width = width_of own.index_data_type in
    let location = location_of own.index_location in
    let payload = payload_of c.args.bytes in
    let whole = subst (λ n. IsValid elements.type payload n cells) (sym same) valid in
    let indexed = c.in-Ok.ensures elements.type cells (vlen_fits index content width location elements.type shape fit).variable valid.is.lists in
    let offsets = number_cells width (offsets_of cells) in
    let counted = subst (λ n. IsValid (integer unsigned width) (payload_of c.in-Ok.offsets) (n + 1) offsets) valid.is.many indexed.valid in
    let e = c.in-Err-encode_offsets.error in
    let refused = subst (λ n. MakesInner index (zero_filled (integer unsigned width)) ((n + 1) ∷ []) offsets (Err e)) (sym same) (c.in-Err-encode_offsets.ensures offsets counted) in
    index_unmade index content width location elements shape payload cells e fit whole refused

pub encode_sections-returns-in-Ok-encode_content : goal.encode_sections-returns-in-Ok-encode_content
encode_sections-returns-in-Ok-encode_content g t c = λ elements shape cells same fill fit valid.
    let meaning = g.B.BytesToBytesCodecTraits.meaning in
    let own = c.args.codec.now in
    let index = meaning_of meaning own.index_codecs in
    let content = meaning_of meaning own.data_codecs in
    let width = width_of own.index_data_type in
    let location = location_of own.index_location in
    let payload = payload_of c.args.bytes in
    let whole = subst (λ n. IsValid elements.type payload n cells) (sym same) valid in
    let variable = (vlen_fits index content width location elements.type shape fit).variable in
    let indexed = c.in-Ok.ensures elements.type cells variable valid.is.lists in
    let offsets = number_cells width (offsets_of cells) in
    let counted = subst (λ n. IsValid (integer unsigned width) (payload_of c.in-Ok.offsets) (n + 1) offsets) valid.is.many indexed.valid in
    let front = c.in-Ok-encode_offsets.front in
    let back = c.in-Ok-encode_content.back in
    let value = c.in_ok-join_index-in-Ok-encode_content.field-0 in
    let front_is = subst (λ n. MakesInner index (zero_filled (integer unsigned width)) ((n + 1) ∷ []) offsets (Ok front)) (sym same) (c.in-Ok-encode_offsets.ensures offsets counted) in
    let back_is = c.in-Ok-encode_content.ensures cells (c.in_ok-content.ensures elements.type cells variable valid.is.lists) in
    let joined : with_index location front.items back.items ≡ Some value.items =
    ap (λ xs. with_index location xs back.items) (sym c.as_slice.ensures.value) ∙ (ap (with_index location c.as_slice.result.now) (sym c.as_slice-in-Ok-encode_content.ensures.value) ∙ c.in_ok-join_index-in-Ok-encode_content.ensures) in
    let each = g.met.B.BytesToBytesCodecTraits.lawful in
    vlen_encodes index content width location elements shape payload cells front.items back.items value (lawful_of meaning each own.index_codecs, lawful_of meaning each own.data_codecs) fill fit whole indexed.near front_is back_is joined

pub encode_sections-returns : goal.encode_sections-returns
encode_sections-returns g t c = λ elements shape cells same fill fit valid.
    let meaning = g.B.BytesToBytesCodecTraits.meaning in
    let own = c.args.codec.now in
    let index = meaning_of meaning own.index_codecs in
    let content = meaning_of meaning own.data_codecs in
    let width = width_of own.index_data_type in
    let location = location_of own.index_location in
    let payload = payload_of c.args.bytes in
    let whole = subst (λ n. IsValid elements.type payload n cells) (sym same) valid in
    let variable = (vlen_fits index content width location elements.type shape fit).variable in
    content_unmade index content width location elements shape payload cells c.in-Err-encode_content.error fit whole (c.in-Err-encode_content.ensures cells (c.in_ok-content.ensures elements.type cells variable valid.is.lists))

pub encode_vlen-returns : goal.encode_vlen-returns
encode_vlen-returns g t c =
    let meaning = g.B.BytesToBytesCodecTraits.meaning in
    let own = c.args.codec.now in
    let index = meaning_of meaning own.index_codecs in
    let content = meaning_of meaning own.data_codecs in
    let width = width_of own.index_data_type in
    let location = location_of own.index_location in
    let payload = payload_of c.args.bytes in
    let elements = elements_of c.args.array.elements.now in
    let shape = c.args.array.shape.now in
    let found = c.in_default-validate.ensures in
    let fit : fits (vlen index content width location) elements.type shape ≡ true = ap (λ t. fits (vlen index content width location) t shape) (sym c.data_type-data_type.ensures) ∙ (sym c.in_ok-fits_vlen.ensures ∙ c.if-not-branch.false) in
    let valid = subst (λ t. IsValid t payload c.in-Some.count found.0) c.data_type-data_type.ensures found.1 in
    c.encode_sections.ensures elements shape found.0 (sym c.in-Some.ensures.1) c.args.array.elements.now.fills fit valid

pub encode_inner-returns : goal.encode_inner-returns
encode_inner-returns g t c = λ cells valid.
    let meaning = g.B.BytesToBytesCodecTraits.meaning in
    let elements = elements_of c.args.array.elements.now in
    let shape = c.args.array.shape.now in
    c.made_inside.ensures (meaning_of meaning c.args.chain.now) elements shape (payload_of c.args.bytes) cells
    (λ large. c.is_small.ensures c.if-not-is_small.false (subst (λ t. IsTooLarge t (product shape)) (sym c.data_type.ensures) large)) valid c.encode_chain.ensures

pub encode_optional-returns : goal.encode_optional-returns
encode_optional-returns g t c =
    let meaning = g.B.BytesToBytesCodecTraits.meaning in
    let own = c.args.codec.now in
    let mask = meaning_of meaning own.mask_codecs in
    let values = meaning_of meaning own.data_codecs in
    let chain = optional mask values in
    let payload = payload_of c.args.bytes in
    let elements = elements_of c.args.array.elements.now in
    let shape = c.args.array.shape.now in
    let count = c.in-Some.count in
    let inner = type_of c.in-Some-inner.inner.now in
    let cells = c.in_default-validate.ensures.0 in
    let fit : fits chain elements.type shape ≡ true = ap (λ t. fits chain t shape) (sym c.data_type-data_type.ensures) ∙ (sym c.in_ok-fits_optional.ensures ∙ c.if-not-branch.false) in
    let some : inner_type elements.type ≡ Some inner = sym (c.in-Some-inner.ensures ∙ ap inner_type c.data_type-data_type.ensures) in
    let counted : IsValid elements.type payload count cells = subst (λ t. IsValid t payload count cells) c.data_type-data_type.ensures c.in_default-validate.ensures.1 in
    let valid : IsValid elements.type payload (product shape) cells = subst (λ n. IsValid elements.type payload n cells) c.in-Some.ensures.1 counted in
    let split = c.in_ok-parts.ensures inner count cells (subst (λ t. IsValid t payload count cells) (optional_is elements.type inner some) counted) in
    let suits = options_fit mask values elements.type shape fit in
    let values_fit = subst (λ t. fits values t (0 ∷ []) ≡ true) (ap (λ o. unwrap_or o elements.type) some) (suits.values_fit (0 ∷ [])) in
    let each = g.met.B.BytesToBytesCodecTraits.lawful in
    makes_encodes chain elements shape payload cells c.encode_parts.result (lawful_of meaning each own.mask_codecs, lawful_of meaning each own.data_codecs) c.args.array.elements.now.fills fit refl valid
    (c.encode_parts.ensures elements cells some suits.takes values_fit valid.is.many split)

pub encode_chosen-returns-then-chosen-eq0 : goal.encode_chosen-returns-then-chosen-eq0
encode_chosen-returns-then-chosen-eq0 g t c = λ cells suits are.
    let meaning = g.B.BytesToBytesCodecTraits.meaning in
    let chosen = c.args.chosen in
    let none : length cells ≡ 0 = marked_count (chosen_type chosen) chosen.marks.now cells (payload_of c.args.bytes) are.marked ∙ (sym c.requires ∙ c.if-chosen-eq0.true) in
    none_made (meaning_of meaning c.args.chain.now) (chosen_type chosen) cells c.new.result none c.new.ensures.items

pub encode_chosen-returns-in-Ok : goal.encode_chosen-returns-in-Ok
encode_chosen-returns-in-Ok g t c = λ cells suits are.
    let meaning = g.B.BytesToBytesCodecTraits.meaning in
    let own = c.args.chain.now in
    let before = own.array_to_array.items in
    let chain = codec_chain meaning own.others.array_to_bytes in
    let after = own.others.bytes_to_bytes.items in
    let codecs = map meaning after in
    let chosen = c.args.chosen in
    let type = chosen_type chosen in
    let count = chosen.count in
    let r = c.encode_all.result in
    let none = none_before meaning before chain after suits.takes in
    let suited : SuitsChosen chain chosen = record { takes = takes_alone meaning before chain after suits.takes; fit = fits_alone meaning before chain after type (0 ∷ []) none ∙ suits.fit } in
    let same : length cells ≡ count = marked_count type chosen.marks.now cells (payload_of c.args.bytes) are.marked ∙ sym c.requires in
    let made = makes_with chain codecs (zero_filled type) (count ∷ []) cells c.in-Ok.made.items r (c.in-Ok.ensures cells suited are)
    (subst (λ xs. MakesBytes (all_encoded (map meaning xs)) c.in-Ok.made.items r) c.as_slice.ensures.value c.encode_all.ensures) in
    subst (λ x. MakesSome x type cells r) (chain_alone meaning before chain after none) (some_made (with_codecs chain codecs) type cells count r same (omega (arith, c.if-chosen-eq0.false)) made)

pub encode_chosen-returns-in-Err : goal.encode_chosen-returns-in-Err
encode_chosen-returns-in-Err g t c = λ cells suits are.
    let meaning = g.B.BytesToBytesCodecTraits.meaning in
    let own = c.args.chain.now in
    let before = own.array_to_array.items in
    let chain = codec_chain meaning own.others.array_to_bytes in
    let after = own.others.bytes_to_bytes.items in
    let codecs = map meaning after in
    let chosen = c.args.chosen in
    let type = chosen_type chosen in
    let count = chosen.count in
    let e = c.in-Err.error in
    let none = none_before meaning before chain after suits.takes in
    let suited : SuitsChosen chain chosen = record { takes = takes_alone meaning before chain after suits.takes; fit = fits_alone meaning before chain after type (0 ∷ []) none ∙ suits.fit } in
    let same : length cells ≡ count = marked_count type chosen.marks.now cells (payload_of c.args.bytes) are.marked ∙ sym c.requires in
    let made = unmade_with chain codecs (zero_filled type) (count ∷ []) cells e (c.in-Err.ensures cells suited are) in
    subst (λ x. MakesSome x type cells (Err e)) (chain_alone meaning before chain after none) (some_made (with_codecs chain codecs) type cells count (Err e) same (omega (arith, c.if-chosen-eq0.false)) made)

pub encode_texts-returns : goal.encode_texts-returns
encode_texts-returns g t c = λ cells suits are.
    let meaning = g.B.BytesToBytesCodecTraits.meaning in
    let own = c.args.codec.now in
    let chain = vlen (meaning_of meaning own.index_codecs) (meaning_of meaning own.data_codecs) (width_of own.index_data_type) (location_of own.index_location) in
    let chosen = c.args.chosen in
    let type = chosen_type chosen in
    let count = chosen.count in
    let payload = payload_of c.in_ok-present.present in
    let one : product (count ∷ []) ≡ count = omega arith in
    let valid : IsValid type payload count cells = subst (λ n. IsValid type payload n cells) (sym c.requires) (c.in_ok-present.ensures cells are.marked are.values) in
    let fit : fits chain type (count ∷ []) ≡ true = fits_each chain type (0 ∷ []) (count ∷ []) suits.takes suits.fit in
    c.made_inside.ensures chain (zero_filled type) (count ∷ []) payload cells (c.is_small.ensures c.if-not-is_small.false) (subst (λ n. IsValid type payload n cells) (sym one) valid)
    (c.encode_sections.ensures (zero_filled type) (count ∷ []) cells one (zero_is_value type) fit valid)

pub encode_below-returns : goal.encode_below-returns
encode_below-returns g t c = λ cells suits are.
    let meaning = g.B.BytesToBytesCodecTraits.meaning in
    let own = c.args.codec.now in
    let mask = meaning_of meaning own.mask_codecs in
    let values = meaning_of meaning own.data_codecs in
    let chosen = c.args.chosen in
    let type = chosen_type chosen in
    let count = chosen.count in
    let payload = payload_of c.args.bytes in
    let inner = type_of c.in-Some.inner.now in
    let some : inner_type type ≡ Some inner = sym c.in-Some.ensures in
    let is_optional = optional_is type inner some in
    let split = c.in_ok-parts.ensures inner cells (subst (λ t. AreMarked t chosen.marks.now cells payload) is_optional are.marked) (subst (λ t. list_all (is_value t) cells ≡ true) is_optional are.values) in
    let within = options_fit mask values type (0 ∷ []) suits.fit in
    let values_fit = subst (λ t. fits values t (0 ∷ []) ≡ true) (ap (λ o. unwrap_or o type) some) (within.values_fit (0 ∷ [])) in
    let one : product (count ∷ []) ≡ count = omega arith in
    let long : length cells ≡ product (count ∷ []) = marked_count type chosen.marks.now cells payload are.marked ∙ (sym c.requires ∙ sym one) in
    c.encode_parts.ensures (zero_filled type) cells some within.takes values_fit long split
