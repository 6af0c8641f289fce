-- Chains with array codecs before them.
use Rattle.std.proofs.Common.{◌≡◌, ◌∙◌, ℕ, List, length, ap, sym, subst, Bool, true, false, ◌&&◌, if◌then◌else◌, inl, inr, Option, Some, None, option_map, Result, Ok, Err, Vec, Global}
use Rattle.std.specs.List.{list_all}
use Rattle.std.proofs.lemmas.Bool.{and_from, and_left, and_right}
use Rattle.std.proofs.lemmas.Simd.{map-map}
use Rattle.zarr_grids_boxes.specs.Boxes.{product}
use Rattle.zarr_codecs_meaning.specs.Chains.{ArrayCodec, Chain}
use Rattle.zarr_codecs_meaning.specs.Chains.Chain.{after_array_codec}
use Rattle.zarr_codecs_meaning.specs.Chunks.{chunk_part}
use Rattle.zarr_codecs_meaning.specs.Decoding.{all_there, cell_at, opens, part_decoded}
use Rattle.zarr_codecs_meaning.specs.Encoding.{encoded}
use Rattle.zarr_codecs_meaning.specs.Fits.{array_codec_fits, fits}
use Rattle.zarr_codecs_meaning.specs.Making.{IsMadeOf}
use Rattle.zarr_codecs_meaning.specs.Payloads.{Payload}
use Rattle.zarr_codecs_meaning.specs.Places.{encoded_shape, gather, position_of, source_places, undone_places}
use Rattle.zarr_codecs_meaning.specs.Refusals.{CodecRefuses, PassesIndex}
use Rattle.zarr_codecs_meaning.specs.Standing.{Stands}
use Rattle.zarr_codecs_meaning.specs.Types.{DataType, Cell, is_value, Elements, IsTooLarge}
use Rattle.zarr_codecs_meaning.proofs.ArrayCodecs.{length-gather, values_gathered, array_codec_count}
use Rattle.zarr_codecs_meaning.proofs.DecodedValues.{decoded_cells}
use Rattle.zarr_codecs_meaning.proofs.Lists.{some_same}
use Rattle.zarr_codecs_arrays.specs.Outcomes.{IsCounted, IsInvalid}
use Rattle.zarr_codecs_arrays.specs.Views.{payload_of}
use Rattle.zarr_codecs_arrays.specs.declared.array_bytes.ArrayBytes.{ArrayBytes}
use Rattle.zarr_codecs_arrays.specs.declared.error.CodecError.{CodecError}
use Rattle.zarr_codecs_arrays.specs.declared.error.CodecError.TheVariants as error
use Rattle.zarr_codecs_array_to_array.specs.Moving.{are_places, moved_numbers}
use Rattle.zarr_codecs_traits.specs.Indexers.{Asked, listed}
use Rattle.zarr_codecs_traits.specs.Arrays.{coded}
use Rattle.zarr_codecs_traits.specs.Outcomes.{Encodes, Decodes, DecodesPart, EncodesShape, IsMoved, EncodesArray, DecodesArray, moving}
use Rattle.zarr_codecs_traits.specs.Representations.{RepresentsArray}
use Rattle.zarr_codecs_traits.specs.declared.bytes_representation.BytesRepresentation.{BytesRepresentation}
use Rattle.zarr_codecs_around.proofs.Counts.{array_codec_places}

-- ---- what an array codec does not suit

-- a chain whose first codec does not suit a shape
pub unfit_first : (codec : ArrayCodec) (chain : Chain) (type : DataType) (shape : List ℕ) → array_codec_fits codec shape ≡ false → fits (after_array_codec codec chain) type shape ≡ false
unfit_first codec chain type shape h = and_left (array_codec_fits codec shape) (fits chain type (encoded_shape codec shape)) h

-- or whose other codecs do not suit what the first makes of it
pub unfit_after : (codec : ArrayCodec) (chain : Chain) (type : DataType) (shape : List ℕ) → fits chain type (encoded_shape codec shape) ≡ false → fits (after_array_codec codec chain) type shape ≡ false
unfit_after codec chain type shape h = and_right (array_codec_fits codec shape) (fits chain type (encoded_shape codec shape)) h

pub fit_after : (codec : ArrayCodec) (chain : Chain) (type : DataType) (shape : List ℕ) → array_codec_fits codec shape ≡ true → fits chain type (encoded_shape codec shape) ≡ true → fits (after_array_codec codec chain) type shape ≡ true
fit_after codec chain type shape first others = and_from (array_codec_fits codec shape) (fits chain type (encoded_shape codec shape)) first others

-- whether a chain suits an array, by what its first codec makes of the shape
pub fits_after : (codec : ArrayCodec) (chain : Chain) (type : DataType) (shape encoded : List ℕ) (fit : Bool) → array_codec_fits codec shape ≡ true → encoded ≡ encoded_shape codec shape → fit ≡ fits chain type encoded → fit ≡ fits (after_array_codec codec chain) type shape
fits_after codec chain type shape encoded fit first same is = is ∙ (ap (fits chain type) same ∙ sym (ap (λ (b : Bool). b && fits chain type (encoded_shape codec shape)) first))

pub never_fits : (codec : ArrayCodec) (chain : Chain) (type : DataType) (shape : List ℕ) → array_codec_fits codec shape ≡ false → false ≡ fits (after_array_codec codec chain) type shape
never_fits codec chain type shape h = sym (unfit_first codec chain type shape h)

-- as many elements are too large before an array codec where they are after it
pub larger_before : (codec : ArrayCodec) (type : DataType) (shape : List ℕ) → array_codec_fits codec shape ≡ true → IsTooLarge type (product (encoded_shape codec shape)) → IsTooLarge type (product shape)
larger_before codec type shape fit large = subst (IsTooLarge type) (array_codec_places codec shape fit) large

-- ---- elements that are moved are elements still

pub not_invalid : (type : DataType) (payload : Payload) (count : ℕ) (cells : List Cell) (e : CodecError) → IsCounted type payload count cells → list_all (is_value type) cells ≡ true → IsInvalid type payload count e → ⊥
not_invalid type payload count cells error.ExpectedFixedLengthBytes counted values h = let e = sym counted.lists ∙ h.0 in cc
not_invalid type payload count cells error.ExpectedVariableLengthBytes counted values h = let e = sym counted.lists ∙ h.0 in cc
not_invalid type payload count cells error.ExpectedOptionalBytes counted values h = let e = sym counted.lists ∙ h.0 in cc
not_invalid type payload count cells error.InvalidNumberOfElements counted values (inl h) = let e = sym counted.lists ∙ h.0 in cc
not_invalid type payload count cells error.InvalidNumberOfElements counted values (inr h) = h.2 (ap length (some_same (sym h.1 ∙ counted.lists)) ∙ counted.many)
not_invalid type payload count cells error.CellOutOfRange counted values h =
    let same : h.0 ≡ cells = some_same (sym h.1.lists ∙ counted.lists) in
    let e : true ≡ false = sym values ∙ (ap (list_all (is_value type)) (sym same) ∙ h.2) in cc
not_invalid type payload count cells e counted values h = absurd h

-- what an array codec made of an array's elements
moved_counted : (codec : ArrayCodec) (elements : Elements) (shape : List ℕ) (payload made : Payload) → (m : IsMoved (moving codec elements shape (product shape) (source_places codec shape)) payload made)
    → IsCounted elements.type made (product (encoded_shape codec shape)) (gather elements.fill m.cells (source_places codec shape))
moved_counted codec elements shape payload made m = record { lists = m.lists; many = length-gather elements.fill m.cells (source_places codec shape) ∙ array_codec_count codec shape m.fit }

-- ---- encoding

-- what the other codecs make of what the first made
pub encodes_after : (codec : ArrayCodec) (chain : Chain) (exact : Bool) (elements : Elements) (shape : List ℕ) (payload made : Payload) (r : Result (Vec ℕ Global) CodecError) → is_value elements.type elements.fill ≡ true
    → fits chain elements.type (encoded_shape codec shape) ≡ true → IsMoved (moving codec elements shape (product shape) (source_places codec shape)) payload made
    → Encodes (coded chain elements (encoded_shape codec shape)) exact made r → Encodes (coded (after_array_codec codec chain) elements shape) exact payload r
encodes_after codec chain exact elements shape payload made (Ok value) fill fit m h =
    let same : h.0 ≡ gather elements.fill m.cells (source_places codec shape) = some_same (sym h.1.valid.is.lists ∙ m.lists) in (
      m.cells,
      record {
        valid = m.valid;
        fit = fit_after codec chain elements.type shape m.fit fit;
        made = subst (λ cs. IsMadeOf chain elements (encoded_shape codec shape) cs value.items) same h.1.made;
        encodes = λ one. ap (encoded chain elements (encoded_shape codec shape)) (sym same) ∙ h.1.encodes one;
        stands = λ lossless. subst (Stands chain elements (encoded_shape codec shape) value.items) same (h.1.stands lossless);
        sized = h.1.sized;
        gapless = h.1.gapless;
      },
    )
encodes_after codec chain exact elements shape payload made (Err error.Fit) fill fit m h = unfit_after codec chain elements.type shape h
encodes_after codec chain exact elements shape payload made (Err error.Codec) fill fit m h =
    let same : h.0 ≡ gather elements.fill m.cells (source_places codec shape) = some_same (sym h.1.valid.is.lists ∙ m.lists) in
    (m.cells, record { valid = m.valid; fit = fit_after codec chain elements.type shape m.fit fit; is = subst (CodecRefuses chain elements (encoded_shape codec shape)) same h.1.is })
encodes_after codec chain exact elements shape payload made (Err error.Size) fill fit m (inl large) = inl (larger_before codec elements.type shape m.fit large)
encodes_after codec chain exact elements shape payload made (Err error.Size) fill fit m (inr h) =
    let same : h.0 ≡ gather elements.fill m.cells (source_places codec shape) = some_same (sym h.1.valid.is.lists ∙ m.lists) in
    inr (m.cells, record { valid = m.valid; fit = fit_after codec chain elements.type shape m.fit fit; is = subst (PassesIndex chain elements (encoded_shape codec shape)) same h.1.is })
encodes_after codec chain exact elements shape payload made (Err error.Memory) fill fit m h = tt
encodes_after codec chain exact elements shape payload made (Err e) fill fit m h =
    absurd (not_invalid elements.type made (product (encoded_shape codec shape)) (gather elements.fill m.cells (source_places codec shape)) e (moved_counted codec elements shape payload made m)
    (values_gathered (is_value elements.type) elements.fill m.cells (source_places codec shape) fill m.valid.values) h.1)

-- what the first codec refuses
pub unencoded_after : (codec : ArrayCodec) (chain : Chain) (exact : Bool) (elements : Elements) (shape : List ℕ) (payload : Payload) (e : CodecError) → fits (after_array_codec codec chain) elements.type shape ≡ true
    → EncodesArray codec elements shape payload (Err e) → Encodes (coded (after_array_codec codec chain) elements shape) exact payload (Err e)
unencoded_after codec chain exact elements shape payload error.Fit fit h = unfit_first codec chain elements.type shape h
unencoded_after codec chain exact elements shape payload error.Codec fit h = absurd h.1
unencoded_after codec chain exact elements shape payload error.Size fit h = inl h
unencoded_after codec chain exact elements shape payload error.Memory fit h = tt
unencoded_after codec chain exact elements shape payload e fit h = (fit, h.1)

-- a shape that the first codec does not suit
pub unshaped_encoding : (codec : ArrayCodec) (chain : Chain) (exact : Bool) (elements : Elements) (shape : List ℕ) (payload : Payload) (e : CodecError) → EncodesShape codec shape (Err e) → Encodes (coded (after_array_codec codec chain) elements shape) exact payload (Err e)
unshaped_encoding codec chain exact elements shape payload error.Fit h = unfit_first codec chain elements.type shape h
unshaped_encoding codec chain exact elements shape payload error.Memory h = tt
unshaped_encoding codec chain exact elements shape payload e h = absurd h

-- ---- decoding

-- what the first codec undoes of what the others decoded
pub decodes_after : (codec : ArrayCodec) (chain : Chain) (elements : Elements) (shape value : List ℕ) (found : ArrayBytes) (r : Result ArrayBytes CodecError) → is_value elements.type elements.fill ≡ true → array_codec_fits codec shape ≡ true
    → Decodes (coded chain elements (encoded_shape codec shape)) value (Ok found) → DecodesArray codec elements shape (payload_of found) r → Decodes (coded (after_array_codec codec chain) elements shape) value r
decodes_after codec chain elements shape value found (Ok made) fill fit d m =
    let same : m.cells ≡ d.cells = some_same (sym m.valid.is.lists ∙ d.lists) in record {
      cells = gather elements.fill m.cells (undone_places codec shape);
      fit = fit_after codec chain elements.type shape fit d.fit;
      lists = m.lists;
      is = ap (option_map (λ cells. gather elements.fill cells (undone_places codec shape))) (d.is ∙ ap Some (sym same));
    }
decodes_after codec chain elements shape value found (Err error.Fit) fill fit d h = unfit_first codec chain elements.type shape h
decodes_after codec chain elements shape value found (Err error.Size) fill fit d h = h
decodes_after codec chain elements shape value found (Err error.Memory) fill fit d h = tt
decodes_after codec chain elements shape value found (Err error.Damage) fill fit d h = absurd h.1
decodes_after codec chain elements shape value found (Err e) fill fit d h =
    let are = decoded_cells chain elements (encoded_shape codec shape) value d.cells d.fit fill d.is in
    absurd (not_invalid elements.type (payload_of found) (product (encoded_shape codec shape)) d.cells e (record { lists = d.lists; many = are.whole }) are.values h.1)

-- what the other codecs do not decode
pub undecoded_after : (codec : ArrayCodec) (chain : Chain) (elements : Elements) (shape value : List ℕ) (e : CodecError) → array_codec_fits codec shape ≡ true
    → Decodes (coded chain elements (encoded_shape codec shape)) value (Err e) → Decodes (coded (after_array_codec codec chain) elements shape) value (Err e)
undecoded_after codec chain elements shape value error.Fit fit h = unfit_after codec chain elements.type shape h
undecoded_after codec chain elements shape value error.Damage fit h =
    (fit_after codec chain elements.type shape fit h.0, ap (option_map (λ cells. gather elements.fill cells (undone_places codec shape))) h.1)
undecoded_after codec chain elements shape value error.Size fit h = larger_before codec elements.type shape fit h
undecoded_after codec chain elements shape value error.Memory fit h = tt
undecoded_after codec chain elements shape value e fit h = absurd h

-- a shape that the first codec does not suit
pub unshaped_decoding : (codec : ArrayCodec) (chain : Chain) (elements : Elements) (shape value : List ℕ) (e : CodecError) → EncodesShape codec shape (Err e) → Decodes (coded (after_array_codec codec chain) elements shape) value (Err e)
unshaped_decoding codec chain elements shape value error.Fit h = unfit_first codec chain elements.type shape h
unshaped_decoding codec chain elements shape value error.Memory h = tt
unshaped_decoding codec chain elements shape value e h = absurd h

-- ---- sizes

pub represents_after : (codec : ArrayCodec) (chain : Chain) (type : DataType) (shape : List ℕ) (r : Result BytesRepresentation CodecError) → array_codec_fits codec shape ≡ true
    → RepresentsArray chain type (encoded_shape codec shape) r → RepresentsArray (after_array_codec codec chain) type shape r
represents_after codec chain type shape (Ok known) fit h = record { fit = fit_after codec chain type shape fit h.fit; is = h.is; short = h.short }
represents_after codec chain type shape (Err error.Fit) fit h = unfit_after codec chain type shape h
represents_after codec chain type shape (Err error.Size) fit (inl large) = inl (larger_before codec type shape fit large)
represents_after codec chain type shape (Err error.Size) fit (inr long) = inr long
represents_after codec chain type shape (Err error.Memory) fit h = tt
represents_after codec chain type shape (Err e) fit h = absurd h

pub unshaped_size : (codec : ArrayCodec) (chain : Chain) (type : DataType) (shape : List ℕ) (e : CodecError) → EncodesShape codec shape (Err e) → RepresentsArray (after_array_codec codec chain) type shape (Err e)
unshaped_size codec chain type shape error.Fit h = unfit_first codec chain type shape h
unshaped_size codec chain type shape error.Memory h = tt
unshaped_size codec chain type shape e h = absurd h

-- ---- parts

-- each place is read at its place after the first codec
part_after : (codec : ArrayCodec) (chain : Chain) (elements : Elements) (shape value numbers : List ℕ) →
    part_decoded (after_array_codec codec chain) elements shape value numbers ≡ part_decoded chain elements (encoded_shape codec shape) value (moved_numbers codec shape numbers)
part_after codec chain elements shape value numbers =
    ap (λ cells. if opens chain elements (encoded_shape codec shape) value then all_there cells else None)
    (sym (map-map (cell_at chain elements (encoded_shape codec shape) value) (λ n. position_of n (source_places codec shape)) numbers))

pub same_part : (codec : ArrayCodec) (chain : Chain) (elements : Elements) (shape : List ℕ) (stored : Option (List ℕ)) (numbers : List ℕ) →
    chunk_part (after_array_codec codec chain) elements shape stored numbers ≡ chunk_part chain elements (encoded_shape codec shape) stored (moved_numbers codec shape numbers)
same_part codec chain elements shape None numbers = ap Some (sym (map-map (λ place. elements.fill) (λ n. position_of n (source_places codec shape)) numbers))
same_part codec chain elements shape (Some value) numbers = part_after codec chain elements shape value numbers

pub lists_after : (codec : ArrayCodec) (chain : Chain) (elements : Elements) (shape : List ℕ) (stored : Option (List ℕ)) (numbers : List ℕ) (r : Result ArrayBytes CodecError) → array_codec_fits codec shape ≡ true → are_places shape numbers ≡ true
    → are_places (encoded_shape codec shape) (moved_numbers codec shape numbers) ≡ true → DecodesPart (coded chain elements (encoded_shape codec shape)) stored (listed (moved_numbers codec shape numbers)) r → DecodesPart (coded (after_array_codec codec chain) elements shape) stored (listed numbers) r
lists_after codec chain elements shape stored numbers (Ok found) fit inside moved h =
    record { cells = h.cells; fit = fit_after codec chain elements.type shape fit h.fit; inside = inside; lists = h.lists; is = same_part codec chain elements shape stored numbers ∙ h.is }
lists_after codec chain elements shape stored numbers (Err error.Fit) fit inside moved h = unfit_after codec chain elements.type shape h
lists_after codec chain elements shape stored numbers (Err error.IncompatibleIndexer) fit inside moved h = absurd (let e = sym moved ∙ h in cc)
lists_after codec chain elements shape stored numbers (Err error.Damage) fit inside moved h = (fit_after codec chain elements.type shape fit h.0, inside, same_part codec chain elements shape stored numbers ∙ h.2)
lists_after codec chain elements shape stored numbers (Err error.Size) fit inside moved h = larger_before codec elements.type shape fit h
lists_after codec chain elements shape stored numbers (Err error.Source) fit inside moved h = tt
lists_after codec chain elements shape stored numbers (Err error.Memory) fit inside moved h = tt
lists_after codec chain elements shape stored numbers (Err e) fit inside moved h = absurd h

pub unshaped_part : (codec : ArrayCodec) (chain : Chain) (elements : Elements) (shape : List ℕ) (stored : Option (List ℕ)) (asked : Asked) (e : CodecError) → EncodesShape codec shape (Err e) → DecodesPart (coded (after_array_codec codec chain) elements shape) stored asked (Err e)
unshaped_part codec chain elements shape stored asked error.Fit h = unfit_first codec chain elements.type shape h
unshaped_part codec chain elements shape stored asked error.Memory h = tt
unshaped_part codec chain elements shape stored asked e h = absurd h
