-- Chains with the caller's codecs after them.
use Rattle.std.proofs.Common.{◌≡◌, ℕ, List, [], ◌∷◌, ap, ◌∙◌, sym, refl, Option, Some, None, option_and_then, Bool, true, inl, inr, Result, Ok, Err, Vec, Global}
use Rattle.zarr_codecs_meaning.specs.Types.{DataType, Cell, is_value, Elements}
use Rattle.zarr_codecs_meaning.specs.Chains.{ByteCodec, Chain}
use Rattle.zarr_codecs_meaning.specs.Chains.Chain.{then_bytes}
use Rattle.zarr_codecs_meaning.specs.Fits.{fits}
use Rattle.zarr_codecs_meaning.specs.Encoding.{encoded}
use Rattle.zarr_codecs_meaning.specs.Decoding.{decoded}
use Rattle.zarr_codecs_meaning.specs.Laws.{IsLawfulChain, AreCells}
use Rattle.zarr_codecs_meaning.specs.Payloads.{Payload}
use Rattle.zarr_codecs_meaning.specs.Refusals.{CodecRefuses, PassesIndex}
use Rattle.zarr_codecs_meaning.proofs.Making.{encoded_made}
use Rattle.zarr_codecs_meaning.proofs.Meaning.{laws_of}
use Rattle.zarr_codecs_meaning.proofs.Representations.{encoded_size}
use Rattle.zarr_codecs_arrays.specs.declared.array_bytes.ArrayBytes.{ArrayBytes}
use Rattle.zarr_codecs_arrays.specs.declared.error.CodecError.{CodecError}
use Rattle.zarr_codecs_arrays.specs.declared.error.CodecError.TheVariants as error
use Rattle.zarr_codecs_traits.specs.Arrays.{coded}
use Rattle.zarr_codecs_traits.specs.Outcomes.{MakesBytes, UndoesBytes, IsEncoded, Encodes, Decodes}
use Rattle.zarr_codecs_around.specs.Codecs.{all_encoded, all_decoded}
use Rattle.zarr_codecs_around.specs.Views.{with_codecs}
use Rattle.zarr_codecs_around.proofs.GaplessAround.{gapless_with}

-- ---- what codecs after a chain leave as it is

pub fits_with : (chain : Chain) (codecs : List ByteCodec) (type : DataType) (shape : List ℕ) → fits (with_codecs chain codecs) type shape ≡ fits chain type shape
fits_with chain [] type shape = refl
fits_with chain (codec ∷ codecs) type shape = fits_with (then_bytes chain codec) codecs type shape

pub passes_with : (chain : Chain) (codecs : List ByteCodec) (elements : Elements) (shape : List ℕ) (cells : List Cell) → PassesIndex chain elements shape cells → PassesIndex (with_codecs chain codecs) elements shape cells
passes_with chain [] elements shape cells h = h
passes_with chain (codec ∷ codecs) elements shape cells h = passes_with (then_bytes chain codec) codecs elements shape cells h

pub refuses_with : (chain : Chain) (codecs : List ByteCodec) (elements : Elements) (shape : List ℕ) (cells : List Cell) → CodecRefuses chain elements shape cells → CodecRefuses (with_codecs chain codecs) elements shape cells
refuses_with chain [] elements shape cells h = h
refuses_with chain (codec ∷ codecs) elements shape cells h = refuses_with (then_bytes chain codec) codecs elements shape cells (inl h)

-- ---- what they make and what they undo

bound_some : (o : Option (List ℕ)) → option_and_then (λ (ns : List ℕ). Some ns) o ≡ o
bound_some None = refl
bound_some (Some made) = refl

bound_encoded : (codec : ByteCodec) (codecs : List ByteCodec) (o : Option (List ℕ)) → option_and_then (all_encoded codecs) (option_and_then codec.encode o) ≡ option_and_then (all_encoded (codec ∷ codecs)) o
bound_encoded codec codecs None = refl
bound_encoded codec codecs (Some made) = refl

pub encoded_with : (chain : Chain) (codecs : List ByteCodec) (elements : Elements) (shape : List ℕ) (cells : List Cell) → encoded (with_codecs chain codecs) elements shape cells ≡ option_and_then (all_encoded codecs) (encoded chain elements shape cells)
encoded_with chain [] elements shape cells = sym (bound_some (encoded chain elements shape cells))
encoded_with chain (codec ∷ codecs) elements shape cells = encoded_with (then_bytes chain codec) codecs elements shape cells ∙ bound_encoded codec codecs (encoded chain elements shape cells)

bound_decoded : (chain : Chain) (codec : ByteCodec) (elements : Elements) (shape : List ℕ) (o : Option (List ℕ)) → option_and_then (decoded (then_bytes chain codec) elements shape) o ≡ option_and_then (decoded chain elements shape) (option_and_then codec.decode o)
bound_decoded chain codec elements shape None = refl
bound_decoded chain codec elements shape (Some value) = refl

pub decoded_with : (chain : Chain) (codecs : List ByteCodec) (elements : Elements) (shape value : List ℕ) → decoded (with_codecs chain codecs) elements shape value ≡ option_and_then (decoded chain elements shape) (all_decoded codecs value)
decoded_with chain [] elements shape value = refl
decoded_with chain (codec ∷ codecs) elements shape value = decoded_with (then_bytes chain codec) codecs elements shape value ∙ bound_decoded chain codec elements shape (all_decoded codecs value)

-- ---- encoding

-- what a codec refuses, or one after it
refused_from : (chain : Chain) (codec : ByteCodec) (codecs : List ByteCodec) (elements : Elements) (shape made : List ℕ) (cells : List Cell) (next : Option (List ℕ)) → encoded chain elements shape cells ≡ Some made → codec.encode made ≡ next
    → ((more : List ℕ) → codec.encode made ≡ Some more → CodecRefuses (with_codecs (then_bytes chain codec) codecs) elements shape cells) → CodecRefuses (with_codecs (then_bytes chain codec) codecs) elements shape cells
refused_from chain codec codecs elements shape made cells None is e later = refuses_with (then_bytes chain codec) codecs elements shape cells (inr (made, is, e))
refused_from chain codec codecs elements shape made cells (Some more) is e later = later more e

-- what codecs refuse that a chain made
pub refused_by : (chain : Chain) (codecs : List ByteCodec) (elements : Elements) (shape made : List ℕ) (cells : List Cell) → encoded chain elements shape cells ≡ Some made → all_encoded codecs made ≡ None
    → CodecRefuses (with_codecs chain codecs) elements shape cells
refused_by chain [] elements shape made cells is none = absurd (cc)
refused_by chain (codec ∷ codecs) elements shape made cells is none =
    refused_from chain codec codecs elements shape made cells (codec.encode made) is refl
    (λ more e. refused_by (then_bytes chain codec) codecs elements shape more cells (ap (option_and_then codec.encode) is ∙ e) (ap (option_and_then (all_encoded codecs)) (sym e) ∙ none))

-- what codecs make of what a chain made
pub encodes_with : (chain : Chain) (codecs : List ByteCodec) (elements : Elements) (shape made : List ℕ) (payload : Payload) (r : Result (Vec ℕ Global) CodecError) (cells : List Cell)
    → IsLawfulChain (with_codecs chain codecs) → is_value elements.type elements.fill ≡ true → IsEncoded (coded chain elements shape) true payload cells made → MakesBytes (all_encoded codecs) made r
    → Encodes (coded (with_codecs chain codecs) elements shape) true payload r
encodes_with chain codecs elements shape made payload (Ok value) cells lawful fill done is =
    let whole_chain = with_codecs chain codecs in
    let fit = fits_with chain codecs elements.type shape ∙ done.fit in
    let whole : encoded whole_chain elements shape cells ≡ Some value.items = encoded_with chain codecs elements shape cells ∙ (ap (option_and_then (all_encoded codecs)) (done.encodes refl) ∙ is) in
    let are : AreCells elements shape cells = record { fill = fill; values = done.valid.values; whole = done.valid.is.many } in (
      cells,
      record {
        valid = done.valid;
        fit = fit;
        made = encoded_made whole_chain elements shape cells value.items whole;
        encodes = λ _. whole;
        stands = λ lossless. (laws_of whole_chain lawful).stands elements shape value.items cells fit (inl lossless) are whole;
        sized = encoded_size whole_chain elements shape value.items cells lawful fit are whole;
        gapless = gapless_with chain codecs shape made value.items lawful is done.gapless;
      },
    )
encodes_with chain codecs elements shape made payload (Err error.Codec) cells lawful fill done is =
    (cells, record { valid = done.valid; fit = fits_with chain codecs elements.type shape ∙ done.fit; is = refused_by chain codecs elements shape made cells (done.encodes refl) is })
encodes_with chain codecs elements shape made payload (Err error.Memory) cells lawful fill done is = tt
encodes_with chain codecs elements shape made payload (Err e) cells lawful fill done is = absurd is

-- what a chain refuses, it refuses with codecs after it for the same reason
pub refused_with : (chain : Chain) (codecs : List ByteCodec) (elements : Elements) (shape : List ℕ) (payload : Payload) (e : CodecError) → Encodes (coded chain elements shape) true payload (Err e)
    → Encodes (coded (with_codecs chain codecs) elements shape) true payload (Err e)
refused_with chain codecs elements shape payload error.Fit h = fits_with chain codecs elements.type shape ∙ h
refused_with chain codecs elements shape payload error.Codec h =
    (h.0, record { valid = h.1.valid; fit = fits_with chain codecs elements.type shape ∙ h.1.fit; is = refuses_with chain codecs elements shape h.0 h.1.is })
refused_with chain codecs elements shape payload error.Size (inl large) = inl large
refused_with chain codecs elements shape payload error.Size (inr h) =
    inr (h.0, record { valid = h.1.valid; fit = fits_with chain codecs elements.type shape ∙ h.1.fit; is = passes_with chain codecs elements shape h.0 h.1.is })
refused_with chain codecs elements shape payload error.Memory h = tt
refused_with chain codecs elements shape payload e h = (fits_with chain codecs elements.type shape ∙ h.0, h.1)

-- what a function of the elements makes is more than any codec promises
pub encodes_alike : (chain : Chain) (exact : Bool) (elements : Elements) (shape : List ℕ) (payload : Payload) (r : Result (Vec ℕ Global) CodecError) → Encodes (coded chain elements shape) true payload r → Encodes (coded chain elements shape) exact payload r
encodes_alike chain exact elements shape payload (Ok value) h =
    (h.0, record { valid = h.1.valid; fit = h.1.fit; made = h.1.made; encodes = λ _. h.1.encodes refl; stands = h.1.stands; sized = h.1.sized; gapless = h.1.gapless })
encodes_alike chain exact elements shape payload (Err error.Fit) h = h
encodes_alike chain exact elements shape payload (Err error.Codec) h = h
encodes_alike chain exact elements shape payload (Err error.Size) h = h
encodes_alike chain exact elements shape payload (Err error.Memory) h = tt
encodes_alike chain exact elements shape payload (Err e) h = h

-- ---- decoding

-- what a chain makes of what codecs undid
pub decodes_with : (chain : Chain) (codecs : List ByteCodec) (elements : Elements) (shape value inside : List ℕ) (r : Result ArrayBytes CodecError) → all_decoded codecs value ≡ Some inside
    → Decodes (coded chain elements shape) inside r → Decodes (coded (with_codecs chain codecs) elements shape) value r
decodes_with chain codecs elements shape value inside (Ok found) undone h = record {
  cells = h.cells;
  fit = fits_with chain codecs elements.type shape ∙ h.fit;
  lists = h.lists;
  is = decoded_with chain codecs elements shape value ∙ (ap (option_and_then (decoded chain elements shape)) undone ∙ h.is);
}
decodes_with chain codecs elements shape value inside (Err error.Fit) undone h = fits_with chain codecs elements.type shape ∙ h
decodes_with chain codecs elements shape value inside (Err error.Damage) undone h =
    (fits_with chain codecs elements.type shape ∙ h.0, decoded_with chain codecs elements shape value ∙ (ap (option_and_then (decoded chain elements shape)) undone ∙ h.1))
decodes_with chain codecs elements shape value inside (Err error.Size) undone h = h
decodes_with chain codecs elements shape value inside (Err error.Memory) undone h = tt
decodes_with chain codecs elements shape value inside (Err e) undone h = absurd h

-- what codecs do not undo
pub undone_with : (chain : Chain) (codecs : List ByteCodec) (elements : Elements) (shape value : List ℕ) (e : CodecError) → fits chain elements.type shape ≡ true → UndoesBytes (all_decoded codecs) value (Err e)
    → Decodes (coded (with_codecs chain codecs) elements shape) value (Err e)
undone_with chain codecs elements shape value error.Damage fit h =
    (fits_with chain codecs elements.type shape ∙ fit, decoded_with chain codecs elements shape value ∙ ap (option_and_then (decoded chain elements shape)) h)
undone_with chain codecs elements shape value error.Memory fit h = tt
undone_with chain codecs elements shape value e fit h = absurd h
