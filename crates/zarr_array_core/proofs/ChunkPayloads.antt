-- What codecs take and give of elements.
use Rattle.std.proofs.Common.{Bool, ◌≡◌, ◌∙◌, ℕ, true, List, length, sym, ap, subst, Option, Some, None, Ok, Err, Vec, IsTrue, inl, inr, ◌⊎◌}
use Rattle.std.specs.List.{list_all}
use Rattle.std.specs.declared.alloc.Global.{Global}
use Rattle.std.proofs.lemmas.Bool.{false≢true}
use Rattle.zarr_grids_boxes.specs.Boxes.{product}
use Rattle.zarr_codecs_meaning.specs.Chains.{Chain}
use Rattle.zarr_codecs_meaning.specs.Chunks.{chunk_decoded}
use Rattle.zarr_codecs_meaning.specs.Encoding.{encoded}
use Rattle.zarr_codecs_meaning.specs.Fits.{fits, is_lossless}
use Rattle.zarr_codecs_meaning.specs.Payloads.{Payload, cells_in}
use Rattle.zarr_codecs_meaning.specs.Refusals.{CodecRefuses, PassesIndex}
use Rattle.zarr_codecs_meaning.specs.Standing.{Stands}
use Rattle.zarr_codecs_meaning.specs.Types.{is_value, Cell, DataType, Elements, IsTooLarge}
use Rattle.zarr_codecs_meaning.proofs.DecodedElements.{all_filled}
use Rattle.zarr_codecs_meaning.proofs.DecodedValues.{decoded_values}
use Rattle.zarr_codecs_meaning.proofs.Lists.{some_same}
use Rattle.zarr_codecs_arrays.specs.Outcomes.{IsValid, IsCounted, IsMisformed, IsOtherCount}
use Rattle.zarr_codecs_arrays.specs.declared.error.CodecError.{CodecError}
use Rattle.zarr_codecs_arrays.specs.declared.error.CodecError.TheVariants as error
use Rattle.zarr_codecs_traits.specs.Arrays.{coded}
use Rattle.zarr_codecs_traits.specs.Outcomes.{Encodes, IsRefused}
use Rattle.zarr_array_meaning.specs.Documents.{Document}
use Rattle.zarr_array_core.specs.ChunkValues.{IsRefusal, refusal_of, EncodeRefuses}

-- ---- elements that were decoded

-- what is stored for a chunk is decoded to values
pub decoded_chunk_values : (chain : Chain) (elements : Elements) (shape : List ℕ) (stored : Option (List ℕ)) (cells : List Cell) → is_value elements.type elements.fill ≡ true → fits chain elements.type shape ≡ true
    → chunk_decoded chain elements shape stored ≡ Some cells → list_all (is_value elements.type) cells ≡ true
decoded_chunk_values chain elements shape None cells fine fit h = ap (list_all (is_value elements.type)) (sym (some_same h)) ∙ all_filled (is_value elements.type) elements.fill (product shape) fine
decoded_chunk_values chain elements shape (Some value) cells fine fit h = decoded_values chain elements shape value cells fit fine h

-- ---- elements to encode

-- a payload is the elements of an array
pub record AreArrayElements (elements : Elements) (shape : List ℕ) (payload : Payload) (given : List Cell) : Type 0 where
  pub valid : IsValid elements.type payload (product shape) given
  pub small : ¬ IsTooLarge elements.type (product shape)

same_cells : (elements : Elements) (shape : List ℕ) (payload : Payload) (given cells : List Cell) → AreArrayElements elements shape payload given → IsValid elements.type payload (product shape) cells → cells ≡ given
same_cells elements shape payload given cells are valid = some_same (sym valid.is.lists ∙ are.valid.is.lists)

-- what an encoder answers of the elements of an array stands for them
pub encoded_stands_for : (chain : Chain) (exact : Bool) (elements : Elements) (shape : List ℕ) (payload : Payload) (given : List Cell) (value : Vec ℕ Global) → AreArrayElements elements shape payload given → Encodes (coded chain elements shape) exact payload (Ok value)
    → is_lossless chain elements.type ≡ true → Stands chain elements shape value.items given
encoded_stands_for chain exact elements shape payload given value are h lossless =
    subst (λ (cells : List Cell). Stands chain elements shape value.items cells) (same_cells elements shape payload given h.0 are h.1.valid) (h.1.stands lossless)

-- and it is their encoding, where it depends on these alone
pub encoded_as : (chain : Chain) (exact : Bool) (elements : Elements) (shape : List ℕ) (payload : Payload) (given : List Cell) (value : Vec ℕ Global) → AreArrayElements elements shape payload given → Encodes (coded chain elements shape) exact payload (Ok value)
    → IsTrue exact → encoded chain elements shape given ≡ Some value.items
encoded_as chain exact elements shape payload given value are h one =
    subst (λ (cells : List Cell). encoded chain elements shape cells ≡ Some value.items) (same_cells elements shape payload given h.0 are h.1.valid) (h.1.encodes one)

-- why it refuses them
abbrev pub Refuses : Chain → Elements → List ℕ → List Cell → CodecError → Type 0
Refuses chain elements shape cells error.Codec = CodecRefuses chain elements shape cells
Refuses chain elements shape cells error.Size = PassesIndex chain elements shape cells
Refuses chain elements shape cells error.Memory = Unit {0}
Refuses chain elements shape cells e = ⊥

refused_cells : (chain : Chain) (elements : Elements) (shape : List ℕ) (payload : Payload) (given : List Cell) (cells : List Cell) (refuses : Chain → Elements → List ℕ → List Cell → Type 0) → AreArrayElements elements shape payload given
    → IsRefused (coded chain elements shape) payload cells refuses → refuses chain elements shape given
refused_cells chain elements shape payload given cells refuses are h = subst (λ (cs : List Cell). refuses chain elements shape cs) (same_cells elements shape payload given cells are h.valid) h.is

pub listed_none : (elements : Elements) (shape : List ℕ) (payload : Payload) (given : List Cell) → AreArrayElements elements shape payload given → cells_in elements.type payload ≡ None → ⊥
listed_none elements shape payload given are h = let k : Some given ≡ None = sym are.valid.is.lists ∙ h in cc

pub not_counted : (type : DataType) (payload : Payload) (count : ℕ) (given : List Cell) → IsCounted type payload count given → IsMisformed type payload error.InvalidNumberOfElements ⊎ IsOtherCount type payload count → ⊥
not_counted type payload count given is (inl h) = let k : Some given ≡ None = sym is.lists ∙ h.0 in cc
not_counted type payload count given is (inr h) = h.2 (ap length (some_same (sym h.1 ∙ is.lists)) ∙ is.many)

pub why_refused : (chain : Chain) (exact : Bool) (elements : Elements) (shape : List ℕ) (payload : Payload) (given : List Cell) (e : CodecError) → AreArrayElements elements shape payload given → fits chain elements.type shape ≡ true → Encodes (coded chain elements shape) exact payload (Err e)
    → Refuses chain elements shape given e
why_refused chain exact elements shape payload given error.Fit are fit h = absurd (false≢true (sym h ∙ fit))
why_refused chain exact elements shape payload given error.Damage are fit h = h.1
why_refused chain exact elements shape payload given error.Codec are fit h = refused_cells chain elements shape payload given h.0 CodecRefuses are h.1
why_refused chain exact elements shape payload given error.Source are fit h = h.1
why_refused chain exact elements shape payload given error.Size are fit (inl large) = absurd (are.small large)
why_refused chain exact elements shape payload given error.Size are fit (inr h) = refused_cells chain elements shape payload given h.0 PassesIndex are h.1
why_refused chain exact elements shape payload given error.CellOutOfRange are fit h =
    let same = some_same (sym h.1.1.lists ∙ are.valid.is.lists) in
    false≢true (sym h.1.2 ∙ (ap (list_all (is_value elements.type)) same ∙ are.valid.values))
why_refused chain exact elements shape payload given error.IncompatibleIndexer are fit h = h.1
why_refused chain exact elements shape payload given error.InvalidNumberOfElements are fit h = not_counted elements.type payload (product shape) given are.valid.is h.1
why_refused chain exact elements shape payload given error.ExpectedFixedLengthBytes are fit h = listed_none elements shape payload given are h.1.0
why_refused chain exact elements shape payload given error.ExpectedVariableLengthBytes are fit h = listed_none elements shape payload given are h.1.0
why_refused chain exact elements shape payload given error.ExpectedOptionalBytes are fit h = listed_none elements shape payload given are h.1.0
why_refused chain exact elements shape payload given error.Unsupported are fit h = h.1
why_refused chain exact elements shape payload given error.Memory are fit h = tt
why_refused chain exact elements shape payload given (error.Other text) are fit h = h.1

-- such a reason as a chunk's
pub refusal_told : (document : Document) (shape : List ℕ) (cells : List Cell) (e : CodecError) → Refuses document.chain document.elements shape cells e → IsRefusal e × EncodeRefuses document shape cells (refusal_of e)
refusal_told document shape cells error.Fit h = absurd h
refusal_told document shape cells error.Damage h = absurd h
refusal_told document shape cells error.Codec h = (tt, h)
refusal_told document shape cells error.Source h = absurd h
refusal_told document shape cells error.Size h = (tt, h)
refusal_told document shape cells error.CellOutOfRange h = absurd h
refusal_told document shape cells error.IncompatibleIndexer h = absurd h
refusal_told document shape cells error.InvalidNumberOfElements h = absurd h
refusal_told document shape cells error.ExpectedFixedLengthBytes h = absurd h
refusal_told document shape cells error.ExpectedVariableLengthBytes h = absurd h
refusal_told document shape cells error.ExpectedOptionalBytes h = absurd h
refusal_told document shape cells error.Unsupported h = absurd h
refusal_told document shape cells error.Memory h = (tt, tt)
refusal_told document shape cells (error.Other text) h = absurd h
