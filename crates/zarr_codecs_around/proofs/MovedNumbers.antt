-- Numbers that array codecs move, one after another, and parts that are asked for by them.
use Rattle.std.proofs.Common.{◌≡◌, ◌∙◌, ℕ, ◌<◌, ◌^◌, List, [], ◌∷◌, refl, sym, ap, arith, Option, Bool, true, ◌&&◌, Result, Err}
use Rattle.std.proofs.lemmas.Bool.{and_parts}
use Rattle.zarr_grids_boxes.specs.Boxes.{product}
use Rattle.zarr_codecs_meaning.specs.Chains.{ArrayCodec, Chain}
use Rattle.zarr_codecs_meaning.specs.Fits.{array_codec_fits}
use Rattle.zarr_codecs_meaning.specs.Partial.{encodes_in_part}
use Rattle.zarr_codecs_meaning.specs.Payloads.{Payload}
use Rattle.zarr_codecs_meaning.specs.Places.{encoded_shape}
use Rattle.zarr_codecs_meaning.specs.Types.{Cell, DataType, Elements}
use Rattle.zarr_codecs_arrays.specs.declared.array_bytes.ArrayBytes.{ArrayBytes}
use Rattle.zarr_codecs_arrays.specs.declared.error.CodecError.{CodecError}
use Rattle.zarr_codecs_arrays.specs.declared.error.CodecError.TheVariants as error
use Rattle.zarr_codecs_array_to_array.specs.Moving.{are_places, moved_numbers}
use Rattle.zarr_codecs_traits.specs.Indexers.{Asked, listed}
use Rattle.zarr_codecs_traits.specs.Arrays.{coded, update_of}
use Rattle.zarr_codecs_traits.specs.Outcomes.{DecodesPart}
use Rattle.zarr_codecs_traits.specs.PartWriting.{IsEncodedInto, NotEncodedInto}
use Rattle.zarr_codecs_traits.specs.ReadBytes.{most_of_numbers}
use Rattle.zarr_codecs_around.specs.ArrayCodecs.{all_fit, shape_after}
use Rattle.zarr_codecs_around.specs.MovedNumbers.{MovesNumbers, numbers_after}
use Rattle.zarr_codecs_around.specs.Parts.{SourceWrite, WritesPart}
use Rattle.zarr_codecs_around.specs.Views.{with_array_codecs}
use Rattle.zarr_codecs_around.proofs.AllArrayCodecs.{never_before}
use Rattle.zarr_codecs_around.proofs.ArrayCodecs.{lists_after}
use Rattle.zarr_codecs_around.proofs.Counts.{array_codec_places}
use Rattle.zarr_codecs_around.proofs.Taken.{after_most}
use Rattle.zarr_codecs_around.proofs.WritingAfter.{are_moved, partly_each, writes_after, written_after}

-- ---- codecs that are left

-- the codecs that are left suit a shape, and make of it and of numbers, what all codecs do of the first shape and the first numbers
pub record IsLeft (left whole : List ArrayCodec) (shape numbers now moved : List ℕ) : Type 0 where
  pub fit : all_fit left now ≡ all_fit whole shape
  pub last : shape_after left now ≡ shape_after whole shape
  pub moves : numbers_after left now moved ≡ numbers_after whole shape numbers
  pub inside : are_places now moved ≡ true
  pub small : product now < 2 ^ 63

pub one_less : (codec : ArrayCodec) (others whole : List ArrayCodec) (shape numbers now moved encoded next : List ℕ) → IsLeft (codec ∷ others) whole shape numbers now moved → array_codec_fits codec now ≡ true → encoded ≡ encoded_shape codec now
    → next ≡ moved_numbers codec now moved → IsLeft others whole shape numbers encoded next
one_less codec others whole shape numbers now moved encoded next left fit told is =
    let many : product encoded ≡ product now = ap product told ∙ array_codec_places codec now fit in record {
      fit = ap (all_fit others) told ∙ (sym (ap (λ (b : Bool). b && all_fit others (encoded_shape codec now)) fit) ∙ left.fit);
      last = ap (shape_after others) told ∙ left.last;
      moves = ap (numbers_after others encoded) is ∙ (ap (λ es. numbers_after others es (moved_numbers codec now moved)) told ∙ left.moves);
      inside = ap (λ es. are_places es next) told ∙ (ap (are_places (encoded_shape codec now)) is ∙ are_moved codec now moved fit left.inside);
      small = (let few = left.small in omega (arith, many, few));
    }

pub all_left : (codecs : List ArrayCodec) (shape numbers : List ℕ) → are_places shape numbers ≡ true → product shape < 2 ^ 63 → IsLeft codecs codecs shape numbers shape numbers
all_left codecs shape numbers inside small = record { fit = refl; last = refl; moves = refl; inside = inside; small = small }

-- ---- parts that are read

pub lists_all : (codecs : List ArrayCodec) (chain : Chain) (elements : Elements) (shape : List ℕ) (stored : Option (List ℕ)) (numbers : List ℕ) (r : Result ArrayBytes CodecError) → all_fit codecs shape ≡ true → are_places shape numbers ≡ true
    → DecodesPart (coded chain elements (shape_after codecs shape)) stored (listed (numbers_after codecs shape numbers)) r → DecodesPart (coded (with_array_codecs codecs chain) elements shape) stored (listed numbers) r
lists_all [] chain elements shape stored numbers r all inside h = h
lists_all (codec ∷ codecs) chain elements shape stored numbers r all inside h =
    let two = and_parts (array_codec_fits codec shape) (all_fit codecs (encoded_shape codec shape)) all in
    let within = are_moved codec shape numbers two.0 inside in
    lists_after codec (with_array_codecs codecs chain) elements shape stored numbers r two.0 inside within (lists_all codecs chain elements (encoded_shape codec shape) stored (moved_numbers codec shape numbers) r two.1 within h)

pub most_all : (codecs : List ArrayCodec) (chain : Chain) (type : DataType) (shape : List ℕ) (stored : Option (List ℕ)) (numbers : List ℕ)
    → most_of_numbers chain type (shape_after codecs shape) stored (numbers_after codecs shape numbers) ≡ most_of_numbers (with_array_codecs codecs chain) type shape stored numbers
most_all [] chain type shape stored numbers = refl
most_all (codec ∷ codecs) chain type shape stored numbers = most_all codecs chain type (encoded_shape codec shape) stored (moved_numbers codec shape numbers) ∙ after_most codec (with_array_codecs codecs chain) type shape stored numbers

pub unlisted_all : (codecs : List ArrayCodec) (chain : Chain) (elements : Elements) (shape : List ℕ) (stored : Option (List ℕ)) (numbers : List ℕ) (asked : Asked) (e : CodecError) → MovesNumbers codecs shape numbers (Err e)
    → DecodesPart (coded (with_array_codecs codecs chain) elements shape) stored asked (Err e)
unlisted_all codecs chain elements shape stored numbers asked error.Fit none = sym (never_before codecs chain elements.type shape none)
unlisted_all codecs chain elements shape stored numbers asked error.Memory h = tt
unlisted_all codecs chain elements shape stored numbers asked e h = absurd h

-- ---- parts that are written

pub written_all : (codecs : List ArrayCodec) (chain : Chain) (exact : Bool) (elements : Elements) (shape numbers : List ℕ) (payload : Payload) (cells : List Cell) (old new : Option (List ℕ)) → all_fit codecs shape ≡ true → are_places shape numbers ≡ true
    → IsEncodedInto (coded chain elements (shape_after codecs shape)) exact (update_of (listed (numbers_after codecs shape numbers)) payload old) cells new → IsEncodedInto (coded (with_array_codecs codecs chain) elements shape) exact (update_of (listed numbers) payload old) cells new
written_all [] chain exact elements shape numbers payload cells old new all inside h = h
written_all (codec ∷ codecs) chain exact elements shape numbers payload cells old new all inside h =
    let two = and_parts (array_codec_fits codec shape) (all_fit codecs (encoded_shape codec shape)) all in
    let within = are_moved codec shape numbers two.0 inside in
    written_after codec (with_array_codecs codecs chain) exact elements shape numbers payload cells old new two.0 inside
    (written_all codecs chain exact elements (encoded_shape codec shape) (moved_numbers codec shape numbers) payload cells old new two.1 within h)

pub writes_all : {A : Type 0} (codecs : List ArrayCodec) (chain : Chain) (elements : Elements) (shape numbers : List ℕ) (payload : Payload) (stored : Option (List ℕ)) (source : SourceWrite) (r : Result A CodecError) → all_fit codecs shape ≡ true → are_places shape numbers ≡ true
    → encodes_in_part (with_array_codecs codecs chain) ≡ encodes_in_part chain → WritesPart (coded chain elements (shape_after codecs shape)) (update_of (listed (numbers_after codecs shape numbers)) payload stored) source r
    → WritesPart (coded (with_array_codecs codecs chain) elements shape) (update_of (listed numbers) payload stored) source r
writes_all [] chain elements shape numbers payload stored source r all inside partly h = h
writes_all (codec ∷ codecs) chain elements shape numbers payload stored source r all inside partly h =
    let two = and_parts (array_codec_fits codec shape) (all_fit codecs (encoded_shape codec shape)) all in
    let within = are_moved codec shape numbers two.0 inside in
    let each = partly_each codec codecs chain partly in
    writes_after codec (with_array_codecs codecs chain) elements shape numbers payload stored source r two.0 inside each.0
    (writes_all codecs chain elements (encoded_shape codec shape) (moved_numbers codec shape numbers) payload stored source r two.1 within each.1 h)

pub unmoved_all : (codecs : List ArrayCodec) (chain : Chain) (elements : Elements) (shape numbers : List ℕ) (asked : Asked) (payload : Payload) (stored : Option (List ℕ)) (e : CodecError) → MovesNumbers codecs shape numbers (Err e)
    → NotEncodedInto {A = Unit {0}} (coded (with_array_codecs codecs chain) elements shape) (update_of asked payload stored) (Err e)
unmoved_all codecs chain elements shape numbers asked payload stored error.Fit none = sym (never_before codecs chain elements.type shape none)
unmoved_all codecs chain elements shape numbers asked payload stored error.Memory h = tt
unmoved_all codecs chain elements shape numbers asked payload stored e h = absurd h
