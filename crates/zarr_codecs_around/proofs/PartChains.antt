-- Parts of what chains with the caller's codecs after them decode.
use Rattle.std.proofs.Common.{◌≡◌, ℕ, List, [], ◌∷◌, map, ap, ◌∙◌, sym, refl, Option, Some, None, option_and_then, Bool, true, false, if◌then◌else◌, inl, Result, Ok, Err}
use Rattle.std.specs.Prelude.{nat_lt}
use Rattle.std.specs.List.{list_all}
use Rattle.std.proofs.lemmas.Bool.{and_from, and_parts, lt-ltb}
use Rattle.zarr_grids_boxes.specs.Boxes.{is_in_box, places, product, ravel}
use Rattle.zarr_codecs_meaning.specs.Types.{DataType, Elements}
use Rattle.zarr_codecs_meaning.specs.Chains.{ByteCodec, Chain}
use Rattle.zarr_codecs_meaning.specs.Chains.Chain.{then_bytes}
use Rattle.zarr_codecs_meaning.specs.Decoding.{all_there, cell_at, opens, part_decoded}
use Rattle.zarr_codecs_meaning.specs.Fits.{fits}
use Rattle.zarr_codecs_arrays.specs.declared.array_bytes.ArrayBytes.{ArrayBytes}
use Rattle.zarr_codecs_arrays.specs.declared.error.CodecError.{CodecError}
use Rattle.zarr_codecs_arrays.specs.declared.error.CodecError.TheVariants as error
use Rattle.zarr_codecs_traits.specs.Indexers.{Asked, in_box, listed, are_inside, numbers_asked}
use Rattle.zarr_codecs_traits.specs.Arrays.{coded}
use Rattle.zarr_codecs_traits.specs.Outcomes.{DecodesPart, UndoesBytes}
use Rattle.zarr_codecs_traits.specs.Sources.{refused_after}
use Rattle.zarr_codecs_regions.specs.Asking.{TestsAsked}
use Rattle.zarr_codecs_around.specs.Codecs.{all_decoded}
use Rattle.zarr_codecs_around.specs.Views.{with_codecs}
use Rattle.zarr_codecs_regions.proofs.InsideArray.{inside_places}
use Rattle.zarr_codecs_bytes.proofs.BoxElements.{number_below}
use Rattle.zarr_codecs_around.proofs.Chains.{fits_with}

bound_part : (chain : Chain) (codec : ByteCodec) (elements : Elements) (shape ns : List ℕ) (o : Option (List ℕ)) →
    option_and_then (λ value. part_decoded (then_bytes chain codec) elements shape value ns) o ≡ option_and_then (λ value. part_decoded chain elements shape value ns) (option_and_then codec.decode o)
bound_part chain codec elements shape ns None = refl
bound_part chain codec elements shape ns (Some value) = undone (codec.decode value) where
  undone : (o : Option (List ℕ)) →
      (if elim o [ None ↦ false | Some inside ↦ opens chain elements shape inside ] then all_there (map (λ n. option_and_then (λ inside. cell_at chain elements shape inside n) o) ns) else None)
      ≡ option_and_then (λ value. part_decoded chain elements shape value ns) o
  undone None = refl
  undone (Some inside) = refl

pub part_with : (chain : Chain) (codecs : List ByteCodec) (elements : Elements) (shape value ns : List ℕ) →
    part_decoded (with_codecs chain codecs) elements shape value ns ≡ option_and_then (λ inside. part_decoded chain elements shape inside ns) (all_decoded codecs value)
part_with chain [] elements shape value ns = refl
part_with chain (codec ∷ codecs) elements shape value ns = part_with (then_bytes chain codec) codecs elements shape value ns ∙ bound_part chain codec elements shape ns (all_decoded codecs value)

-- a chain fits an array where what comes before the codecs does
pub fits_as : (chain : Chain) (codecs : List ByteCodec) (type other : DataType) (shape : List ℕ) (suits fit : Bool) → type ≡ other → suits ≡ fits chain type shape → suits ≡ fit → fits (with_codecs chain codecs) other shape ≡ fit
fits_as chain codecs type other shape suits fit same is told = fits_with chain codecs other shape ∙ (ap (λ t. fits chain t shape) (sym same) ∙ (sym is ∙ told))

-- a part of what codecs undid
pub part_undone : (chain : Chain) (codecs : List ByteCodec) (elements : Elements) (shape value inside : List ℕ) (asked : Asked) (r : Result ArrayBytes CodecError) → all_decoded codecs value ≡ Some inside
    → DecodesPart (coded chain elements shape) (Some inside) asked r → DecodesPart (coded (with_codecs chain codecs) elements shape) (Some value) asked r
part_undone chain codecs elements shape value inside asked (Ok found) undone h = record {
  cells = h.cells;
  fit = fits_with chain codecs elements.type shape ∙ h.fit;
  inside = h.inside;
  lists = h.lists;
  is = part_with chain codecs elements shape value (numbers_asked shape asked) ∙ (ap (option_and_then (λ ns. part_decoded chain elements shape ns (numbers_asked shape asked))) undone ∙ h.is);
}
part_undone chain codecs elements shape value inside asked (Err error.Fit) undone h = fits_with chain codecs elements.type shape ∙ h
part_undone chain codecs elements shape value inside asked (Err error.IncompatibleIndexer) undone h = h
part_undone chain codecs elements shape value inside asked (Err error.Damage) undone h = (
  fits_with chain codecs elements.type shape ∙ h.0,
  h.1,
  part_with chain codecs elements shape value (numbers_asked shape asked) ∙ (ap (option_and_then (λ ns. part_decoded chain elements shape ns (numbers_asked shape asked))) undone ∙ h.2),
)
part_undone chain codecs elements shape value inside asked (Err error.Size) undone h = h
part_undone chain codecs elements shape value inside asked (Err error.Source) undone h = tt
part_undone chain codecs elements shape value inside asked (Err error.Memory) undone h = tt
part_undone chain codecs elements shape value inside asked (Err e) undone h = absurd h

-- what codecs do not undo
pub part_not_undone : (chain : Chain) (codecs : List ByteCodec) (elements : Elements) (shape value : List ℕ) (asked : Asked) (e : CodecError) → fits chain elements.type shape ≡ true → are_inside shape asked ≡ true
    → UndoesBytes (all_decoded codecs) value (Err e) → DecodesPart (coded (with_codecs chain codecs) elements shape) (Some value) asked (Err e)
part_not_undone chain codecs elements shape value asked error.Damage fit inside h = (
  fits_with chain codecs elements.type shape ∙ fit,
  inside,
  part_with chain codecs elements shape value (numbers_asked shape asked) ∙ ap (option_and_then (λ ns. part_decoded chain elements shape ns (numbers_asked shape asked))) h,
)
part_not_undone chain codecs elements shape value asked error.Memory fit inside h = tt
part_not_undone chain codecs elements shape value asked e fit inside h = absurd h

-- where nothing is stored, codecs have nothing to undo
pub part_of_none : (chain : Chain) (codecs : List ByteCodec) (elements : Elements) (shape : List ℕ) (asked : Asked) (r : Result ArrayBytes CodecError) → DecodesPart (coded chain elements shape) None asked r → DecodesPart (coded (with_codecs chain codecs) elements shape) None asked r
part_of_none chain codecs elements shape asked (Ok found) h = record {
  cells = h.cells;
  fit = fits_with chain codecs elements.type shape ∙ h.fit;
  inside = h.inside;
  lists = h.lists;
  is = h.is;
}
part_of_none chain codecs elements shape asked (Err error.Fit) h = fits_with chain codecs elements.type shape ∙ h
part_of_none chain codecs elements shape asked (Err error.IncompatibleIndexer) h = h
part_of_none chain codecs elements shape asked (Err error.Damage) h = absurd (let none = h.2 in cc)
part_of_none chain codecs elements shape asked (Err error.Size) h = h
part_of_none chain codecs elements shape asked (Err error.Source) h = tt
part_of_none chain codecs elements shape asked (Err error.Memory) h = tt
part_of_none chain codecs elements shape asked (Err e) h = absurd h

-- ---- what is tested first

-- why places that are asked for are not decoded
pub not_asked : (chain : Chain) (elements : Elements) (shape : List ℕ) (stored : Option (List ℕ)) (asked : Asked) (e : CodecError) → TestsAsked {A = Unit {0}} shape asked (Err e) → DecodesPart (coded chain elements shape) stored asked (Err e)
not_asked chain elements shape stored asked error.IncompatibleIndexer h = h
not_asked chain elements shape stored asked error.Size h = inl h
not_asked chain elements shape stored asked e h = absurd h

-- such a test calls no source
pub not_asked_source : (shape : List ℕ) (asked : Asked) (count : ℕ) (e : CodecError) → TestsAsked {A = Unit {0}} shape asked (Err e) → refused_after {A = ArrayBytes} count (Err e) ≡ count
not_asked_source shape asked count error.IncompatibleIndexer h = refl
not_asked_source shape asked count error.Size h = refl
not_asked_source shape asked count e h = absurd h

-- a source that refuses no call refused none
pub never_refused : {A : Type 0} (r : Result A CodecError) → 0 ≡ refused_after 0 r → (count : ℕ) → refused_after count r ≡ count
never_refused (Ok value) h count = refl
never_refused (Err error.Source) h count = absurd (cc)
never_refused (Err error.Fit) h count = refl
never_refused (Err error.IncompatibleIndexer) h count = refl
never_refused (Err error.Damage) h count = refl
never_refused (Err error.Codec) h count = refl
never_refused (Err error.Size) h count = refl
never_refused (Err error.Memory) h count = refl
never_refused (Err e) h count = refl

-- ---- boxes by the numbers of their places

-- the places of a box that lies in a shape have numbers of the shape
places_below : (shape : List ℕ) (ps : List (List ℕ)) → list_all (λ place. is_in_box (map (λ size. 0) shape) shape place) ps ≡ true → list_all (λ n. nat_lt n (product shape)) (map (λ place. ravel place shape) ps) ≡ true
places_below shape [] h = refl
places_below shape (p ∷ ps) h =
    let test = is_in_box (map (λ size. 0) shape) shape in
    let both = and_parts (test p) (list_all test ps) h in
    and_from (nat_lt (ravel p shape) (product shape)) (list_all (λ n. nat_lt n (product shape)) (map (λ place. ravel place shape) ps)) (lt-ltb (ravel p shape) (product shape) (number_below shape p both.0)) (places_below shape ps both.1)

pub asked_places : (shape : List ℕ) (asked : Asked) → are_inside shape asked ≡ true → list_all (λ n. nat_lt n (product shape)) (numbers_asked shape asked) ≡ true
asked_places shape (in_box region) h = places_below shape (places region.start region.shape) (inside_places shape region h)
asked_places shape (listed numbers) h = h

-- what is asked for may be asked for by its numbers
pub asked_by_numbers : (chain : Chain) (elements : Elements) (shape : List ℕ) (stored : Option (List ℕ)) (asked : Asked) (r : Result ArrayBytes CodecError) → are_inside shape asked ≡ true
    → DecodesPart (coded chain elements shape) stored (listed (numbers_asked shape asked)) r → DecodesPart (coded chain elements shape) stored asked r
asked_by_numbers chain elements shape stored asked (Ok found) inside h = record { cells = h.cells; fit = h.fit; inside = inside; lists = h.lists; is = h.is }
asked_by_numbers chain elements shape stored asked (Err error.Fit) inside h = h
asked_by_numbers chain elements shape stored asked (Err error.IncompatibleIndexer) inside h = absurd (let e = sym (asked_places shape asked inside) ∙ h in cc)
asked_by_numbers chain elements shape stored asked (Err error.Damage) inside h = (h.0, inside, h.2)
asked_by_numbers chain elements shape stored asked (Err error.Size) inside h = h
asked_by_numbers chain elements shape stored asked (Err error.Source) inside h = tt
asked_by_numbers chain elements shape stored asked (Err error.Memory) inside h = tt
asked_by_numbers chain elements shape stored asked (Err e) inside h = absurd h
