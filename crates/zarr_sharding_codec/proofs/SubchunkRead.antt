-- The elements of one subchunk that is read from a source, by what its slice is decoded to.
use Rattle.std.proofs.Common.{◌≡◌, ◌∙◌, ◌<◌, ℕ, List, [], length, get_or, replicate, ap, sym, refl, true, false, Bool, Option, Some, None, unwrap_or, option_and_then, if◌then◌else◌, Result, Ok, Err, Vec, Global}
use Rattle.zarr_grids_boxes.specs.Boxes.{product}
use Rattle.zarr_codecs_meaning.specs.Chains.{Chain, Location}
use Rattle.zarr_codecs_meaning.specs.Decoding.{decoded, is_absent, slice_at}
use Rattle.zarr_codecs_meaning.specs.Encoding.{Pair, absent_pair}
use Rattle.zarr_codecs_meaning.specs.Fits.{fits}
use Rattle.zarr_codecs_meaning.specs.Types.{Elements}
use Rattle.zarr_codecs_arrays.specs.declared.array_bytes.ArrayBytes.{ArrayBytes}
use Rattle.zarr_codecs_arrays.specs.declared.error.CodecError.{CodecError}
use Rattle.zarr_codecs_arrays.specs.declared.error.CodecError.TheVariants as error
use Rattle.zarr_codecs_traits.specs.Arrays.{coded}
use Rattle.zarr_codecs_traits.specs.Outcomes.{Decodes}
use Rattle.zarr_sharding_index.specs.Held.{shard_length}
use Rattle.zarr_sharding_index.specs.Known.{HasSliceAt}
use Rattle.zarr_sharding_places.specs.Pieces.{piece_decoded}
use Rattle.zarr_sharding_codec.specs.PartWriting.{IsOf}
use Rattle.zarr_sharding_codec.specs.Reading.{ListsRead}
use Rattle.zarr_sharding_codec.proofs.PartsRead.{absent_there}

-- a present subchunk's cells are those that its slice is decoded to
present_piece : (inner : Chain) (elements : Elements) (value shape : List ℕ) (pair : Pair) (slice : Option (List ℕ)) → is_absent pair ≡ false → slice_at value pair ≡ slice
    → piece_decoded inner elements value shape pair ≡ option_and_then (decoded inner elements shape) slice
present_piece inner elements value shape pair slice present is =
    ap (λ (b : Bool). if b then Some (replicate (product shape) elements.fill) else option_and_then (decoded inner elements shape) (slice_at value pair)) present
    ∙ ap (option_and_then (decoded inner elements shape)) is

slice_decodes : (inner : Chain) (elements : Elements) (value shape slice : List ℕ) (pair : Pair) (result : Result ArrayBytes CodecError) → is_absent pair ≡ false → slice_at value pair ≡ Some slice → fits inner elements.type shape ≡ true
    → Decodes (coded inner elements shape) slice result → ListsRead elements shape (piece_decoded inner elements value shape pair) result
slice_decodes inner elements value shape slice pair (Ok bytes) present is fit made = record { cells = made.cells; is = present_piece inner elements value shape pair (Some slice) present is ∙ made.is; lists = made.lists }
slice_decodes inner elements value shape slice pair (Err error.Fit) present is fit made = absurd (cc)
slice_decodes inner elements value shape slice pair (Err error.Damage) present is fit made = present_piece inner elements value shape pair (Some slice) present is ∙ made.1
slice_decodes inner elements value shape slice pair (Err error.Size) present is fit made = made
slice_decodes inner elements value shape slice pair (Err error.Memory) present is fit made = tt
slice_decodes inner elements value shape slice pair (Err e) present is fit made = absurd made

slice_lost : (inner : Chain) (elements : Elements) (value shape : List ℕ) (pair : Pair) (e : CodecError) → HasSliceAt value pair (Err e) → ListsRead elements shape (piece_decoded inner elements value shape pair) (Err e)
slice_lost inner elements value shape pair error.Damage lost = present_piece inner elements value shape pair None lost.0 lost.1
slice_lost inner elements value shape pair error.Source lost = tt
slice_lost inner elements value shape pair error.Memory lost = tt
slice_lost inner elements value shape pair e lost = absurd lost

-- ---- of a shard of which it is known where its index and its data part are

pub subchunk_read : (inner : Chain) (elements : Elements) (shape : List ℕ) (location : Location) (size end n : ℕ) (contents : Option (List ℕ)) (pairs : List Pair) (slice : Vec ℕ Global) (result : Result ArrayBytes CodecError) → fits inner elements.type shape ≡ true → n < length pairs
    → (is_absent (get_or pairs n absent_pair) ≡ true → ◌≡◌ {A = Result (Option (Vec ℕ Global)) CodecError} (Ok (Some slice)) (Ok None))
    → ((value : List ℕ) → contents ≡ Some value → length value ≡ shard_length location size end → HasSliceAt value (get_or pairs n absent_pair) (Ok (Some slice)))
    → IsOf location size contents pairs end → Decodes (coded inner elements shape) slice.items result → ListsRead elements shape (piece_decoded inner elements (unwrap_or contents []) shape (get_or pairs n absent_pair)) result
subchunk_read inner elements shape location size end n None pairs slice result fit below absent has of made = let none = absent (absent_there pairs n of below) in absurd (cc)
subchunk_read inner elements shape location size end n (Some value) pairs slice result fit below absent has of made =
    let found = has value refl of in
    slice_decodes inner elements value shape slice.items (get_or pairs n absent_pair) result found.0 found.1 fit made

pub subchunk_unread : (inner : Chain) (elements : Elements) (shape : List ℕ) (location : Location) (size end n : ℕ) (contents : Option (List ℕ)) (pairs : List Pair) (e : CodecError) → n < length pairs
    → (is_absent (get_or pairs n absent_pair) ≡ true → ◌≡◌ {A = Result (Option (Vec ℕ Global)) CodecError} (Err e) (Ok None))
    → ((value : List ℕ) → contents ≡ Some value → length value ≡ shard_length location size end → HasSliceAt value (get_or pairs n absent_pair) (Err e))
    → IsOf location size contents pairs end → ListsRead elements shape (piece_decoded inner elements (unwrap_or contents []) shape (get_or pairs n absent_pair)) (Err e)
subchunk_unread inner elements shape location size end n None pairs e below absent has of = let none = absent (absent_there pairs n of below) in absurd (cc)
subchunk_unread inner elements shape location size end n (Some value) pairs e below absent has of = slice_lost inner elements value shape (get_or pairs n absent_pair) e (has value refl of)
