-- Places that array codecs move, and the elements there.
use Rattle.std.proofs.Common.{◌≡◌, ℕ, zero, suc, ◌+◌, ◌<◌, List, [], ◌∷◌, ◌++◌, length, map, take, get_or, slice_index, ap, ◌∙◌, sym, subst, refl, arith, Result, Ok, Err, Bool, true, ◌&&◌, ◌==◌}
use Rattle.std.specs.Prelude.{nat_lt}
use Rattle.std.specs.List.{range_with_len}
use Rattle.std.proofs.lemmas.Bool.{and_parts, ltb-true, lt-ltb}
use Rattle.std.proofs.lemmas.List.{length-map}
use Rattle.std.proofs.lemmas.List.FromFn.{length-range_with_len, get_or-range_with_len, get_or-map-range_with_len, fill_by_all}
use Rattle.std.proofs.lemmas.Simd.{map-map}
use Rattle.std.proofs.lemmas.Map.Views.{exact_unsigned_eq}
use Rattle.zarr_grids_boxes.specs.Boxes.{product, place_at, ravel}
use Rattle.zarr_grids_boxes.proofs.Places.{places_by_number, range_with_len-append}
use Rattle.zarr_codecs_meaning.specs.Chains.{ArrayCodec}
use Rattle.zarr_codecs_meaning.specs.Chains.ArrayCodec.{transpose}
use Rattle.zarr_codecs_meaning.specs.Fits.{array_codec_fits, is_permutation}
use Rattle.zarr_codecs_meaning.specs.Payloads.{Payload}
use Rattle.zarr_codecs_meaning.specs.Places.{gather, place_numbers, position_of, untransposed, encoded_shape, source_places, undone_places}
use Rattle.zarr_codecs_meaning.specs.Types.{Cell, Elements, DataType}
use Rattle.zarr_codecs_meaning.proofs.ArrayCodecs.{array_codec_count}
use Rattle.zarr_codecs_meaning.proofs.Covers.{zeros, length-zeros, place_is_index, ravel_place, places_at, is_order, transposed_index, untransposed_back, array_codec_covers}
use Rattle.zarr_codecs_meaning.proofs.Once.{array_codec_once, product_moved}
use Rattle.zarr_codecs_meaning.proofs.Positions.{among_at, among_range, position_found, position_read}
use Rattle.zarr_codecs_arrays.specs.Outcomes.{Validates}
use Rattle.zarr_codecs_arrays.specs.declared.array_bytes.ArrayBytes.{ArrayBytes}
use Rattle.zarr_codecs_arrays.specs.declared.error.CodecError.{CodecError}
use Rattle.zarr_codecs_arrays.specs.declared.error.CodecError.TheVariants as error
use Rattle.zarr_codecs_traits.specs.Outcomes.{Moves, moving}
use Rattle.zarr_codecs_array_to_array.specs.Moving.{are_below, moved_numbers, picked_number, Checks, Gathers}

-- ---- lists of numbers

pub range_more : (n : ℕ) → range_with_len 0 (n + 1) ≡ range_with_len 0 n ++ n ∷ []
range_more n = range_with_len-append 0 n 1 ∙ ap (λ k. range_with_len 0 n ++ k ∷ []) (let e : 0 + n ≡ n = omega arith in e)

pub below_from : (count : ℕ) (ns : List ℕ) → ((i : ℕ) → i < length ns → get_or ns i 0 < count) → are_below count ns ≡ true
below_from count [] law = refl
below_from count (n ∷ ns) law = ap (λ (b : Bool). b && are_below count ns) (lt-ltb n count (law 0 (omega arith))) ∙ below_from count ns (λ i h. law (suc i) (omega arith))

pub map_below : (f g : ℕ → ℕ) (count : ℕ) (ns : List ℕ) → are_below count ns ≡ true → ((n : ℕ) → n < count → f n ≡ g n) → map f ns ≡ map g ns
map_below f g count [] all law = refl
map_below f g count (n ∷ ns) all law =
    let both = and_parts (nat_lt n count) (are_below count ns) all in
    ap (λ k. k ∷ map f ns) (law n (ltb-true n count both.0)) ∙ ap (λ ks. g n ∷ ks) (map_below f g count ns both.1 law)

pub map_all_below : (f : ℕ → ℕ) (count bound : ℕ) (ns : List ℕ) → are_below count ns ≡ true → ((n : ℕ) → n < count → f n < bound) → are_below bound (map f ns) ≡ true
map_all_below f count bound [] all law = refl
map_all_below f count bound (n ∷ ns) all law =
    let both = and_parts (nat_lt n count) (are_below count ns) all in
    ap (λ (b : Bool). b && are_below bound (map f ns)) (lt-ltb (f n) bound (law n (ltb-true n count both.0))) ∙ map_all_below f count bound ns both.1 law

pub range_below : (count : ℕ) → are_below count (range_with_len 0 count) ≡ true
range_below count = below_from count (range_with_len 0 count) (λ i h. let long = length-range_with_len 0 count in let e = get_or-range_with_len 0 count i 0 (omega (arith, h, long)) in omega (arith, e, h, long))

pub range_position : (count n : ℕ) → n < count → position_of n (range_with_len 0 count) ≡ n
range_position count n h =
    let ns = range_with_len 0 count in
    let found = position_found n ns (among_range count n h) in
    let read = position_read n 0 ns found in
    let e = get_or-range_with_len 0 count (position_of n ns) 0 (omega (arith, found, length-range_with_len 0 count)) in
    omega (arith, read, e)

pub map_id : (f : ℕ → ℕ) (ns : List ℕ) (count : ℕ) → are_below count ns ≡ true → ((n : ℕ) → n < count → f n ≡ n) → map f ns ≡ ns
map_id f [] count all law = refl
map_id f (n ∷ ns) count all law =
    let both = and_parts (nat_lt n count) (are_below count ns) all in
    ap (λ k. k ∷ map f ns) (law n (ltb-true n count both.0)) ∙ ap (λ ks. n ∷ ks) (map_id f ns count both.1 law)

pub map_more : (f : ℕ → ℕ) (ns : List ℕ) (i : ℕ) → i < length ns → map f (take (suc i) ns) ≡ map f (take i ns) ++ f (get_or ns i 0) ∷ []
map_more f [] i h = absurd (omega arith)
map_more f (n ∷ ns) zero h = refl
map_more f (n ∷ ns) (suc i) h = ap (λ ks. f n ∷ ks) (map_more f ns i (omega arith))

-- ---- the places that array codecs move

pub sources_below : (codec : ArrayCodec) (shape : List ℕ) → array_codec_fits codec shape ≡ true → are_below (product shape) (source_places codec shape) ≡ true
sources_below codec shape fit = let once = array_codec_once codec shape fit in below_from (product shape) (source_places codec shape) once.below

pub position_below : (codec : ArrayCodec) (shape : List ℕ) → array_codec_fits codec shape ≡ true → (n : ℕ) → n < product shape → position_of n (source_places codec shape) < product (encoded_shape codec shape)
position_below codec shape fit n h =
    let found = position_found n (source_places codec shape) (array_codec_covers codec shape fit n h) in
    let many = array_codec_count codec shape fit in
    omega (arith, found, many)

pub undone_below : (codec : ArrayCodec) (shape : List ℕ) → array_codec_fits codec shape ≡ true → are_below (product (encoded_shape codec shape)) (undone_places codec shape) ≡ true
undone_below codec shape fit = map_all_below (λ n. position_of n (source_places codec shape)) (product shape) (product (encoded_shape codec shape)) (place_numbers shape) (range_below (product shape)) (position_below codec shape fit)

-- ---- elements that stay where they are

-- numbers are the same after a codec that moves no element
pub kept_moved : (codec : ArrayCodec) (shape numbers made : List ℕ) → source_places codec shape ≡ place_numbers shape → are_below (product shape) numbers ≡ true → made ≡ numbers → made ≡ moved_numbers codec shape numbers
kept_moved codec shape numbers made stay inside e =
    e ∙ sym (ap (λ ns. map (λ n. position_of n ns) numbers) stay ∙ map_id (λ n. position_of n (place_numbers shape)) numbers (product shape) inside (range_position (product shape)))

pub kept_within : (codec : ArrayCodec) (shape numbers made : List ℕ) → array_codec_fits codec shape ≡ true → are_below (product shape) numbers ≡ true → made ≡ numbers → are_below (product (encoded_shape codec shape)) made ≡ true
kept_within codec shape numbers made fit inside e = ap (are_below (product (encoded_shape codec shape))) e ∙ (ap (λ k. are_below k numbers) (sym (product_moved codec shape fit)) ∙ inside)

pub gathered_all : (fill : Cell) (cells : List Cell) (count : ℕ) → length cells ≡ count → gather fill cells (range_with_len 0 count) ≡ cells
gathered_all fill cells count whole = sym (fill_by_all (λ k. get_or cells k fill) cells count fill whole (λ k h. refl))

pub undone_range : (count : ℕ) → map (λ n. position_of n (range_with_len 0 count)) (range_with_len 0 count) ≡ range_with_len 0 count
undone_range count = map_id (λ n. position_of n (range_with_len 0 count)) (range_with_len 0 count) count (range_below count) (range_position count)

-- ---- transpositions

same_map : {X Y : Type 0} (f g : X → Y) (xs : List X) → ((x : X) → f x ≡ g x) → map f xs ≡ map g xs
same_map f g [] law = refl
same_map f g (x ∷ xs) law = ap (λ y. y ∷ map f xs) (law x) ∙ ap (λ ys. g x ∷ ys) (same_map f g xs law)

-- where each dimension stands in an order
abbrev pub inverse_of : List ℕ → List ℕ
inverse_of order = map (λ d. position_of d order) (range_with_len 0 (length order))

pub sources_picked : (order shape : List ℕ) → map (picked_number (map (slice_index shape) order) (inverse_of order) shape) (place_numbers (map (slice_index shape) order)) ≡ source_places (transpose order) shape
sources_picked order shape =
    let e = map (slice_index shape) order in
    let f : List ℕ → ℕ = λ place. ravel (untransposed order place) shape in
    same_map (picked_number e (inverse_of order) shape) (λ n. f (place_at (zeros e) e n)) (place_numbers e) (λ n. ap (λ ks. ravel ks shape) (map-map (slice_index (place_at (zeros e) e n)) (λ d. position_of d order) (range_with_len 0 (length order))))
    ∙ (sym (map-map f (place_at (zeros e) e) (place_numbers e)) ∙ sym (ap (map f) (places_by_number (zeros e) e (length-zeros e))))

-- the number that a place has after a transposition
pub picked_is : (order shape : List ℕ) → array_codec_fits (transpose order) shape ≡ true → (n : ℕ) → n < product shape → picked_number shape order (map (slice_index shape) order) n ≡ position_of n (source_places (transpose order) shape)
picked_is order shape fit n h =
    let one = and_parts (length order == length shape) (is_permutation order) fit in
    let same = exact_unsigned_eq (length order) (length shape) one.0 in
    let named = is_order order one.1 in
    let p = place_at (zeros shape) shape n in
    let is = place_is_index shape n h in
    let q = map (slice_index p) order in
    let new_shape = map (slice_index shape) order in
    let ns = source_places (transpose order) shape in
    let moved = places_at (λ place. ravel (untransposed order place) shape) new_shape q 0 (transposed_index order p shape named same is) in
    let read : get_or ns (ravel q new_shape) 0 ≡ n = moved.1 ∙ (ap (λ place. ravel place shape) (untransposed_back order p (is.same ∙ sym same) named.among) ∙ ravel_place shape n h) in
    let once = array_codec_once (transpose order) shape fit in
    sym (once.position (ravel q new_shape) moved.0) ∙ ap (λ k. position_of k ns) read

pub undone_picked : (order shape : List ℕ) → array_codec_fits (transpose order) shape ≡ true → map (picked_number shape order (map (slice_index shape) order)) (place_numbers shape) ≡ undone_places (transpose order) shape
undone_picked order shape fit = map_below (picked_number shape order (map (slice_index shape) order)) (λ n. position_of n (source_places (transpose order) shape)) (product shape) (place_numbers shape) (range_below (product shape)) (picked_is order shape fit)

-- ---- what calls answer

pub checked : {A : Type 0} (type : DataType) (count : ℕ) (payload : Payload) (r : Result A CodecError) → Validates type payload count r → Checks type count payload r
checked type count payload (Ok v) h = h
checked type count payload (Err error.Fit) h = h
checked type count payload (Err error.Damage) h = h
checked type count payload (Err error.Codec) h = h
checked type count payload (Err error.Source) h = h
checked type count payload (Err error.Size) h = elim h [ ]
checked type count payload (Err error.CellOutOfRange) h = h
checked type count payload (Err error.IncompatibleIndexer) h = h
checked type count payload (Err error.InvalidNumberOfElements) h = h
checked type count payload (Err error.ExpectedFixedLengthBytes) h = h
checked type count payload (Err error.ExpectedVariableLengthBytes) h = h
checked type count payload (Err error.ExpectedOptionalBytes) h = h
checked type count payload (Err error.Unsupported) h = h
checked type count payload (Err error.Memory) h = h
checked type count payload (Err (error.Other s)) h = h

pub gathers_error : (elements : Elements) (count : ℕ) (numbers : List ℕ) (payload : Payload) (e : CodecError) → Checks {A = ℕ} elements.type count payload (Err e) → Gathers elements count numbers payload (Err e)
gathers_error elements count numbers payload error.Fit h = h
gathers_error elements count numbers payload error.Damage h = h
gathers_error elements count numbers payload error.Codec h = h
gathers_error elements count numbers payload error.Source h = h
gathers_error elements count numbers payload error.Size h = h
gathers_error elements count numbers payload error.CellOutOfRange h = h
gathers_error elements count numbers payload error.IncompatibleIndexer h = h
gathers_error elements count numbers payload error.InvalidNumberOfElements h = h
gathers_error elements count numbers payload error.ExpectedFixedLengthBytes h = h
gathers_error elements count numbers payload error.ExpectedVariableLengthBytes h = h
gathers_error elements count numbers payload error.ExpectedOptionalBytes h = h
gathers_error elements count numbers payload error.Unsupported h = h
gathers_error elements count numbers payload error.Memory h = elim h [ ]
gathers_error elements count numbers payload (error.Other s) h = h

moves_at : (codec : ArrayCodec) (elements : Elements) (shape numbers : List ℕ) (payload : Payload) (r : Result ArrayBytes CodecError) → array_codec_fits codec shape ≡ true → are_below (product shape) numbers ≡ true → Gathers elements (product shape) numbers payload r → Moves (moving codec elements shape (product shape) numbers) payload r
moves_at codec elements shape numbers payload (Ok made) fit all h = let is = h all in record { cells = is.cells; fit = fit; valid = is.valid; lists = is.lists }
moves_at codec elements shape numbers payload (Err error.Fit) fit all h = elim h [ ]
moves_at codec elements shape numbers payload (Err error.Damage) fit all h = (fit, h)
moves_at codec elements shape numbers payload (Err error.Codec) fit all h = (fit, h)
moves_at codec elements shape numbers payload (Err error.Source) fit all h = (fit, h)
moves_at codec elements shape numbers payload (Err error.Size) fit all h = h
moves_at codec elements shape numbers payload (Err error.CellOutOfRange) fit all h = (fit, h)
moves_at codec elements shape numbers payload (Err error.IncompatibleIndexer) fit all h = (fit, h)
moves_at codec elements shape numbers payload (Err error.InvalidNumberOfElements) fit all h = (fit, h)
moves_at codec elements shape numbers payload (Err error.ExpectedFixedLengthBytes) fit all h = (fit, h)
moves_at codec elements shape numbers payload (Err error.ExpectedVariableLengthBytes) fit all h = (fit, h)
moves_at codec elements shape numbers payload (Err error.ExpectedOptionalBytes) fit all h = (fit, h)
moves_at codec elements shape numbers payload (Err error.Unsupported) fit all h = (fit, h)
moves_at codec elements shape numbers payload (Err error.Memory) fit all h = tt
moves_at codec elements shape numbers payload (Err (error.Other s)) fit all h = (fit, h)

-- gathered elements are what an array codec moves
pub gathers_moves : (codec : ArrayCodec) (elements : Elements) (shape : List ℕ) (count : ℕ) (numbers found : List ℕ) (payload : Payload) (r : Result ArrayBytes CodecError) → array_codec_fits codec shape ≡ true → product shape ≡ count → found ≡ numbers → are_below count numbers ≡ true → Gathers elements count found payload r → Moves (moving codec elements shape count numbers) payload r
gathers_moves codec elements shape count numbers found payload r fit e is all h =
    subst (λ k. Moves (moving codec elements shape k numbers) payload r) e
    (moves_at codec elements shape numbers payload r fit (ap (λ k. are_below k numbers) e ∙ all) (subst (λ k. Gathers elements k numbers payload r) (sym e) (subst (λ ns. Gathers elements count ns payload r) is h)))
