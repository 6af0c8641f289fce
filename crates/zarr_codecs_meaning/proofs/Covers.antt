-- Each place has a number, and array codecs gather from each place.
use Rattle.std.proofs.Common.{◌≡◌, ℕ, ◌+◌, ◌/◌, ◌%◌, ◌<◌, List, [], ◌∷◌, length, map, get_or, slice_index, ap, ◌∙◌, sym, refl, arith, true, ◌==◌, subst}
use Rattle.std.specs.Prelude.{nat_lt}
use Rattle.std.specs.List.{list_all, list_any, range_with_len}
use Rattle.std.proofs.lemmas.Bool.{ltb-true, and_parts}
use Rattle.std.proofs.lemmas.List.{get_or-map, length-map}
use Rattle.std.proofs.lemmas.List.FromFn.{length-range_with_len, get_or-range_with_len, fill_by_all}
use Rattle.std.proofs.lemmas.Map.Views.{exact_unsigned_eq}
use Rattle.zarr_grids_boxes.specs.Boxes.{product, places, place_at, ravel, each2, IsIndex}
use Rattle.zarr_grids_boxes.specs.Walks.{unravel}
use Rattle.zarr_grids_boxes.proofs.Places.{place_at-ravel}
use Rattle.zarr_grids_boxes.proofs.InBox.{length-places}
use Rattle.zarr_grids_boxes.proofs.Walking.{get_or-places}
use Rattle.zarr_grids_boxes.proofs.Dimensions.{ravel_below}
use Rattle.zarr_grids_boxes.proofs.Numbers.{unravel-index, ravel-unravel, unravel-ravel}
use Rattle.zarr_codecs_meaning.specs.Chains.{ArrayCodec}
use Rattle.zarr_codecs_meaning.specs.Chains.ArrayCodec.{transpose, reshape, squeeze}
use Rattle.zarr_codecs_meaning.specs.Places.{places_of, position_of, untransposed, source_places}
use Rattle.zarr_codecs_meaning.specs.Fits.{array_codec_fits, is_permutation}
use Rattle.zarr_codecs_meaning.proofs.Lists.{each_passes}
use Rattle.zarr_codecs_meaning.proofs.Positions.{IsAmong, among_at, among_range, any_among, each_at, position_found, position_read}

abbrev pub zeros : List ℕ → List ℕ
zeros shape = map (λ size. 0) shape

pub length-zeros : (shape : List ℕ) → length (zeros shape) ≡ length shape
length-zeros shape = length-map shape (λ size. 0)

-- the place with a number, counted from the origin, is the index with that number
zero_place : (shape : List ℕ) (n : ℕ) → place_at (zeros shape) shape n ≡ unravel shape n
zero_place [] n = refl
zero_place (e ∷ es) n =
    let first : 0 + n / product es ≡ n / product es = omega arith in
    ap (λ k. k ∷ place_at (zeros es) es (n % product es)) first ∙ ap (λ ks. n / product es ∷ ks) (zero_place es (n % product es))

pub place_is_index : (shape : List ℕ) (n : ℕ) → n < product shape → IsIndex (place_at (zeros shape) shape n) shape
place_is_index shape n h = subst (λ (place : List ℕ). IsIndex place shape) (sym (zero_place shape n)) (unravel-index shape n h)

pub ravel_place : (shape : List ℕ) (n : ℕ) → n < product shape → ravel (place_at (zeros shape) shape n) shape ≡ n
ravel_place shape n h = ap (λ place. ravel place shape) (zero_place shape n) ∙ ravel-unravel shape n h

-- the number's place is the place
pub place_ravel : (shape index : List ℕ) → IsIndex index shape → place_at (zeros shape) shape (ravel index shape) ≡ index
place_ravel shape index h = zero_place shape (ravel index shape) ∙ unravel-ravel index shape h

-- what a map of the places of a box has at a place's number
pub box_places_at : {X : Type 0} (f : List ℕ → X) (start shape index : List ℕ) (d : X) → length start ≡ length shape → IsIndex index shape
    → (ravel index shape < length (map f (places start shape))) × (get_or (map f (places start shape)) (ravel index shape) d ≡ f (each2 (λ s i. s + i) start index))
box_places_at f start shape index d l h =
    let below = ravel_below index shape h in
    let long : ravel index shape < length (places start shape) = omega (arith, below, length-places start shape l) in
    let number : get_or (places start shape) (ravel index shape) [] ≡ each2 (λ s i. s + i) start index = get_or-places start shape (ravel index shape) [] l below ∙ place_at-ravel start shape index l h in
    (omega (arith, long, length-map (places start shape) f), get_or-map f (places start shape) (ravel index shape) [] d long ∙ ap f number)

-- what a map of all places has at a place's number
pub places_at : {X : Type 0} (f : List ℕ → X) (shape index : List ℕ) (d : X) → IsIndex index shape → (ravel index shape < length (map f (places_of shape))) × (get_or (map f (places_of shape)) (ravel index shape) d ≡ f index)
places_at f shape index d h =
    let found = box_places_at f (zeros shape) shape index d (length-zeros shape) h in
    (found.0, found.1 ∙ ap f (sym (place_at-ravel (zeros shape) shape index (length-zeros shape) h) ∙ place_ravel shape index h))

-- ---- a transposition

-- an order names each dimension, and nothing besides
pub record IsOrder (order : List ℕ) : Type 0 where
  pub low : (i : ℕ) → i < length order → get_or order i 0 < length order
  pub among : (d : ℕ) → d < length order → IsAmong d order

pub is_order : (order : List ℕ) → is_permutation order ≡ true → IsOrder order
is_order order fit =
    let n = length order in
    let two = and_parts (list_all (λ d. nat_lt d n) order) (list_all (λ d. list_any (λ m. m == d) order) (range_with_len 0 n)) fit in
    let every_one = each_passes (λ d. list_any (λ m. m == d) order) (range_with_len 0 n) two.1 in
    record {
      low = λ i h. ltb-true (get_or order i 0) n (each_at (λ d. nat_lt d n ≡ true) order i 0 (each_passes (λ d. nat_lt d n) order two.0) h);
      among = λ d below.
          let in_range : d < length (range_with_len 0 n) = omega (arith, below, length-range_with_len 0 n) in
          let at_d : get_or (range_with_len 0 n) d 0 ≡ d = get_or-range_with_len 0 n d 0 below ∙ omega arith in
          any_among d order (subst (λ k. list_any (λ m. m == k) order ≡ true) at_d (each_at (λ d. list_any (λ m. m == d) order ≡ true) (range_with_len 0 n) d 0 every_one in_range));
    }

pub transposed_index : (order p shape : List ℕ) → IsOrder order → length order ≡ length shape → IsIndex p shape → IsIndex (map (slice_index p) order) (map (slice_index shape) order)
transposed_index order p shape is same h = record {
  same = length-map order (slice_index p) ∙ sym (length-map order (slice_index shape));
  below = λ k l.
      let inside : k < length order = omega (arith, length-map order (slice_index shape)) in
      let d = get_or order k 0 in
      let d_low : d < length shape = let b = is.low k inside in omega (arith, b, same) in
      let left = get_or-map (slice_index p) order k 0 0 inside in
      let right = get_or-map (slice_index shape) order k 0 0 inside in
      let b = h.below d d_low in
      omega (arith, left, right, b);
}

pub untransposed_back : (order p : List ℕ) → length p ≡ length order → ((d : ℕ) → d < length order → IsAmong d order) → untransposed order (map (slice_index p) order) ≡ p
untransposed_back order p same covers =
    sym (fill_by_all (λ d. slice_index (map (slice_index p) order) (position_of d order)) p (length order) 0 same (λ d below.
    let found = position_found d order (covers d below) in
    sym (get_or-map (slice_index p) order (position_of d order) 0 0 found ∙ ap (slice_index p) (position_read d 0 order found))))

pub array_codec_covers : (codec : ArrayCodec) (shape : List ℕ) → array_codec_fits codec shape ≡ true → (n : ℕ) → n < product shape → IsAmong n (source_places codec shape)
array_codec_covers (transpose order) shape fit n h =
    let one = and_parts (length order == length shape) (is_permutation order) fit in
    let same = exact_unsigned_eq (length order) (length shape) one.0 in
    let named = is_order order one.1 in
    let p = place_at (zeros shape) shape n in
    let is = place_is_index shape n h in
    let q = map (slice_index p) order in
    let new_shape = map (slice_index shape) order in
    let moved = places_at (λ place. ravel (untransposed order place) shape) new_shape q 0 (transposed_index order p shape named same is) in
    among_at (source_places (transpose order) shape) (ravel q new_shape) n moved.0 (moved.1 ∙ (ap (λ place. ravel place shape) (untransposed_back order p (is.same ∙ sym same) named.among) ∙ ravel_place shape n h))
array_codec_covers (reshape entries) shape fit n h = among_range (product shape) n h
array_codec_covers squeeze shape fit n h = among_range (product shape) n h
