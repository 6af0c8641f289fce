-- A box put over an array, through a transposition.
use Rattle.std.proofs.Common.{◌≡◌, ℕ, ◌-◌, ◌<◌, List, length, map, get_or, slice_index, ap, ◌∙◌, sym, arith, true, ◌==◌}
use Rattle.std.proofs.lemmas.Bool.{and_parts}
use Rattle.std.proofs.lemmas.List.{get_or-map, length-map}
use Rattle.std.proofs.lemmas.List.FromFn.{get_or-map-range_with_len}
use Rattle.std.proofs.lemmas.Map.Views.{exact_unsigned_eq}
use Rattle.std.proofs.lemmas.Simd.{map-map}
use Rattle.zarr_grids_boxes.specs.Boxes.{Region, product, is_in_box, place_at, ravel, each2, IsIndex}
use Rattle.zarr_grids_boxes.proofs.Places.{places_by_number, in_box_below}
use Rattle.zarr_codecs_meaning.specs.Types.{Cell}
use Rattle.zarr_codecs_meaning.specs.Chains.ArrayCodec.{transpose}
use Rattle.zarr_codecs_meaning.specs.Places.{gather, position_of, place_numbers, places_of, untransposed, source_places}
use Rattle.zarr_codecs_meaning.specs.Fits.{array_codec_fits, is_permutation}
use Rattle.zarr_codecs_meaning.proofs.ArrayCodecs.{length-gather, length-places_of}
use Rattle.zarr_codecs_meaning.proofs.Positions.{position_found, position_read}
use Rattle.zarr_codecs_meaning.proofs.Covers.{zeros, length-zeros, place_is_index, places_at, IsOrder, is_order, transposed_index, untransposed_back}
use Rattle.zarr_sharding_changes.specs.Regions.{IsInside, whole, cell_after, overlaid}
use Rattle.zarr_sharding_changes.proofs.Overlays.{same_numbers, overlaid_at}
use Rattle.zarr_codecs_boxes.specs.Regions.{transposed_region}
use Rattle.zarr_codecs_boxes.proofs.Boxes.{IsWithin, within_box, box_within, same_tests, same_choice, minus_moved}
use Rattle.zarr_codecs_boxes.proofs.Orders.{untransposed_index, transposed_back}

-- what a list has at a place of the order
moved_at : (order xs : List ℕ) (k : ℕ) → k < length order → slice_index (map (slice_index xs) order) k ≡ slice_index xs (get_or order k 0)
moved_at order xs k below = get_or-map (slice_index xs) order k 0 0 below

-- and where the order names a dimension
moved_back : (order xs : List ℕ) (d : ℕ) → IsOrder order → d < length order → slice_index (map (slice_index xs) order) (position_of d order) ≡ slice_index xs d
moved_back order xs d is below = let found = position_found d order (is.among d below) in moved_at order xs (position_of d order) found ∙ ap (slice_index xs) (position_read d 0 order found)

-- ---- the box

-- the box lies in the encoded array
pub transposed_inside : (order shape : List ℕ) (region : Region) → IsOrder order → length order ≡ length shape → IsInside region.start region.shape shape
    → IsInside (transposed_region order region).start (transposed_region order region).shape (map (slice_index shape) order)
transposed_inside order shape region is same within = record {
  starts = length-map order (slice_index region.start) ∙ sym (length-map order (slice_index shape));
  ends = length-map order (slice_index region.shape) ∙ sym (length-map order (slice_index shape));
  below = λ k l.
      let inside : k < length order = omega (arith, l, length-map order (slice_index shape)) in
      let d = get_or order k 0 in
      let low : d < length shape = let b = is.low k inside in omega (arith, b, same) in
      let b = within.below d low in
      omega (arith, b, moved_at order region.start k inside, moved_at order region.shape k inside, moved_at order shape k inside);
}

within_moved : (order ss es ps : List ℕ) → IsOrder order → length order ≡ length ss → IsWithin ss es ps → IsWithin (map (slice_index ss) order) (map (slice_index es) order) (map (slice_index ps) order)
within_moved order ss es ps is same h = record {
  low = λ k l.
      let inside : k < length order = omega (arith, l, length-map order (slice_index ss)) in
      let b = h.low (get_or order k 0) (let b = is.low k inside in omega (arith, b, same)) in
      omega (arith, b, moved_at order ss k inside, moved_at order ps k inside);
  high = λ k l.
      let inside : k < length order = omega (arith, l, length-map order (slice_index ss)) in
      let b = h.high (get_or order k 0) (let b = is.low k inside in omega (arith, b, same)) in
      omega (arith, b, moved_at order ss k inside, moved_at order es k inside, moved_at order ps k inside);
}

moved_within : (order ss es ps : List ℕ) → IsOrder order → length order ≡ length ss → IsWithin (map (slice_index ss) order) (map (slice_index es) order) (map (slice_index ps) order) → IsWithin ss es ps
moved_within order ss es ps is same h = record {
  low = λ d l.
      let named : d < length order = omega (arith, l, same) in
      let found = position_found d order (is.among d named) in
      let b = h.low (position_of d order) (omega (arith, found, length-map order (slice_index ss))) in
      omega (arith, b, moved_back order ss d is named, moved_back order ps d is named);
  high = λ d l.
      let named : d < length order = omega (arith, l, same) in
      let found = position_found d order (is.among d named) in
      let b = h.high (position_of d order) (omega (arith, found, length-map order (slice_index ss))) in
      omega (arith, b, moved_back order ss d is named, moved_back order es d is named, moved_back order ps d is named);
}

-- a place lies in a box where the place that it becomes lies in the box that this becomes
in_box_moved : (order ss es ps : List ℕ) → IsOrder order → length order ≡ length ss → length es ≡ length ss → length ps ≡ length ss
    → is_in_box ss es ps ≡ is_in_box (map (slice_index ss) order) (map (slice_index es) order) (map (slice_index ps) order)
in_box_moved order ss es ps is same l m =
    let wide = λ (xs : List ℕ). length-map order (slice_index xs) in
    same_tests (is_in_box ss es ps) (is_in_box (map (slice_index ss) order) (map (slice_index es) order) (map (slice_index ps) order))
    (λ h. within_box (map (slice_index ss) order) (map (slice_index es) order) (map (slice_index ps) order) (wide es ∙ sym (wide ss)) (wide ps ∙ sym (wide ss)) (within_moved order ss es ps is same (box_within ss es ps h)))
    (λ h. within_box ss es ps l m (moved_within order ss es ps is same (box_within (map (slice_index ss) order) (map (slice_index es) order) (map (slice_index ps) order) h)))

-- ---- the cells

-- of which number before the codec a place after it is
abbrev source_of : List ℕ → List ℕ → List ℕ → ℕ
source_of order shape place = ravel (untransposed order place) shape

-- what is gathered, by the numbers of the places
gathered_by : (fill : Cell) (order shape : List ℕ) (cells : List Cell) → let new_shape = map (slice_index shape) order in
    gather fill cells (source_places (transpose order) shape) ≡ map (λ n. get_or cells (source_of order shape (place_at (zeros new_shape) new_shape n)) fill) (place_numbers new_shape)
gathered_by fill order shape cells =
    let new_shape = map (slice_index shape) order in
    ap (λ (found : List (List ℕ)). gather fill cells (map (source_of order shape) found)) (places_by_number (zeros new_shape) new_shape (length-zeros new_shape))
    ∙ (ap (gather fill cells) (map-map (source_of order shape) (place_at (zeros new_shape) new_shape) (place_numbers new_shape))
    ∙ map-map (λ n. get_or cells n fill) (λ n. source_of order shape (place_at (zeros new_shape) new_shape n)) (place_numbers new_shape))

-- an array's cell at an index, as it stands behind the codec
gathered_index : (fill : Cell) (order shape index : List ℕ) (cells : List Cell) → IsOrder order → length order ≡ length shape → IsIndex index shape
    → get_or (gather fill cells (source_places (transpose order) shape)) (ravel (map (slice_index index) order) (map (slice_index shape) order)) fill ≡ get_or cells (ravel index shape) fill
gathered_index fill order shape index cells is same at_ =
    let new_shape = map (slice_index shape) order in
    let q = map (slice_index index) order in
    let found = places_at (source_of order shape) new_shape q 0 (transposed_index order index shape is same at_) in
    get_or-map (λ n. get_or cells n fill) (source_places (transpose order) shape) (ravel q new_shape) 0 fill found.0
    ∙ ap (λ n. get_or cells n fill) (found.1 ∙ ap (λ place. ravel place shape) (untransposed_back order index (at_.same ∙ sym same) is.among))

-- the cell of a place of the array, and of the place that it becomes
cell_moved : (fill old : Cell) (order index : List ℕ) (region : Region) (new : List Cell) → IsOrder order → length order ≡ length region.start → length region.shape ≡ length region.start → length index ≡ length region.start
    → cell_after fill region new index old ≡ cell_after fill (transposed_region order region) (gather fill new (source_places (transpose order) region.shape)) (map (slice_index index) order) old
cell_moved fill old order index region new is same l m =
    let ss = region.start in
    let es = region.shape in
    let i = each2 (λ p s. p - s) index ss in
    let q = map (slice_index index) order in
    let moved = transposed_region order region in
    let turned = gather fill new (source_places (transpose order) es) in
    same_choice (is_in_box ss es index) (is_in_box moved.start moved.shape q) (get_or new (ravel i es) fill) (get_or turned (ravel (each2 (λ p s. p - s) q moved.start) moved.shape) fill) old
    (in_box_moved order ss es index is same l m)
    (λ h.
    sym (ap (λ (place : List ℕ). get_or turned (ravel place moved.shape) fill) (minus_moved order index ss m)
    ∙ gathered_index fill order es i new is (same ∙ sym l) (in_box_below ss es index h)))

pub overlaid_transposed : (fill : Cell) (order shape : List ℕ) (region : Region) (new cells : List Cell) → array_codec_fits (transpose order) shape ≡ true → IsInside region.start region.shape shape
    → gather fill (overlaid fill (whole shape) region new cells) (source_places (transpose order) shape)
    ≡ overlaid fill (whole (map (slice_index shape) order)) (transposed_region order region) (gather fill new (source_places (transpose order) region.shape)) (gather fill cells (source_places (transpose order) shape))
overlaid_transposed fill order shape region new cells fit within =
    gathered_by fill order shape after
    ∙ same_numbers (λ n. get_or after (source_of order shape (place n)) fill) (λ n. cell_after fill (transposed_region order region) turned (place n) (get_or moved n fill)) (product new_shape) at_ where
      new_shape : List ℕ
      new_shape = map (slice_index shape) order

      after : List Cell
      after = overlaid fill (whole shape) region new cells

      turned : List Cell
      turned = gather fill new (source_places (transpose order) region.shape)

      moved : List Cell
      moved = gather fill cells (source_places (transpose order) shape)

      place : ℕ → List ℕ
      place n = place_at (zeros new_shape) new_shape n

      fits : (length order ≡ length shape) × IsOrder order
      fits = let one = and_parts (length order == length shape) (is_permutation order) fit in (exact_unsigned_eq (length order) (length shape) one.0, is_order order one.1)

      at_ : (n : ℕ) → n < product new_shape → get_or after (source_of order shape (place n)) fill ≡ cell_after fill (transposed_region order region) turned (place n) (get_or moved n fill)
      at_ n below =
          let same = fits.0 in
          let is = fits.1 in
          let q = place n in
          let index = place_is_index new_shape n below in
          let u = untransposed order q in
          let before = untransposed_index order q shape is same index in
          let back : map (slice_index u) order ≡ q = transposed_back order q is (index.same ∙ length-map order (slice_index shape)) in
          let old = get_or cells (ravel u shape) fill in
          let read : get_or moved n fill ≡ old = ap (λ (found : List Cell). get_or found n fill) (gathered_by fill order shape cells)
          ∙ get_or-map-range_with_len (λ n. get_or cells (source_of order shape (place n)) fill) 0 (product new_shape) n n fill below (omega arith) in
          overlaid_at fill shape u region new cells before
          ∙ (cell_moved fill old order u region new is (same ∙ sym within.starts) (within.ends ∙ sym within.starts) (before.same ∙ sym within.starts)
          ∙ (ap (λ (found : List ℕ). cell_after fill (transposed_region order region) turned found old) back
          ∙ ap (cell_after fill (transposed_region order region) turned q) (sym read)))

-- the box has as many cells as before
pub transposed_count : (fill : Cell) (order : List ℕ) (region : Region) (new : List Cell) → length (gather fill new (source_places (transpose order) region.shape)) ≡ product (transposed_region order region).shape
transposed_count fill order region new =
    let es = map (slice_index region.shape) order in
    length-gather fill new (source_places (transpose order) region.shape) ∙ (length-map (places_of es) (source_of order region.shape) ∙ length-places_of es)
