-- A box without places, through an array codec.
use Rattle.std.proofs.Common.{◌≡◌, ◌∙◌, ℕ, ◌<◌, List, [], length, map, get_or, slice_index, sym, ap, subst, arith, Some, true, ◌==◌, inl, inr, not}
use Rattle.std.specs.List.{filter}
use Rattle.std.proofs.lemmas.Bool.{and_parts}
use Rattle.std.proofs.lemmas.List.{length-map, get_or-map}
use Rattle.std.proofs.lemmas.List.FromFn.{fill_by_all, length-range_with_len}
use Rattle.std.proofs.lemmas.Map.Views.{exact_unsigned_eq}
use Rattle.zarr_grids_boxes.specs.Boxes.{Region, product, places, place_at, ravel}
use Rattle.zarr_grids_boxes.proofs.Dimensions.{positive_at, positive_from_all}
use Rattle.zarr_grids_boxes.proofs.InBox.{length-places}
use Rattle.zarr_codecs_meaning.specs.Types.{Cell}
use Rattle.zarr_codecs_meaning.specs.Chains.{ArrayCodec}
use Rattle.zarr_codecs_meaning.specs.Chains.ArrayCodec.{transpose, reshape, squeeze}
use Rattle.zarr_codecs_meaning.specs.Places.{encoded_shape, part_of, places_of, position_of, source_places, squeezed, untransposed}
use Rattle.zarr_codecs_meaning.specs.Fits.{array_codec_fits, is_permutation}
use Rattle.zarr_codecs_meaning.proofs.Covers.{IsOrder, is_order, zeros}
use Rattle.zarr_codecs_meaning.proofs.ArrayCodecs.{length-places_of}
use Rattle.zarr_codecs_meaning.proofs.Lists.{some_same}
use Rattle.zarr_codecs_meaning.proofs.Positions.{position_found, position_read}
use Rattle.zarr_codecs_traits.specs.Indexers.{put}
use Rattle.zarr_sharding_changes.specs.Regions.{whole, cell_after, overlaid}
use Rattle.zarr_codecs_boxes.specs.Regions.{encoded_region}
use Rattle.zarr_codecs_boxes.proofs.Lying.{some_or_none, no_elements}
use Rattle.zarr_codecs_boxes.proofs.Squeezed.{length-squeezed, squeezed_none, product_zeros, empty_box}
use Rattle.zarr_codecs_boxes.proofs.Puts.{if_false}

-- a box without places, of as many dimensions as an array has
pub record IsEmptyIn (shape : List ℕ) (region : Region) : Type 0 where
  pub starts : length region.start ≡ length shape
  pub dims : length region.shape ≡ length region.start
  pub none : product region.shape ≡ 0

pub no_places : (shape : List ℕ) (region : Region) → length region.shape ≡ length region.start → product region.shape ≡ 0 → (part_of shape region).places ≡ []
no_places shape region dims none =
    ap (map (λ place. ravel place shape)) (no_elements (places region.start region.shape) (length-places region.start region.shape (sym dims) ∙ none))

-- nothing is put
pub none_put : (shape : List ℕ) (region : Region) (new cells : List Cell) → length region.shape ≡ length region.start → product region.shape ≡ 0 → put (part_of shape region).places new cells ≡ cells
none_put shape region new cells dims none = ap (λ ns. put ns new cells) (no_places shape region dims none)

-- sizes in another order have no place where they had none
product_moved : (order es : List ℕ) → IsOrder order → length es ≡ length order → product es ≡ 0 → product (map (slice_index es) order) ≡ 0
product_moved order es is l none = elim (some_or_none (product (map (slice_index es) order))) [
  | inr h ↦ h
  | inl some ↦
      let all : 0 < product es = positive_from_all es (λ d low.
      let named : d < length order = omega (arith, low, l) in
      let found = position_found d order (is.among d named) in
      let wide = positive_at (map (slice_index es) order) (position_of d order) (omega (arith, found, length-map order (slice_index es))) some in
      let read = get_or-map (slice_index es) order (position_of d order) 0 0 found ∙ ap (slice_index es) (position_read d 0 order found) in
      omega (arith, wide, read)) in
      absurd (omega (arith, all, none))
]

pub empty_encoded : (codec : ArrayCodec) (shape : List ℕ) (region moved : Region) → array_codec_fits codec shape ≡ true → IsEmptyIn shape region → encoded_region codec shape region ≡ Some moved → IsEmptyIn (encoded_shape codec shape) moved
empty_encoded (transpose order) shape region moved fit is h =
    let one = and_parts (length order == length shape) (is_permutation order) fit in
    let same = exact_unsigned_eq (length order) (length shape) one.0 in
    subst (IsEmptyIn (encoded_shape (transpose order) shape)) (some_same h) (record {
      starts = length-map order (slice_index region.start) ∙ sym (length-map order (slice_index shape));
      dims = length-map order (slice_index region.shape) ∙ sym (length-map order (slice_index region.start));
      none = product_moved order region.shape (is_order order one.1) (is.dims ∙ (is.starts ∙ sym same)) is.none;
    })
empty_encoded (reshape entries) shape region moved fit is h = cc
empty_encoded squeeze shape region moved fit is h =
    let starts = length-squeezed 0 shape region.start is.starts in
    let sizes = squeezed_none shape region is.none in
    subst (IsEmptyIn (squeezed shape)) (some_same h) (record {
      starts = starts;
      dims = ap (λ (ns : List ℕ). length ns) sizes ∙ (length-map (squeezed shape) (λ size. 0) ∙ sym starts);
      none = ap product sizes ∙ product_zeros (filter (λ size. not (size == 1)) shape);
    })

-- nothing is put over an array
pub none_overlaid : (fill : Cell) (shape : List ℕ) (region : Region) (new cells : List Cell) → product region.shape ≡ 0 → length cells ≡ product shape → overlaid fill (whole shape) region new cells ≡ cells
none_overlaid fill shape region new cells none all =
    sym (fill_by_all (λ n. cell_after fill region new (place_at (zeros shape) shape n) (get_or cells n fill)) cells (product shape) fill all
    (λ n low. sym (if_false _ _ _ (empty_box region.start region.shape (place_at (zeros shape) shape n) none))))

-- of the cells of the box there are as many as its shape has places: none
pub none_gathered : (codec : ArrayCodec) (shape : List ℕ) (region moved : Region) → array_codec_fits codec shape ≡ true → IsEmptyIn shape region → encoded_region codec shape region ≡ Some moved → length (source_places codec region.shape) ≡ product moved.shape
none_gathered (transpose order) shape region moved fit is h =
    let es = map (slice_index region.shape) order in
    length-map (places_of es) (λ place. ravel (untransposed order place) region.shape) ∙ (length-places_of es ∙ ap (λ (box : Region). product box.shape) (some_same h))
none_gathered (reshape entries) shape region moved fit is h = cc
none_gathered squeeze shape region moved fit is h =
    let after = empty_encoded squeeze shape region moved fit is h in
    length-range_with_len 0 (product region.shape) ∙ (is.none ∙ sym after.none)
