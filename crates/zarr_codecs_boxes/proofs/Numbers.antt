-- The numbers of a box's places, as an array codec moves them, are those of the box that it becomes, in another order.
use Rattle.std.proofs.Common.{◌≡◌, ◌∙◌, ℕ, ◌+◌, ◌-◌, ◌<◌, List, [], ◌∷◌, length, map, get_or, ap, sym, refl, arith, Some, option_map, true, ◌&&◌, ◌==◌}
use Rattle.std.specs.Prelude.{nat_le, nat_lt}
use Rattle.std.specs.List.{list_all, range_with_len}
use Rattle.std.proofs.lemmas.Bool.{and_parts}
use Rattle.std.proofs.lemmas.List.{get_or-map, length-map}
use Rattle.std.proofs.lemmas.List.FromFn.{fill_by_all, get_or-map-range_with_len, length-range_with_len}
use Rattle.zarr_grids_boxes.specs.Boxes.{Region, product, places, ravel, each2, is_in_box}
use Rattle.zarr_grids_boxes.proofs.Dimensions.{ravel_below}
use Rattle.zarr_grids_boxes.proofs.Places.{in_box_below}
use Rattle.zarr_codecs_meaning.specs.Types.{Cell, of_bytes}
use Rattle.zarr_codecs_meaning.specs.Chains.{ArrayCodec}
use Rattle.zarr_codecs_meaning.specs.Fits.{array_codec_fits}
use Rattle.zarr_codecs_meaning.specs.Places.{gather, encoded_shape, source_places, undone_places, position_of, part_of}
use Rattle.zarr_codecs_meaning.proofs.ArrayCodecs.{length-gather, array_codec_count}
use Rattle.zarr_codecs_meaning.proofs.Covers.{array_codec_covers, zeros}
use Rattle.zarr_codecs_meaning.proofs.Once.{array_codec_once}
use Rattle.zarr_codecs_meaning.proofs.Positions.{position_found, position_read}
use Rattle.zarr_codecs_traits.specs.Indexers.{in_box, numbers_asked, shape_has}
use Rattle.zarr_codecs_boxes.specs.Regions.{encoded_region}
use Rattle.zarr_codecs_boxes.specs.Updates.{IsBoxIn}
use Rattle.zarr_codecs_boxes.proofs.Lying.{read_all}
use Rattle.zarr_codecs_boxes.proofs.Moved.{fits_box, region_read, update_encoded, update_of}
use Rattle.zarr_codecs_boxes.proofs.Puts.{length-numbers}

-- ---- an array whose cells are the numbers of their places

-- the cell that is a number
abbrev numbered : ℕ → Cell
numbered n = of_bytes (n ∷ [])

same_number : (a b : ℕ) → numbered a ≡ numbered b → a ≡ b
same_number a b same = cc

abbrev numbers_to : ℕ → List Cell
numbers_to count = map numbered (range_with_len 0 count)

numbers_read : (count n : ℕ) → n < count → get_or (numbers_to count) n (numbered 0) ≡ numbered n
numbers_read count n below = get_or-map-range_with_len numbered 0 count n n (numbered 0) below (omega arith)

numbers_long : (count : ℕ) → length (numbers_to count) ≡ count
numbers_long count = length-map (range_with_len 0 count) numbered ∙ length-range_with_len 0 count

-- ---- the numbers of a box's places

from_zero : (shape p : List ℕ) → is_in_box (zeros shape) shape p ≡ true → each2 (λ p s. p - s) p (zeros shape) ≡ p
from_zero [] [] h = refl
from_zero [] (n ∷ p) h = absurd (cc)
from_zero (e ∷ shape) [] h = refl
from_zero (e ∷ shape) (n ∷ p) h =
    let z : n - 0 ≡ n = omega arith in
    ap (λ k. k ∷ each2 (λ p s. p - s) p (zeros shape)) z ∙ ap (λ ks. n ∷ ks) (from_zero shape p (and_parts (nat_le 0 n && nat_lt n (0 + e)) (is_in_box (zeros shape) shape p) h).1)

number_below : (shape p : List ℕ) → is_in_box (zeros shape) shape p ≡ true → ravel p shape < product shape
number_below shape p h =
    let b = ravel_below (each2 (λ p s. p - s) p (zeros shape)) shape (in_box_below (zeros shape) shape p h) in
    omega (arith, b, ap (λ q. ravel q shape) (from_zero shape p h))

-- each is below the number of places of the array
pub asked_below : (shape : List ℕ) (region : Region) (i : ℕ) → shape_has shape region ≡ true → i < length (numbers_asked shape (in_box region)) → get_or (numbers_asked shape (in_box region)) i 0 < product shape
asked_below shape region i lies low =
    let number = λ (place : List ℕ). ravel place shape in
    let all = places region.start region.shape in
    let test = λ (place : List ℕ). is_in_box (zeros shape) shape place in
    let here : i < length all = omega (arith, low, length-map all number) in
    let inside = read_all test all i [] (and_parts (length region.start == length shape) (list_all test all) lies).1 here in
    let below = number_below shape (get_or all i []) inside in
    omega (arith, below, get_or-map number all i [] 0 here)

-- the box lies in the encoded array
pub moved_in : (codec : ArrayCodec) (shape : List ℕ) (region moved : Region) → array_codec_fits codec shape ≡ true → IsBoxIn shape region → encoded_region codec shape region ≡ Some moved → IsBoxIn (encoded_shape codec shape) moved
moved_in codec shape region moved fit is h =
    let fill = numbered 0 in
    let cells = numbers_to (product shape) in
    let ns = (part_of shape region).places in
    let own = gather fill cells ns in
    let turned = gather fill own (source_places codec region.shape) in
    let count : length own ≡ product region.shape = length-gather fill cells ns ∙ length-numbers shape region (sym is.dimensions) in
    (update_encoded fill codec shape (update_of own region) (update_of turned moved) cells fit (record { box = is; count = count }) (numbers_long (product shape)) (ap (option_map (update_of turned)) h)).0.box

-- the numbers of the moved box are those of the box, each as the codec moves it, in the order of the codec
pub box_numbers : (codec : ArrayCodec) (shape : List ℕ) (region moved : Region) → array_codec_fits codec shape ≡ true → IsBoxIn shape region → encoded_region codec shape region ≡ Some moved
    → numbers_asked (encoded_shape codec shape) (in_box moved)
    ≡ map (λ k. get_or (map (λ n. position_of n (source_places codec shape)) (numbers_asked shape (in_box region))) k 0) (source_places codec region.shape)
box_numbers codec shape region moved fit is h = fill_by_all (λ j. get_or before (get_or order j 0) 0) after (length order) 0 long at ∙ sym (fill_by_all (λ j. get_or before (get_or order j 0) 0) (map (λ k. get_or before k 0) order) (length order) 0 (length-map order (λ k. get_or before k 0)) (λ j low. get_or-map (λ k. get_or before k 0) order j 0 0 low)) where
  fill : Cell
  fill = numbered 0

  cells : List Cell
  cells = numbers_to (product shape)

  sources : List ℕ
  sources = source_places codec shape

  numbers : List ℕ
  numbers = numbers_asked shape (in_box region)

  before : List ℕ
  before = map (λ n. position_of n sources) numbers

  after : List ℕ
  after = numbers_asked (encoded_shape codec shape) (in_box moved)

  order : List ℕ
  order = source_places codec region.shape

  read : gather fill (gather fill cells sources) after ≡ gather fill (gather fill cells numbers) order
  read = region_read fill codec shape region moved cells fit is (numbers_long (product shape)) h

  long : length after ≡ length order
  long = sym (length-gather fill (gather fill cells sources) after) ∙ (ap (λ (found : List Cell). length found) read ∙ length-gather fill (gather fill cells numbers) order)

  at : (j : ℕ) → j < length order → get_or after j 0 ≡ get_or before (get_or order j 0) 0
  at j low =
      let k = get_or after j 0 in
      let i = get_or order j 0 in
      let low_after : j < length after = omega (arith, low, long) in
      let low_k : k < length sources = let b = asked_below (encoded_shape codec shape) moved j (moved_in codec shape region moved fit is h).inside low_after in omega (arith, b, array_codec_count codec shape fit) in
      let once = array_codec_once codec shape fit in
      let low_i : i < length numbers = let b = (array_codec_once codec region.shape (fits_box codec shape region moved fit is h)).below j low in omega (arith, b, length-numbers shape region (sym is.dimensions)) in
      let source = get_or sources k 0 in
      let number = get_or numbers i 0 in
      let left : get_or (gather fill (gather fill cells sources) after) j fill ≡ numbered source =
      get_or-map (λ n. get_or (gather fill cells sources) n fill) after j 0 fill low_after ∙ (get_or-map (λ n. get_or cells n fill) sources k 0 fill low_k ∙ numbers_read (product shape) source (once.below k low_k)) in
      let right : get_or (gather fill (gather fill cells numbers) order) j fill ≡ numbered number =
      get_or-map (λ n. get_or (gather fill cells numbers) n fill) order j 0 fill low ∙ (get_or-map (λ n. get_or cells n fill) numbers i 0 fill low_i ∙ numbers_read (product shape) number (asked_below shape region i is.inside low_i)) in
      let same : source ≡ number = same_number source number (sym left ∙ (ap (λ (found : List Cell). get_or found j fill) read ∙ right)) in
      sym (once.position k low_k) ∙ (ap (λ n. position_of n sources) same ∙ sym (get_or-map (λ n. position_of n sources) numbers i 0 0 low_i))

-- and back
pub box_undone : (codec : ArrayCodec) (shape : List ℕ) (region moved : Region) → array_codec_fits codec shape ≡ true → IsBoxIn shape region → encoded_region codec shape region ≡ Some moved
    → map (λ n. position_of n (source_places codec shape)) (numbers_asked shape (in_box region))
    ≡ map (λ k. get_or (numbers_asked (encoded_shape codec shape) (in_box moved)) k 0) (undone_places codec region.shape)
box_undone codec shape region moved fit is h =
    fill_by_all f before count 0 long_before at ∙ sym (fill_by_all f (map (λ k. get_or after k 0) undone) count 0 (length-map undone (λ k. get_or after k 0) ∙ long_undone) (λ i low. get_or-map (λ k. get_or after k 0) undone i 0 0 (omega (arith, low, long_undone)))) where
      count : ℕ
      count = product region.shape

      order : List ℕ
      order = source_places codec region.shape

      before : List ℕ
      before = map (λ n. position_of n (source_places codec shape)) (numbers_asked shape (in_box region))

      after : List ℕ
      after = numbers_asked (encoded_shape codec shape) (in_box moved)

      undone : List ℕ
      undone = undone_places codec region.shape

      f : ℕ → ℕ
      f i = get_or after (get_or undone i 0) 0

      long_undone : length undone ≡ count
      long_undone = length-map (range_with_len 0 count) (λ n. position_of n order) ∙ length-range_with_len 0 count

      long_before : length before ≡ count
      long_before = length-map (numbers_asked shape (in_box region)) (λ n. position_of n (source_places codec shape)) ∙ length-numbers shape region (sym is.dimensions)

      at : (i : ℕ) → i < count → get_or before i 0 ≡ f i
      at i low =
          let u = get_or undone i 0 in
          let told : u ≡ position_of i order = get_or-map-range_with_len (λ n. position_of n order) 0 count i i 0 low (omega arith) in
          let found = position_found i order (array_codec_covers codec region.shape (fits_box codec shape region moved fit is h) i low) in
          let here : u < length order = omega (arith, told, found) in
          let back : get_or order u 0 ≡ i = ap (λ k. get_or order k 0) told ∙ position_read i 0 order found in
          sym (ap (λ (ns : List ℕ). get_or ns u 0) (box_numbers codec shape region moved fit is h) ∙ (get_or-map (λ k. get_or before k 0) order u 0 0 here ∙ ap (λ k. get_or before k 0) back))
