-- Elements of one size put over those of a box of an array, as bytes and as what is put at the box's places.
use Rattle.std.proofs.Common.{◌≡◌, ◌∙◌, inl, inr, ℕ, ◌-◌, ◌*◌, ◌/◌, ◌%◌, ◌<◌, Bool, true, false, ◌&&◌, cond, nat_le, nat_lt, ◌+◌, List, [], ◌∷◌, ◌++◌, length, map, get_or, drop, refl, sym, ap, ap₂, arith, length-append, Some, option_and_then}
use Rattle.std.specs.List.{flat_map, range_with_len}
use Rattle.std.proofs.Math.Nat.{mul-div_left, mul-mod_left}
use Rattle.std.proofs.lemmas.Bool.{and_parts}
use Rattle.std.proofs.lemmas.List.{get_or-map, length-map, length-replicate, length-take-le, same_lists}
use Rattle.std.proofs.lemmas.List.Folds.{flat_map-map}
use Rattle.zarr_grids_boxes.specs.Boxes.{Region, product, places, place_at, ravel, each2, is_in_box}
use Rattle.zarr_grids_boxes.specs.Laid.{laid, overlaid, HasWidth}
use Rattle.zarr_grids_boxes.proofs.Dimensions.{ravel_below}
use Rattle.zarr_grids_boxes.proofs.InBox.{in_box-place_at, length-places, place_at-number, ravel-place_at}
use Rattle.zarr_grids_boxes.proofs.Places.{in_box_below, places_by_number}
use Rattle.zarr_grids_boxes.proofs.Walking.{get_or-places}
use Rattle.zarr_grids_overlay.specs.Overlays.{IsOverlaid}
use Rattle.zarr_grids_overlay.proofs.Blocks.{blocks_congr}
use Rattle.zarr_grids_overlay.proofs.Overlays.{HasWidth-overlaid}
use Rattle.zarr_codecs_meaning.specs.Payloads.{cells_in, fixed, fixed_cells, fixed_in}
use Rattle.zarr_codecs_meaning.specs.Types.{Cell, DataType, byte_width, of_bytes}
use Rattle.zarr_codecs_meaning.proofs.Covers.{zeros, length-zeros, ravel_place}
use Rattle.zarr_codecs_meaning.proofs.Lists.{zero_list}
use Rattle.zarr_codecs_arrays.proofs.FixedCells.{fixed_in-some, fixed_in-whole, get_or-fixed_cells, length-fixed_cells}
use Rattle.zarr_codecs_traits.specs.Indexers.{shape_has, numbers_of}
use Rattle.zarr_codecs_regions.specs.Updates.{put}
use Rattle.zarr_codecs_regions.proofs.Extracts.{array_laid, bytes_of_place, element_bytes, element_within, elements_are, laid_cells, place_width, zeros_are}
use Rattle.zarr_codecs_regions.proofs.InsideArray.{each_place, inside_places}
use Rattle.zarr_codecs_regions.proofs.PutPlaces.{length-put, put_cases}

-- ---- the bytes of a box

-- the number of a place among those of a box
abbrev pub number_in : Region → List ℕ → ℕ
number_in region place = ravel (each2 (λ p s. p - s) place region.start) region.shape

-- the bytes of the element at a place of a box
abbrev pub bytes_in_box : ℕ → List ℕ → Region → List ℕ → List ℕ
bytes_in_box width bytes region place = element_bytes width bytes (number_in region place)

box_width : (width : ℕ) (bytes : List ℕ) (region : Region) → HasWidth width (bytes_in_box width bytes region)
box_width width bytes region place =
    let front = drop (number_in region place * width) bytes in
    length-take-le width (front ++ zero_list width) (omega (arith, length-append front (zero_list width), length-replicate {A = ℕ} width 0))

box_laid : (width : ℕ) (bytes : List ℕ) (region : Region) → 0 < width → length region.start ≡ length region.shape → length bytes ≡ product region.shape * width → bytes ≡ laid (bytes_in_box width bytes region) region.start region.shape
box_laid width bytes region some rank whole =
    let at = place_at region.start region.shape in
    let count = product region.shape in
    sym (ap (flat_map (bytes_in_box width bytes region)) (places_by_number region.start region.shape rank)
    ∙ (flat_map-map (bytes_in_box width bytes region) at (range_with_len 0 count)
    ∙ (blocks_congr (λ n. bytes_in_box width bytes region (at n)) (element_bytes width bytes) 0 count (λ n low below. ap (element_bytes width bytes) (ravel-place_at region.start region.shape n rank (omega arith)))
    ∙ elements_are width count bytes some whole)))

-- ---- places of a box that lies in an array

from_zero : (shape p : List ℕ) → is_in_box (zeros shape) shape p ≡ true → each2 (λ p s. p - s) p (zeros shape) ≡ p
from_zero [] [] h = refl
from_zero [] (n ∷ p) h = absurd (cc)
from_zero (e ∷ shape) [] h = refl
from_zero (e ∷ shape) (n ∷ p) h =
    let z : n - 0 ≡ n = omega arith in
    ap (λ k. k ∷ each2 (λ p s. p - s) p (zeros shape)) z ∙ ap (λ ks. n ∷ ks) (from_zero shape p (and_parts (nat_le 0 n && nat_lt n (0 + e)) (is_in_box (zeros shape) shape p) h).1)

-- a place of an array has the place's number
place_again : (shape p : List ℕ) → is_in_box (zeros shape) shape p ≡ true → place_at (zeros shape) shape (ravel p shape) ≡ p
place_again shape p h = ap (λ q. place_at (zeros shape) shape (ravel q shape)) (sym (from_zero shape p h)) ∙ place_at-number (zeros shape) shape p h

-- the number, in the array, of a place of the box
number_read : (shape : List ℕ) (region : Region) (a : ℕ) → length region.start ≡ length region.shape → a < product region.shape → get_or (numbers_of shape region) a 0 ≡ ravel (place_at region.start region.shape a) shape
number_read shape region a rank low =
    let ps = places region.start region.shape in
    let many = length-places region.start region.shape rank in
    get_or-map (λ place. ravel place shape) ps a [] 0 (omega (arith, low, many)) ∙ ap (λ place. ravel place shape) (get_or-places region.start region.shape a [] rank low)

pub length-numbers : (shape : List ℕ) (region : Region) → length region.start ≡ length region.shape → length (numbers_of shape region) ≡ product region.shape
length-numbers shape region rank = length-map (places region.start region.shape) (λ place. ravel place shape) ∙ length-places region.start region.shape rank

-- ---- a box put over an array

-- the elements of a box were put over those of an array
pub record IsBoxPut (width : ℕ) (shape : List ℕ) (region : Region) (start ss es before given after : List ℕ) : Type 0 where
  pub some : 0 < width
  pub whole : length before ≡ product shape * width
  pub long : length given ≡ product region.shape * width
  pub inside : shape_has shape region ≡ true
  pub rank : length region.start ≡ length region.shape
  pub start_is : start ≡ zero_list (length shape)
  pub ss_is : ss ≡ region.start
  pub es_is : es ≡ region.shape
  pub over : IsOverlaid width (record { start = start; shape = shape }) (record { start = ss; shape = es }) before given after

module _ (width : ℕ) (shape : List ℕ) (region : Region) (start ss es before given after : List ℕ) (is : IsBoxPut width shape region start ss es before given after) where
  abbrev old : List ℕ → List ℕ
  old = bytes_of_place width before shape

  abbrev new : List ℕ → List ℕ
  new = bytes_in_box width given region

  abbrev texts : List ℕ → List ℕ
  texts = overlaid region.start region.shape new old

  texts_width : HasWidth width texts
  texts_width = HasWidth-overlaid width region.start region.shape new old (place_width width before shape) (box_width width given region)

  after_laid : after ≡ laid texts (zeros shape) shape
  after_laid =
      let first : start ≡ zeros shape = is.start_is ∙ zeros_are shape in
      let sides : laid new ss es ≡ laid new region.start region.shape = ap (λ a. laid new a es) is.ss_is ∙ ap (laid new region.start) is.es_is in
      is.over old new (place_width width before shape) (box_width width given region)
      (array_laid width before shape is.some is.whole ∙ ap (λ a. laid old a shape) (sym first))
      (box_laid width given region is.some is.rank is.long ∙ sym sides)
      ∙ (ap (λ a. laid (overlaid a es new old) start shape) is.ss_is
      ∙ (ap (λ b. laid (overlaid region.start b new old) start shape) is.es_is ∙ ap (λ a. laid texts a shape) first))

  cells_are : fixed_cells width after ≡ map (λ p. of_bytes (texts p)) (places (zeros shape) shape)
  cells_are = ap (fixed_cells width) after_laid ∙ laid_cells width texts (places (zeros shape) shape) is.some texts_width

  cells_many : length (fixed_cells width after) ≡ product shape
  cells_many = ap length cells_are ∙ (length-map (places (zeros shape) shape) (λ p. of_bytes (texts p)) ∙ length-places (zeros shape) shape (length-zeros shape))

  -- how many elements there were, and are given
  before_many : length before / width ≡ product shape
  before_many = ap (λ n. n / width) is.whole ∙ mul-div_left (product shape) is.some

  given_many : length given / width ≡ product region.shape
  given_many = ap (λ n. n / width) is.long ∙ mul-div_left (product region.shape) is.some

  cell_read : (n : ℕ) (d : Cell) → n < product shape → get_or (fixed_cells width after) n d ≡ of_bytes (texts (place_at (zeros shape) shape n))
  cell_read n d below =
      let ps = places (zeros shape) shape in
      let many = length-places (zeros shape) shape (length-zeros shape) in
      ap (λ cs. get_or cs n d) cells_are
      ∙ (get_or-map (λ p. of_bytes (texts p)) ps n [] d (omega (arith, below, many)) ∙ ap (λ p. of_bytes (texts p)) (get_or-places (zeros shape) shape n [] (length-zeros shape) below))

  -- a place of the box has the new element
  cell_put : (a n : ℕ) (d : Cell) → a < product region.shape → get_or (numbers_of shape region) a 0 ≡ n → of_bytes (texts (place_at (zeros shape) shape n)) ≡ get_or (fixed_cells width given) a d
  cell_put a n d low here =
      let q = place_at region.start region.shape a in
      let in_region : is_in_box region.start region.shape q ≡ true = in_box-place_at region.start region.shape a is.rank low in
      let in_array : is_in_box (zeros shape) shape q ≡ true = each_place (is_in_box (zeros shape) shape) region.start region.shape q is.rank (inside_places shape region is.inside) in_region in
      let same : place_at (zeros shape) shape n ≡ q = ap (place_at (zeros shape) shape) (sym here ∙ number_read shape region a is.rank low) ∙ place_again shape q in_array in
      ap (λ p. of_bytes (texts p)) same
      ∙ (ap (λ (b : Bool). of_bytes (cond b (new q) (old q))) in_region
      ∙ (ap (λ k. of_bytes (element_bytes width given k)) (ravel-place_at region.start region.shape a is.rank low)
      ∙ (ap of_bytes (element_within width given a (product region.shape) is.long low)
      ∙ sym (get_or-fixed_cells width given a d (omega (arith, low, given_many))))))

  -- any other place has the element that it had
  cell_kept : (n : ℕ) (d : Cell) → n < product shape → is_in_box region.start region.shape (place_at (zeros shape) shape n) ≡ false → of_bytes (texts (place_at (zeros shape) shape n)) ≡ get_or (fixed_cells width before) n d
  cell_kept n d below out =
      let p = place_at (zeros shape) shape n in
      ap (λ (b : Bool). of_bytes (cond b (new p) (old p))) out
      ∙ (ap (λ k. of_bytes (element_bytes width before k)) (ravel_place shape n below)
      ∙ (ap of_bytes (element_within width before n (product shape) is.whole below)
      ∙ sym (get_or-fixed_cells width before n d (omega (arith, below, before_many)))))

  -- where no element is put the place isn't one of the box
  outside : (n : ℕ) (b : Bool) → n < product shape → ((a : ℕ) → a < length (numbers_of shape region) → get_or (numbers_of shape region) a 0 ≡ n → ⊥) → is_in_box region.start region.shape (place_at (zeros shape) shape n) ≡ b → b ≡ false
  outside n false below none e = refl
  outside n true below none e =
      let p = place_at (zeros shape) shape n in
      let a = number_in region p in
      let low : a < product region.shape = ravel_below (each2 (λ p s. p - s) p region.start) region.shape (in_box_below region.start region.shape p e) in
      let here : get_or (numbers_of shape region) a 0 ≡ n =
      number_read shape region a is.rank low ∙ (ap (λ place. ravel place shape) (place_at-number region.start region.shape p e) ∙ ravel_place shape n below) in
      absurd (none a (omega (arith, low, length-numbers shape region is.rank)) here)

  cell_is : (n : ℕ) (d : Cell) → n < product shape → get_or (fixed_cells width after) n d ≡ get_or (put (numbers_of shape region) (fixed_cells width given) (fixed_cells width before)) n d
  cell_is n d below =
      let ns = numbers_of shape region in
      let gs = fixed_cells width given in
      let bs = fixed_cells width before in
      cell_read n d below
      ∙ elim (put_cases ns gs bs n d (length-fixed_cells width given ∙ (given_many ∙ sym (length-numbers shape region is.rank))) (omega (arith, below, length-fixed_cells width before, before_many))) [
        | inl was ↦ let low = was.below in cell_put was.at_ n d (omega (arith, low, length-numbers shape region is.rank)) was.there ∙ sym was.is
        | inr kept ↦ cell_kept n d below (outside n (is_in_box region.start region.shape (place_at (zeros shape) shape n)) below kept.none refl) ∙ sym kept.is
      ]

  -- the elements of the array are then those that are put at the box's places
  pub box_put : fixed_cells width after ≡ put (numbers_of shape region) (fixed_cells width given) (fixed_cells width before)
  box_put =
      same_lists (fixed_cells width after) (put (numbers_of shape region) (fixed_cells width given) (fixed_cells width before))
      (cells_many ∙ sym (length-put (numbers_of shape region) (fixed_cells width given) (fixed_cells width before) ∙ (length-fixed_cells width before ∙ before_many)))
      (λ n d below. cell_is n d (omega (arith, below, cells_many)))

-- ---- as elements of a type

pub stretches_put : (type : DataType) (width : ℕ) (shape : List ℕ) (region : Region) (before given after : List ℕ) (olds others : List Cell) → byte_width type ≡ Some width → 0 < width → length before ≡ product shape * width → length after ≡ length before
    → fixed_cells width after ≡ put (numbers_of shape region) (fixed_cells width given) (fixed_cells width before)
    → cells_in type (fixed before) ≡ Some olds → cells_in type (fixed given) ≡ Some others → cells_in type (fixed after) ≡ Some (put (numbers_of shape region) others olds)
stretches_put type width shape region before given after olds others told some whole same is b g =
    let of_type : (bytes : List ℕ) → cells_in type (fixed bytes) ≡ fixed_in width bytes = λ bytes. ap (option_and_then (λ n. fixed_in n bytes)) told in
    let olds_are = fixed_in-whole width before olds (sym (of_type before) ∙ b) in
    let new_are = fixed_in-whole width given others (sym (of_type given) ∙ g) in
    let even : length after % width ≡ 0 = ap (λ n. n % width) (same ∙ whole) ∙ mul-mod_left (product shape) width in
    of_type after ∙ (fixed_in-some width after some even ∙ ap Some (is ∙ ap₂ (put (numbers_of shape region)) (sym new_are.is) (sym olds_are.is)))
