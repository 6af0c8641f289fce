-- Elements by their numbers, and other elements put over them.
use Rattle.std.proofs.Common.{◌≡◌, ◌∙◌, ℕ, suc, ◌-◌, ◌<◌, Bool, true, false, ◌&&◌, nat_lt, List, [], ◌∷◌, length, get_or, refl, sym, ap, arith, ◌⊎◌, inl, inr}
use Rattle.std.specs.List.{list_all}
use Rattle.std.proofs.lemmas.Bool.{false≢true, lt-ltb}
use Rattle.std.proofs.lemmas.List.{length-map, get_or-map}
use Rattle.zarr_grids_boxes.specs.Boxes.{Region, product, place_at, is_in_box}
use Rattle.zarr_grids_boxes.proofs.InBox.{in_box-place_at, ravel-place_at}
use Rattle.zarr_codecs_meaning.specs.Places.{gather}
use Rattle.zarr_codecs_meaning.specs.Types.{Cell}
use Rattle.zarr_codecs_regions.specs.Updates.{put}
use Rattle.zarr_codecs_regions.proofs.PutPlaces.{WasKept, WasPut, length-put, put_cases}
use Rattle.zarr_array_meaning.specs.Boxes.{cell_of_box}
use Rattle.zarr_array_meaning.specs.Chunks.{number_in}
use Rattle.zarr_array_elements.specs.Boxes.{IsWithin, AreTakenOut, ArePutOver, cells_at}
use Rattle.zarr_array_elements.proofs.FixedCells.{number_below}
use Rattle.zarr_array_elements.proofs.Moved.{numbers_there, length-there, number_there, number_of_place, one_place}

-- ---- the numbers of the places of a box in another one

-- no two of these numbers are one
abbrev pub AreDistinct : List ℕ → Type 0
AreDistinct ns = (j k : ℕ) → j < length ns → k < length ns → get_or ns j 0 ≡ get_or ns k 0 → j ≡ k

there_distinct : (box at_box : Region) → length at_box.start ≡ length at_box.shape → IsWithin at_box box → AreDistinct (numbers_there box at_box)
there_distinct box at_box rank inside j k a b e =
    let low : j < product at_box.shape = omega (arith, a, length-there box at_box rank) in
    let under : k < product at_box.shape = omega (arith, b, length-there box at_box rank) in
    let at = place_at at_box.start at_box.shape in
    let same : at j ≡ at k = one_place box (at j) (at k) (inside (at j) (in_box-place_at at_box.start at_box.shape j rank low)) (inside (at k) (in_box-place_at at_box.start at_box.shape k rank under))
    (sym (number_there box at_box j rank low) ∙ (e ∙ number_there box at_box k rank under)) in
    sym (ravel-place_at at_box.start at_box.shape j rank low) ∙ (ap (number_in at_box) same ∙ ravel-place_at at_box.start at_box.shape k rank under)

-- the cell at a place, of those with these numbers
cell_shown : (fill : Cell) (box : Region) (cells : List Cell) (numbers place : List ℕ) → length numbers ≡ product box.shape → is_in_box box.start box.shape place ≡ true
    → cell_of_box box (gather fill cells numbers) fill place ≡ get_or cells (get_or numbers (number_in box place) 0) fill
cell_shown fill box cells numbers place many t = get_or-map (λ n. get_or cells n fill) numbers (number_in box place) 0 fill (let b = number_below box place t in omega (arith, b, many))

-- numbers that are all below a count
pub all_below : (count : ℕ) (ns : List ℕ) → ((k : ℕ) → k < length ns → get_or ns k 0 < count) → list_all (λ n. nat_lt n count) ns ≡ true
all_below count [] h = refl
all_below count (n ∷ ns) h =
    ap (λ (b : Bool). b && list_all (λ m. nat_lt m count) ns) (lt-ltb n count (h 0 (omega arith))) ∙ all_below count ns (λ k below. h (suc k) (omega (arith, below)))

-- ---- elements put at the places of a box, by their numbers

-- a place of that box has the new element of that place
put_there : (fill : Cell) (box at_box : Region) (before part : List Cell) (place : List ℕ) → length at_box.start ≡ length at_box.shape → IsWithin at_box box → is_in_box at_box.start at_box.shape place ≡ true
    → WasPut (numbers_there box at_box) part before (number_in box place) fill ⊎ WasKept (numbers_there box at_box) part before (number_in box place) fill
    → get_or (put (numbers_there box at_box) part before) (number_in box place) fill ≡ get_or part (number_in at_box place) fill
put_there fill box at_box before part place rank inside r (inl was) =
    let k = number_in at_box place in
    let low : k < length (numbers_there box at_box) = let b = number_below at_box place r in omega (arith, b, length-there box at_box rank) in
    let same : was.at_ ≡ k = there_distinct box at_box rank inside was.at_ k was.below low (was.there ∙ sym (number_of_place box at_box place rank r)) in
    was.is ∙ ap (λ i. get_or part i fill) same
put_there fill box at_box before part place rank inside r (inr kept) =
    let low : number_in at_box place < length (numbers_there box at_box) = let b = number_below at_box place r in omega (arith, b, length-there box at_box rank) in
    absurd (kept.none (number_in at_box place) low (number_of_place box at_box place rank r))

-- any other place has what it had
kept_elsewhere : (fill : Cell) (box at_box : Region) (before part : List Cell) (place : List ℕ) → length at_box.start ≡ length at_box.shape → IsWithin at_box box → is_in_box at_box.start at_box.shape place ≡ false → is_in_box box.start box.shape place ≡ true
    → WasPut (numbers_there box at_box) part before (number_in box place) fill ⊎ WasKept (numbers_there box at_box) part before (number_in box place) fill
    → get_or (put (numbers_there box at_box) part before) (number_in box place) fill ≡ get_or before (number_in box place) fill
kept_elsewhere fill box at_box before part place rank inside out t (inl was) =
    let under = was.below in
    let low : was.at_ < product at_box.shape = omega (arith, under, length-there box at_box rank) in
    let there = place_at at_box.start at_box.shape was.at_ in
    let here : is_in_box at_box.start at_box.shape there ≡ true = in_box-place_at at_box.start at_box.shape was.at_ rank low in
    let same : there ≡ place = one_place box there place (inside there here) t (sym (number_there box at_box was.at_ rank low) ∙ was.there) in
    absurd (false≢true (sym out ∙ (ap (is_in_box at_box.start at_box.shape) (sym same) ∙ here)))
kept_elsewhere fill box at_box before part place rank inside out t (inr kept) = kept.is

-- an element was put at a place, or none
put_or_kept : (fill : Cell) (box at_box : Region) (before part : List Cell) (place : List ℕ) → length at_box.start ≡ length at_box.shape → length before ≡ product box.shape → length part ≡ product at_box.shape → is_in_box box.start box.shape place ≡ true
    → WasPut (numbers_there box at_box) part before (number_in box place) fill ⊎ WasKept (numbers_there box at_box) part before (number_in box place) fill
put_or_kept fill box at_box before part place rank whole counted t =
    let many : length part ≡ length (numbers_there box at_box) = counted ∙ sym (length-there box at_box rank) in
    put_cases (numbers_there box at_box) part before (number_in box place) fill many (let b = number_below box place t in omega (arith, b, whole))

-- the elements of a box after those of a box in it were put at its places
pub put_at_box : (fill : Cell) (box at_box : Region) (before part : List Cell) → length at_box.start ≡ length at_box.shape → IsWithin at_box box → length before ≡ product box.shape → length part ≡ product at_box.shape
    → ArePutOver fill (cells_at at_box part) (cells_at box before) (put (numbers_there box at_box) part before)
put_at_box fill box at_box before part rank inside whole counted = record {
  many = length-put (numbers_there box at_box) part before ∙ whole;
  put = λ place r t. put_there fill box at_box before part place rank inside r (put_or_kept fill box at_box before part place rank whole counted t);
  kept = λ place r t. kept_elsewhere fill box at_box before part place rank inside r t (put_or_kept fill box at_box before part place rank whole counted t);
}

-- ---- elements taken out by their numbers

pub numbered_taken : (fill : Cell) (box from : Region) (given : List Cell) → length box.start ≡ length box.shape → AreTakenOut fill box from given (gather fill given (numbers_there from box))
numbered_taken fill box from given rank = record {
  many = length-map (numbers_there from box) (λ n. get_or given n fill) ∙ length-there from box rank;
  same = λ place t. cell_shown fill box given (numbers_there from box) place (length-there from box rank) t ∙ ap (λ n. get_or given n fill) (number_of_place from box place rank t);
}

-- ---- elements taken out of those of a box, and put over those of another

pub put_taken : (fill : Cell) (box from shared : Region) (given part before made : List Cell) → ((place : List ℕ) → is_in_box shared.start shared.shape place ≡ (is_in_box from.start from.shape place && is_in_box box.start box.shape place))
    → AreTakenOut fill shared from given part → ArePutOver fill (cells_at shared part) (cells_at box before) made → ArePutOver fill (cells_at from given) (cells_at box before) made
put_taken fill box from shared given part before made both taken over = record {
  many = over.many;
  put = λ place r t.
      let inside : is_in_box shared.start shared.shape place ≡ true = both place ∙ (ap (λ (b : Bool). b && is_in_box box.start box.shape place) r ∙ t) in
      over.put place inside t ∙ taken.same place inside;
  kept = λ place r t. over.kept place (both place ∙ ap (λ (b : Bool). b && is_in_box box.start box.shape place) r) t;
}
