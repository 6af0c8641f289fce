-- Elements by the numbers of their places: what they show, and what they are after others were put over them.
use Rattle.std.proofs.Common.{◌≡◌, ◌∙◌, ℕ, List, length, get_or, refl, sym, ap, subst, arith}
use Rattle.std.proofs.lemmas.List.{length-map}
use Rattle.zarr_grids_boxes.specs.Boxes.{Region, product}
use Rattle.zarr_codecs_meaning.specs.Places.{gather}
use Rattle.zarr_codecs_meaning.specs.Types.{Cell, Elements}
use Rattle.zarr_codecs_arrays.specs.Views.{payload_of}
use Rattle.zarr_codecs_regions.specs.Updates.{put}
use Rattle.zarr_codecs_regions.proofs.PutPlaces.{length-put}
use Rattle.zarr_codecs_regions.proofs.Puts.{number_below}
use Rattle.zarr_sharding_places.specs.Placed.{Shows}
use Rattle.zarr_sharding_places.specs.declared.placed.PlacedElements.{PlacedElements}
use Rattle.zarr_array_elements.specs.Boxes.{cells_of, IsWithin, ArePutOver, cells_at}
use Rattle.zarr_array_elements.specs.Views.{AreNumbered, cells_numbered}
use Rattle.zarr_array_elements.proofs.ByNumber.{all_below, put_at_box}
use Rattle.zarr_array_elements.proofs.FixedPuts.{counted, known}
use Rattle.zarr_array_elements.proofs.Moved.{numbers_there, length-there}

-- ---- what is shown

pub length-numbered : (elements : Elements) (count : ℕ) (all : PlacedElements) → AreNumbered elements count all → length (cells_numbered elements all) ≡ count
length-numbered elements count all are = length-map all.numbers.items (λ n. get_or (cells_of elements.type (payload_of all.came)) n elements.fill) ∙ are.many

-- elements with a number for each place show the cells at the places
pub shows : (elements : Elements) (count : ℕ) (all : PlacedElements) → AreNumbered elements count all → Shows elements all (cells_numbered elements all)
shows elements count all are =
    let cells : List Cell = cells_of elements.type (payload_of all.came) in
    record {
      came = cells;
      lists = are.counted.lists;
      many = are.counted.many;
      low = all_below (length cells) all.numbers.items (λ k under. let low = are.low k (omega (arith, under, are.many)) in omega (arith, low, are.counted.many));
      is = refl;
    }

-- the cells at the places are those that are shown
pub cells_are : (elements : Elements) (all : PlacedElements) (cells : List Cell) → Shows elements all cells → cells_numbered elements all ≡ cells
cells_are elements all cells shown = ap (λ (came : List Cell). gather elements.fill came all.numbers.items) (known elements.type (payload_of all.came) shown.came shown.lists) ∙ shown.is

-- elements that show so many cells have a number for each of so many places
pub numbered : (elements : Elements) (count : ℕ) (all : PlacedElements) (cells : List Cell) → Shows elements all cells → length cells ≡ count → AreNumbered elements count all
numbered elements count all cells shown long =
    let many : length all.numbers.items ≡ count = sym (length-map all.numbers.items (λ n. get_or shown.came n elements.fill)) ∙ (ap length shown.is ∙ long) in
    record {
      counted = counted elements.type (payload_of all.came) shown.came all.count shown.lists shown.many;
      many = many;
      low = λ k below. let low = number_below (length shown.came) all.numbers.items k shown.low (omega (arith, below, many)) in omega (arith, low, shown.many);
    }

-- ---- the elements of a box, and others that are put over them

-- elements of a box with a number for each place, others for the places of a box that lies in it, and the numbers of these places
pub record ArePut (elements : Elements) (box at_box : Region) (all : PlacedElements) (part : List Cell) (places : List ℕ) : Type 0 where
  pub rank : length at_box.start ≡ length at_box.shape
  pub inside : IsWithin at_box box
  pub shown : AreNumbered elements (product box.shape) all
  pub whole : length part ≡ product at_box.shape
  pub same : places ≡ numbers_there box at_box

pub each_place : (elements : Elements) (box at_box : Region) (all : PlacedElements) (part : List Cell) (places : List ℕ) → ArePut elements box at_box all part places → length part ≡ length places
each_place elements box at_box all part places are = are.whole ∙ sym (ap length are.same ∙ length-there box at_box are.rank)

-- what shows the others at their places has a number for each place
pub numbered_after : (elements : Elements) (box at_box : Region) (all made : PlacedElements) (part : List Cell) (places : List ℕ) → ArePut elements box at_box all part places → Shows elements made (put places part (cells_numbered elements all))
    → AreNumbered elements (product box.shape) made
numbered_after elements box at_box all made part places are after =
    let before = cells_numbered elements all in
    numbered elements (product box.shape) made (put places part before) after (length-put places part before ∙ length-numbered elements (product box.shape) all are.shown)

-- and its cells are those of the box after the others were put over them
pub over_after : (elements : Elements) (box at_box : Region) (all made : PlacedElements) (part : List Cell) (places : List ℕ) → ArePut elements box at_box all part places → Shows elements made (put places part (cells_numbered elements all))
    → ArePutOver elements.fill (cells_at at_box part) (cells_at box (cells_numbered elements all)) (cells_numbered elements made)
over_after elements box at_box all made part places are after =
    let before = cells_numbered elements all in
    let cells : cells_numbered elements made ≡ put (numbers_there box at_box) part before = cells_are elements made (put places part before) after ∙ ap (λ (ns : List ℕ). put ns part before) are.same in
    subst (ArePutOver elements.fill (cells_at at_box part) (cells_at box before)) (sym cells)
    (put_at_box elements.fill box at_box before part are.rank are.inside (length-numbered elements (product box.shape) all are.shown) are.whole)
