-- The laws of boxes and of numbers of indices.
use Rattle.std.specs.Prelude.{◌≡◌, ◌↔◌, ℕ, ◌<◌, Bool, true, false, ◌&&◌, List, length, map, slice_get, Some}
use Rattle.zarr_grids_boxes.specs.Boxes.{Region, product, places, is_in_box, share_place, ravel, IsIndex}
use Rattle.zarr_grids_boxes.specs.Cuts.{overlapped, bounded}
use Rattle.zarr_grids_boxes.specs.Walks.{unravel, number_in}

-- a box has a start and a length in each dimension
abbrev pub IsBox : Region → Type 0
IsBox box = length box.shape ≡ length box.start

-- whether a place lies in a box
abbrev pub has : Region → List ℕ → Bool
has box place = is_in_box box.start box.shape place

-- an index below the shape has a number below the product, and that number tells it
abbrev pub NumberTellsIndex : Type 0
NumberTellsIndex = (index shape : List ℕ) → IsIndex index shape → (ravel index shape < product shape) × (unravel shape (ravel index shape) ≡ index)

-- each number below the product is that of an index below the shape
abbrev pub NumberHasIndex : Type 0
NumberHasIndex = (shape : List ℕ) (n : ℕ) → n < product shape → IsIndex (unravel shape n) shape × (ravel (unravel shape n) shape ≡ n)

-- the overlap of two boxes has exactly the places in both
abbrev pub OverlapIsShared : Type 0
OverlapIsShared = (a b : Region) (place : List ℕ) → IsBox a → IsBox b → length a.start ≡ length b.start → has (overlapped a b) place ≡ (has a place && has b place)

-- the places of a bounded box are those of the box that lie below the end
abbrev pub BoundIsBelow : Type 0
BoundIsBelow = (box : Region) (end place : List ℕ) → IsBox box → length end ≡ length box.start → has (bounded box end) place ≡ (has box place && has (record { start = map (λ _. 0) end; shape = end }) place)

-- two boxes share a place exactly where a place lies in both
abbrev pub SharedPlaces : Type 0
SharedPlaces = (start shape other_start other_shape : List ℕ)
    → (share_place start shape other_start other_shape ≡ true → (place : List ℕ) × (is_in_box start shape place ≡ true) × (is_in_box other_start other_shape place ≡ true))
    × ((place : List ℕ) → is_in_box start shape place ≡ true → is_in_box other_start other_shape place ≡ true → share_place start shape other_start other_shape ≡ true)

-- a box has no place exactly where its product is 0
abbrev pub EmptyHasNoPlace : Type 0
EmptyHasNoPlace = (box : Region) → IsBox box → (product box.shape ≡ 0) ↔ ((place : List ℕ) → has box place ≡ false)

-- the n-th of the places is the place of the box whose number is n
abbrev pub PlacesByNumber : Type 0
PlacesByNumber = (box : Region) (n : ℕ) (place : List ℕ) → IsBox box → (slice_get (places box.start box.shape) n ≡ Some place) ↔ ((has box place ≡ true) × (number_in box place ≡ n))
