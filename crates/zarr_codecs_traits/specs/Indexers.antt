-- Places of an array that a call asks for.
use Rattle.std.specs.Prelude.{ℕ, List, [], ◌∷◌, map, length, set, Bool, ◌==◌, ◌&&◌, nat_lt}
use Rattle.std.specs.List.{list_all}
use Rattle.zarr_grids_boxes.specs.Boxes.{Region, product, places, is_in_box, ravel}
use Rattle.zarr_grids_boxes.specs.Subsets.{region_of}
use Rattle.zarr_codecs_traits.specs.declared.indexer.Indexer.{Indexer}
use Rattle.zarr_codecs_traits.specs.declared.indexer.Indexer.TheVariants as indexer

-- places that are asked for: those of a box, row-major, or some by their row-major numbers
pub data Asked : Type 0 where
  in_box : Region → Asked
  listed : List ℕ → Asked

-- the places that an indexer asks for
abbrev pub asked_of : Indexer → Asked
asked_of (indexer.Subset subset) = in_box (region_of subset.now)
asked_of (indexer.List numbers) = listed numbers.now

-- whether a shape has a box: the box is of as many dimensions, and each of its places lies in the shape
abbrev pub shape_has : List ℕ → Region → Bool
shape_has shape region = (length region.start == length shape) && list_all (λ place. is_in_box (map (λ size. 0) shape) shape place) (places region.start region.shape)

-- the numbers of the places of a box in a shape, row-major
abbrev pub numbers_of : List ℕ → Region → List ℕ
numbers_of shape region = map (λ place. ravel place shape) (places region.start region.shape)

-- whether all places that are asked for are places of a shape
abbrev pub are_inside : List ℕ → Asked → Bool
are_inside shape (in_box region) = shape_has shape region
are_inside shape (listed numbers) = list_all (λ n. nat_lt n (product shape)) numbers

-- the numbers of the places that are asked for
abbrev pub numbers_asked : List ℕ → Asked → List ℕ
numbers_asked shape (in_box region) = numbers_of shape region
numbers_asked shape (listed numbers) = numbers

-- what a list holds after others were put at these places of it, one after another: at a place that is there twice the last one stays
abbrev pub put : {X : Type 0} → List ℕ → List X → List X → List X
put [] given before = before
put (n ∷ ns) [] before = before
put (n ∷ ns) (x ∷ xs) before = put ns xs (set before n x)
