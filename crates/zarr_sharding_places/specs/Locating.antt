-- The subchunk that a place of an array lies in.
use Rattle.std.specs.Prelude.{ℕ, ◌+◌, ◌-◌, ◌*◌, ◌/◌, ◌%◌, min, List, [], ◌∷◌, length, get_or, map}
use Rattle.std.specs.List.{range_with_len}
use Rattle.zarr_grids_boxes.specs.Boxes.{Region, product, place_at, ravel, each2}
use Rattle.zarr_codecs_meaning.specs.Places.{box_of, grid_of}
use Rattle.zarr_sharding_places.specs.declared.locating.AskedPlace.{AskedPlace}
use Rattle.zarr_sharding_places.specs.declared.locating.Axis.{Axis}
use Rattle.zarr_sharding_places.specs.declared.locating.Located.{Located}

-- the place with a number in an array of this shape
abbrev pub numbered : List ℕ → ℕ → List ℕ
numbered shape n = place_at (map (λ size. 0) shape) shape n

-- the box of the subchunk with a number, row-major; it is clipped to the whole
abbrev pub subchunk_box : List ℕ → List ℕ → ℕ → Region
subchunk_box shape subchunk k = box_of shape subchunk (numbered (grid_of shape subchunk) k)

-- the shape of the subchunk with a number
abbrev pub part_shape : List ℕ → List ℕ → ℕ → List ℕ
part_shape shape subchunk k = (subchunk_box shape subchunk k).shape

-- the index, in the grid of subchunks, of the one that a place lies in
abbrev pub block_of : List ℕ → List ℕ → ℕ → List ℕ
block_of shape subchunk n = each2 (λ x edge. x / edge) (numbered shape n) subchunk

-- the number, row-major, of the subchunk that a place lies in
abbrev pub subchunk_of : List ℕ → List ℕ → ℕ → ℕ
subchunk_of shape subchunk n = ravel (block_of shape subchunk n) (grid_of shape subchunk)

-- the number of a place in the subchunk that it lies in, row-major by that subchunk's own shape
abbrev pub inside_of : List ℕ → List ℕ → ℕ → ℕ
inside_of shape subchunk n = ravel (each2 (λ x edge. x % edge) (numbered shape n) subchunk) (box_of shape subchunk (block_of shape subchunk n)).shape

-- for each dimension: its size, the subchunk's edge, and how many places and subchunks the later dimensions have
abbrev pub axes_of : List ℕ → List ℕ → List ℕ → List Axis
axes_of [] edges counts = []
axes_of (size ∷ sizes) [] counts = []
axes_of (size ∷ sizes) (edge ∷ edges) [] = []
axes_of (size ∷ sizes) (edge ∷ edges) (count ∷ counts) =
    record { size = size; edge = edge; places = product sizes; subchunks = product counts } ∷ axes_of sizes edges counts

-- the numbers of the subchunk and of the place in it, by the axes, and how many places that subchunk has in these dimensions
abbrev pub located : List Axis → ℕ → Located
located [] n = record { subchunk = 0; inside = 0; count = 1 }
located (axis ∷ axes) n =
    let rest = located axes (n % axis.places) in
    let along = n / axis.places in
    let block = along / axis.edge in
    record {
      subchunk = block * axis.subchunks + rest.subchunk;
      inside = along % axis.edge * rest.count + rest.inside;
      count = min axis.edge (axis.size - block * axis.edge) * rest.count;
    }

-- a place that is asked for: its subchunk, its number in it, and where it stands among all that are asked for
abbrev pub asked_place : List ℕ → List ℕ → List ℕ → ℕ → AskedPlace
asked_place shape subchunk numbers t =
    record { subchunk = subchunk_of shape subchunk (get_or numbers t 0); inside = inside_of shape subchunk (get_or numbers t 0); position = t }

-- the places with these numbers, in their order
abbrev pub asked_places : List ℕ → List ℕ → List ℕ → List AskedPlace
asked_places shape subchunk numbers = map (asked_place shape subchunk numbers) (range_with_len 0 (length numbers))
