-- Places of an array as numbers, row-major: what array codecs and shards do to an array is a list of places to gather cells from.
use Rattle.std.specs.Prelude.{ℕ, ◌+◌, ◌-◌, ◌*◌, ◌/◌, min, List, [], ◌∷◌, ◌++◌, map, length, get_or, slice_index, not, ◌==◌}
use Rattle.std.specs.List.{range_with_len, position_or_len, filter}
use Rattle.zarr_grids_boxes.specs.Boxes.{Region, product, places, ravel, each2}
use Rattle.zarr_codecs_meaning.specs.Types.{Cell}
use Rattle.zarr_codecs_meaning.specs.Chains.{ArrayCodec, ShapeEntry}
use Rattle.zarr_codecs_meaning.specs.Chains.ArrayCodec.{transpose, reshape, squeeze}
use Rattle.zarr_codecs_meaning.specs.Chains.ShapeEntry.{size_entry, product_entry, left_over}

-- the cells at these places, in this order
abbrev pub gather : Cell → List Cell → List ℕ → List Cell
gather fill cells numbers = map (λ n. get_or cells n fill) numbers

-- the numbers of all places of a shape
abbrev pub place_numbers : List ℕ → List ℕ
place_numbers shape = range_with_len 0 (product shape)

-- all places of a shape, row-major
abbrev pub places_of : List ℕ → List (List ℕ)
places_of shape = places (map (λ size. 0) shape) shape

-- where a number stands in a list, or else the list's length
abbrev pub position_of : ℕ → List ℕ → ℕ
position_of n numbers = position_or_len (λ m. m == n) numbers

-- ---- Array codecs

-- the place before a transposition of the place after it: dimension d is the one that d stands at in the order
abbrev pub untransposed : List ℕ → List ℕ → List ℕ
untransposed order place = map (λ d. slice_index place (position_of d order)) (range_with_len 0 (length order))

-- the product of the sizes of a new shape, without that of an entry that is left over
abbrev pub known_product : List ShapeEntry → List ℕ → ℕ
known_product [] shape = 1
known_product (size_entry size ∷ entries) shape = size * known_product entries shape
known_product (product_entry dimensions ∷ entries) shape = product (map (slice_index shape) dimensions) * known_product entries shape
known_product (left_over ∷ entries) shape = known_product entries shape

-- the size that an entry stands for: one that is left over is the number of elements divided by the known product
abbrev pub entry_size : ℕ → List ℕ → ShapeEntry → ℕ
entry_size known shape (size_entry size) = size
entry_size known shape (product_entry dimensions) = product (map (slice_index shape) dimensions)
entry_size known shape left_over = product shape / known

-- a shape without its dimensions of size one, or [1] where it has no others
abbrev pub squeezed : List ℕ → List ℕ
squeezed shape = elim (filter (λ size. not (size == 1)) shape) [ [] ↦ 1 ∷ [] | size ∷ sizes ↦ size ∷ sizes ]

-- the shape of what an array codec makes of an array
abbrev pub encoded_shape : ArrayCodec → List ℕ → List ℕ
encoded_shape (transpose order) shape = map (slice_index shape) order
encoded_shape (reshape entries) shape = map (entry_size (known_product entries shape) shape) entries
encoded_shape squeeze shape = squeezed shape

-- for each place of what it makes, the number of the place that the cell comes from
abbrev pub source_places : ArrayCodec → List ℕ → List ℕ
source_places (transpose order) shape = map (λ place. ravel (untransposed order place) shape) (places_of (encoded_shape (transpose order) shape))
source_places (reshape entries) shape = place_numbers shape
source_places squeeze shape = place_numbers shape

-- for each place before an array codec, the number of the place that its cell has afterwards
abbrev pub undone_places : ArrayCodec → List ℕ → List ℕ
undone_places codec shape = map (λ n. position_of n (source_places codec shape)) (place_numbers shape)

-- ---- Subchunks

-- a subchunk: its shape, and the number that each of its places has in the whole
pub record Part : Type 0 where
  pub shape : List ℕ
  pub places : List ℕ

-- how many subchunks there are in each dimension: the size divided by the subchunk's, rounded up
abbrev pub grid_of : List ℕ → List ℕ → List ℕ
grid_of shape subchunk = each2 (λ size edge. (size + (edge - 1)) / edge) shape subchunk

-- the box of the subchunk with this index: it begins at the index's multiple of the subchunk shape, and is clipped to the whole
abbrev pub box_of : List ℕ → List ℕ → List ℕ → Region
box_of shape subchunk index =
    let start = each2 (λ i edge. i * edge) index subchunk in
    record { start = start; shape = each2 min subchunk (each2 (λ size begin. size - begin) shape start) }

-- the subchunk of a box
abbrev pub part_of : List ℕ → Region → Part
part_of shape box = record { shape = box.shape; places = map (λ place. ravel place shape) (places box.start box.shape) }

-- the subchunks, row-major (Zarr sharding codec; the clipping: this project's profile)
abbrev pub parts_of : List ℕ → List ℕ → List Part
parts_of shape subchunk = map (λ index. part_of shape (box_of shape subchunk index)) (places_of (grid_of shape subchunk))

-- the shape of a shard's index: a pair of numbers for each subchunk
abbrev pub index_shape : List ℕ → List ℕ → List ℕ
index_shape shape subchunk = grid_of shape subchunk ++ 2 ∷ []
