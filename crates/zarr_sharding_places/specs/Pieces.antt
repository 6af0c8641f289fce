-- What is read of the subchunks of a shard.
use Rattle.std.specs.Prelude.{ℕ, List, map, replicate, Option, Some, option_and_then, option_map, if◌then◌else◌}
use Rattle.zarr_grids_boxes.specs.Boxes.{product}
use Rattle.zarr_codecs_meaning.specs.Chains.{Chain}
use Rattle.zarr_codecs_meaning.specs.Decoding.{decoded, is_absent, pieces_decoded, slice_at}
use Rattle.zarr_codecs_meaning.specs.Encoding.{Pair}
use Rattle.zarr_codecs_meaning.specs.Keeping.{arranged}
use Rattle.zarr_codecs_meaning.specs.Places.{parts_of, place_numbers}
use Rattle.zarr_codecs_meaning.specs.Types.{Cell, Elements}

-- the cells of a subchunk of this shape: the fill value where it is absent, else what its slice is decoded to
abbrev pub piece_decoded : Chain → Elements → List ℕ → List ℕ → Pair → Option (List Cell)
piece_decoded inner elements value shape pair = if is_absent pair then Some (replicate (product shape) elements.fill) else option_and_then (decoded inner elements shape) (slice_at value pair)

-- an array that is cut into subchunks: their chain, what the elements are, its shape and theirs
pub record Subchunks : Type 0 where
  pub inner : Chain
  pub elements : Elements
  pub shape : List ℕ
  pub subchunk : List ℕ

-- an array of this shape, cut into subchunks of that one
abbrev pub subchunks_of : Chain → Elements → List ℕ → List ℕ → Subchunks
subchunks_of inner elements shape subchunk = record { inner = inner; elements = elements; shape = shape; subchunk = subchunk }

-- the cells of the array of a shard, by the pairs of its index
abbrev pub shard_decoded : Subchunks → List ℕ → List Pair → Option (List Cell)
shard_decoded array value pairs =
    let parts = parts_of array.shape array.subchunk in
    option_map (λ pieces. map (arranged array.elements.fill parts pieces) (place_numbers array.shape))
    (pieces_decoded (decoded array.inner array.elements) array.elements.fill value parts pairs)
