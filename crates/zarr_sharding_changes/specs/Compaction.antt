-- The present slices of a shard, copied row-major without gaps.
use Rattle.std.specs.Prelude.{ℕ, ◌+◌, ◌-◌, List, [], ◌∷◌, length, take, drop, Option, Some, None, option_and_then, option_map, ◌&&◌, if◌then◌else◌, nat_le}
use Rattle.zarr_codecs_meaning.specs.Types.{uint64, zero_filled}
use Rattle.zarr_codecs_meaning.specs.Chains.{Chain, Location}
use Rattle.zarr_codecs_meaning.specs.Chains.Location.{at_start, at_end}
use Rattle.zarr_codecs_meaning.specs.Places.{index_shape}
use Rattle.zarr_codecs_meaning.specs.Encoding.{Pair, index_size, base_of, shard_of, encoded}
use Rattle.zarr_codecs_meaning.specs.Decoding.{is_absent, pairs_in, decoded}

-- the bytes of a value beside those of its index
abbrev pub data_in : Location → ℕ → List ℕ → List ℕ
data_in at_start size value = drop size value
data_in at_end size value = take (length value - size) value

-- the bytes of a pair, where they lie in a data part that begins at the base
abbrev pub slice_in : ℕ → List ℕ → Pair → Option (List ℕ)
slice_in base «data» pair =
    if nat_le base pair.0 && nat_le (pair.0 + pair.1) (base + length «data») then Some (take pair.1 (drop (pair.0 - base) «data»)) else None

-- the slice of a pair, or that there is none for an absent one
abbrev pub stored_at : ℕ → List ℕ → Pair → Option (Option (List ℕ))
stored_at base «data» pair = if is_absent pair then Some None else option_map Some (slice_in base «data» pair)

-- the slices of all pairs; None where a present pair lies outside the data part
abbrev pub slices_of : ℕ → List ℕ → List Pair → Option (List (Option (List ℕ)))
slices_of base «data» [] = Some []
slices_of base «data» (pair ∷ pairs) = option_and_then (λ first. option_map (λ others. first ∷ others) (slices_of base «data» pairs)) (stored_at base «data» pair)

-- the slices of a shard of this shape and subchunk shape, whose index is written by this chain
abbrev pub slices_in : List ℕ → Chain → Location → List ℕ → List ℕ → Option (List (Option (List ℕ)))
slices_in subchunk index location shape value =
    let pairs_shape = index_shape shape subchunk in
    let size = index_size index pairs_shape in
    option_and_then (slices_of (base_of location size) (data_in location size value)) (pairs_in (decoded index (zero_filled uint64) pairs_shape) location size value)

-- the shard of the same slices, row-major without gaps
abbrev pub compacted : List ℕ → Chain → Location → List ℕ → List ℕ → Option (List ℕ)
compacted subchunk index location shape value =
    let pairs_shape = index_shape shape subchunk in
    option_and_then (shard_of (encoded index (zero_filled uint64) pairs_shape) location (index_size index pairs_shape)) (slices_in subchunk index location shape value)
