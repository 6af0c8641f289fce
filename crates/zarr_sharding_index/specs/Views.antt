-- What the values of `src/` stand for.
use Rattle.std.specs.Prelude.{ℕ, List, Option, None, Some, Vec}
use Rattle.std.specs.List.{range_with_len}
use Rattle.std.specs.declared.alloc.Global.{Global}
use Rattle.zarr_codecs_meaning.specs.Chains as chains
use Rattle.zarr_codecs_meaning.specs.Decoding.{pairs_of_cells}
use Rattle.zarr_codecs_meaning.specs.Encoding.{Pair}
use Rattle.zarr_codecs_meaning.specs.Payloads.{fixed_cells}
use Rattle.zarr_codecs_traits.specs.declared.byte_range.ByteRange.{ByteRange}
use Rattle.zarr_sharding_index.specs.declared.location.ShardingIndexLocation.{ShardingIndexLocation}
use Rattle.zarr_sharding_index.specs.declared.location.ShardingIndexLocation.TheVariants.{Start, End}
use Rattle.zarr_sharding_index.specs.declared.index.ShardIndex.{ShardIndex}
use denote.Ref.{Bor}

-- where an index stands
abbrev pub location_of : ShardingIndexLocation → chains.Location
location_of Start = chains.Location.at_start
location_of End = chains.Location.at_end

-- an offset and a length as a pair of an index
abbrev pub pair_of : ByteRange → Pair
pair_of range = (range.offset, range.length)

-- the pairs that bytes hold, sixteen bytes each
abbrev pub pairs_of_bytes : List ℕ → List Pair
pairs_of_bytes bytes = pairs_of_cells (fixed_cells 8 bytes)

-- all pairs of an index
abbrev pub pairs_of : ShardIndex → List Pair
pairs_of index = pairs_of_bytes index.bytes.items

-- the numbers of the present ones of so many subchunks: those of the list, or all where there is no list
abbrev pub numbers_or_all : ℕ → Option (Vec ℕ Global) → List ℕ
numbers_or_all count None = range_with_len 0 count
numbers_or_all count (Some listed) = listed.items

-- the bytes that are lent, if some are
abbrev pub slice_lent : Option (Bor (List ℕ)) → Option (List ℕ)
slice_lent None = None
slice_lent (Some slice) = Some slice.now
