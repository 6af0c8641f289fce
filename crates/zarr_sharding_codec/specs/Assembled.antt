-- A shard put together from its slices.
use Rattle.std.specs.Prelude.{◌≡◌, ℕ, List, Option, Vec, Result, Ok, Err}
use Rattle.std.specs.declared.alloc.Global.{Global}
use Rattle.zarr_codecs_meaning.specs.Encoding.{Pair, base_of, index_size, joined, joined_slices, pair_cells, pairs_from}
use Rattle.zarr_codecs_meaning.specs.Refusals.{CodecRefuses, PassesIndex}
use Rattle.zarr_codecs_meaning.specs.Types.{uint64, zero_filled}
use Rattle.zarr_codecs_arrays.specs.declared.error.CodecError.{CodecError}
use Rattle.zarr_codecs_arrays.specs.declared.error.CodecError.TheVariants as error
use Rattle.zarr_sharding_index.specs.Stored.{IsIndexWritten}
use Rattle.zarr_sharding_index.specs.Held.{IndexCoding}

-- the pairs of slices in a row, behind or before such an index
abbrev pub pairs_of_slices : IndexCoding → List (Option (List ℕ)) → List Pair
pairs_of_slices index stored = pairs_from (base_of index.location (index_size index.chain index.shape)) stored

-- a value is an index of slices in a row, joined with these slices
pub record IsAssembled (index : IndexCoding) (stored : List (Option (List ℕ))) (value : List ℕ) : Type 0 where
  pub index_bytes : List ℕ
  pub written : IsIndexWritten index.chain index.exact index.shape (pairs_of_slices index stored) index_bytes
  pub is : value ≡ joined index.location index_bytes (joined_slices stored)

-- a shard put together from its slices, or why there is none
abbrev pub Assembles : IndexCoding → List (Option (List ℕ)) → Result (Vec ℕ Global) CodecError → Type 0
Assembles index stored (Ok value) = IsAssembled index stored value.items
Assembles index stored (Err error.Codec) = CodecRefuses index.chain (zero_filled uint64) index.shape (pair_cells (pairs_of_slices index stored))
Assembles index stored (Err error.Size) = PassesIndex index.chain (zero_filled uint64) index.shape (pair_cells (pairs_of_slices index stored))
Assembles index stored (Err error.Memory) = Unit {0}
Assembles index stored (Err e) = ⊥
