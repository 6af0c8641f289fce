-- The slices of a shard, measured and copied.
use Rattle.std.specs.Prelude.{◌≡◌, ℕ, List, length, Option, None, Some, Vec}
use Rattle.std.specs.declared.alloc.Global.{Global}
use Rattle.zarr_codecs_meaning.specs.Encoding.{Pair, joined_slices, pairs_from}
use Rattle.zarr_sharding_changes.specs.Compaction.{slices_of}
use Rattle.zarr_sharding_index.specs.declared.index.ShardIndex.{ShardIndex}
use Rattle.zarr_sharding_index.specs.Views.{pairs_of}
use denote.Ref.{Bor}

-- what is stored of a subchunk, the bytes of whose slice are lent
abbrev pub stored_lent : Option (Option (Bor (List ℕ))) → Option (Option (List ℕ))
stored_lent None = None
stored_lent (Some None) = Some None
stored_lent (Some (Some slice)) = Some (Some slice.now)

-- how many bytes the present slices have together; none is told where a present pair lies outside the data part
abbrev pub Sizes : ℕ → List ℕ → List Pair → Option ℕ → Type 0
Sizes base «data» pairs None = slices_of base «data» pairs ≡ None
Sizes base «data» pairs (Some total) = (stored : List (Option (List ℕ))) × (slices_of base «data» pairs ≡ Some stored) × (total ≡ length (joined_slices stored))

-- the present slices in a row, and the index of them; there are none where a present pair lies outside the data part
abbrev pub Copies : ℕ → List ℕ → List Pair → Option (Vec ℕ Global × ShardIndex) → Type 0
Copies base «data» pairs None = slices_of base «data» pairs ≡ None
Copies base «data» pairs (Some made) =
    (stored : List (Option (List ℕ))) × (slices_of base «data» pairs ≡ Some stored) × (made.0.items ≡ joined_slices stored) × (pairs_of made.1 ≡ pairs_from base stored)
