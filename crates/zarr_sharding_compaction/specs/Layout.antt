-- Where the parts of a shard stand among its bytes.
use Rattle.std.specs.Prelude.{◌≡◌, ℕ, ◌≤◌, ◌<◌, List, length, Option, None, Some}
use Rattle.zarr_codecs_meaning.specs.Chains.{Location}
use Rattle.zarr_codecs_meaning.specs.Decoding.{index_bytes}
use Rattle.zarr_sharding_changes.specs.Compaction.{data_in}
use denote.Ref.{Bor}

-- the bytes of the index of a shard and those of its data part; there are none where the value is shorter than the index
abbrev pub Splits : Location → ℕ → List ℕ → Option (Bor (List ℕ) × Bor (List ℕ)) → Type 0
Splits location size value None = length value < size
Splits location size value (Some parts) = (size ≤ length value) × (parts.0.now ≡ index_bytes location size value) × (parts.1.now ≡ data_in location size value)
