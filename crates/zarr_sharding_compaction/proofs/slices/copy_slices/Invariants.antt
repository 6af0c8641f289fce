use Rattle.std.proofs.Common.{◌≡◌, ℕ, List, take, Option, Some}
use Rattle.zarr_codecs_meaning.specs.Encoding.{joined_slices, pairs_from}
use Rattle.zarr_sharding_changes.specs.Compaction.{slices_of}
use Rattle.zarr_sharding_index.specs.Views.{pairs_of}
use Rattle.zarr_sharding_compaction.proofs.slices.copy_slices.Given as goal

-- the slices so far, in a row, and their index
abbrev pub invariant-loop-n : goal.invariant-loop-n
invariant-loop-n l = (stored : List (Option (List ℕ))) × (slices_of l.sliced.base l.sliced.data.now (take l.n (pairs_of l.sliced.index.now)) ≡ Some stored) × (l.copied.items ≡ joined_slices stored)
    × (pairs_of l.index ≡ pairs_from l.sliced.base stored)
