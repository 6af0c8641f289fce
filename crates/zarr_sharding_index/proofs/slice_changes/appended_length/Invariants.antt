use Rattle.std.proofs.Common.{◌≡◌, ◌+◌, drop, length}
use Rattle.zarr_sharding_changes.specs.Changes.{appended}
use Rattle.zarr_sharding_index.specs.SliceChanges.{changes_of}
use Rattle.zarr_sharding_index.proofs.slice_changes.appended_length.Given as goal

-- the bytes so far, and those of the slices that are left
abbrev pub invariant-loop-change : goal.invariant-loop-change
invariant-loop-change l = l.count + length (appended (changes_of (drop l.change-index l.changes))) ≡ length (appended (changes_of l.changes))
