use Rattle.std.proofs.Common.{◌≡◌, ◌++◌, drop}
use Rattle.zarr_sharding_changes.specs.Changes.{appended}
use Rattle.zarr_sharding_index.specs.SliceChanges.{changes_of}
use Rattle.zarr_sharding_index.proofs.slice_changes.join_slices.Given as goal

-- the slices so far, and those that are left
abbrev pub invariant-loop-change : goal.invariant-loop-change
invariant-loop-change l = l.made.items ++ appended (changes_of (drop l.change-index l.changes)) ≡ appended (changes_of l.changes)
