use Rattle.std.proofs.Common.{◌≡◌, ◌+◌, ◌<◌, ◌^◌, drop, length, true}
use Rattle.std.specs.List.{list_all}
use Rattle.zarr_sharding_changes.specs.Changes.{appended, pairs_after}
use Rattle.zarr_sharding_index.specs.Present.{all_pairs}
use Rattle.zarr_sharding_index.specs.SliceChanges.{changes_of, is_below}
use Rattle.zarr_sharding_index.proofs.slice_changes.put_changes.Given as goal

-- the changes that are left make of the pairs so far what all make of the first ones
abbrev pub invariant-loop-change : goal.invariant-loop-change
invariant-loop-change l = record {
  rest : pairs_after l.offset (changes_of (drop l.change-index l.changes)) (all_pairs l.pairs) ≡ pairs_after l.end (changes_of l.changes) (all_pairs l.initial.pairs);
  room : l.offset + length (appended (changes_of (drop l.change-index l.changes))) < 2 ^ 63;
  below : list_all (is_below (length (all_pairs l.pairs))) (drop l.change-index l.changes) ≡ true;
}
