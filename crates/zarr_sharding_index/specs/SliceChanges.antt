-- What the values of `src/` stand for.
use Rattle.std.specs.Prelude.{ℕ, List, map, option_map, Vec, Bool, nat_lt}
use Rattle.std.specs.declared.alloc.Global.{Global}
use Rattle.zarr_sharding_changes.specs.Changes.{Change}
use Rattle.zarr_sharding_index.specs.declared.slice_changes.SliceChange.{SliceChange}

-- a change as the number of its subchunk and its slice, if it has one
abbrev pub change_of : SliceChange → Change
change_of change = (change.number, option_map (λ (bytes : Vec ℕ Global). bytes.items) change.slice)

-- several changes
abbrev pub changes_of : List SliceChange → List Change
changes_of changes = map change_of changes

-- whether a change is of one of so many subchunks
abbrev pub is_below : ℕ → SliceChange → Bool
is_below count change = nat_lt change.number count
