use Rattle.std.proofs.Common.{◌≡◌, map, bytes_eq, drop}
use Rattle.std.specs.List.{list_any}
use Rattle.zarr_grids_metadata.proofs.members.is_one_of.Given as goal

-- the names that are left answer as all do
abbrev pub invariant-loop-known : goal.invariant-loop-known
invariant-loop-known l = list_any (bytes_eq l.name) (map (λ name. name.now) l.names) ≡ list_any (bytes_eq l.name) (map (λ name. name.now) (drop l.known-index l.names))
