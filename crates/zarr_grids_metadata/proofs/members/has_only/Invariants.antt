use Rattle.std.proofs.Common.{◌≡◌, map}
use Rattle.serde_json.specs.View.{members_view}
use Rattle.zarr_grids_metadata.specs.Members.{has_only}
use Rattle.zarr_grids_metadata.proofs.members.has_only.Given as goal

-- the members that are left answer as all do
abbrev pub invariant-loop-name : goal.invariant-loop-name
invariant-loop-name l = has_only (map (λ name. name.now) l.names) (members_view l.members.entries) ≡ has_only (map (λ name. name.now) l.names) (members_view l.name-iterator)
