use Rattle.std.proofs.Common.{◌≡◌, nat_lt, drop}
use Rattle.serde_json.specs.Data.{items_depth, members_depth}
use Rattle.serde_json.specs.View.{items_view, members_view}
use Rattle.zarr_grids_metadata.proofs.trees.+is_deeper.Given as goal

-- the items that are left answer as all do
abbrev pub invariant-items_are_deeper-loop-item : goal.invariant-items_are_deeper-loop-item
invariant-items_are_deeper-loop-item l = nat_lt l.levels (items_depth (items_view l.items.items)) ≡ nat_lt l.levels (items_depth (items_view (drop l.item-index l.item-items)))

-- the members that are left answer as all do
abbrev pub invariant-members_are_deeper-loop-member : goal.invariant-members_are_deeper-loop-member
invariant-members_are_deeper-loop-member l = nat_lt l.levels (members_depth (members_view l.members.entries)) ≡ nat_lt l.levels (members_depth (members_view l.member-iterator))
