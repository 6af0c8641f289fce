use Rattle.std.proofs.Common.{◌≡◌, drop}
use Rattle.serde_json.specs.Written.{items_have_float, members_have_float}
use Rattle.serde_json.specs.View.{items_view, members_view}
use Rattle.zarr_grids_metadata.proofs.trees.+has_float.Given as goal

-- the items that are left answer as all do
abbrev pub invariant-items_have_float-loop-item : goal.invariant-items_have_float-loop-item
invariant-items_have_float-loop-item l = items_have_float (items_view l.items.items) ≡ items_have_float (items_view (drop l.item-index l.item-items))

-- the members that are left answer as all do
abbrev pub invariant-members_have_float-loop-member : goal.invariant-members_have_float-loop-member
invariant-members_have_float-loop-member l = members_have_float (members_view l.members.entries) ≡ members_have_float (members_view l.member-iterator)
