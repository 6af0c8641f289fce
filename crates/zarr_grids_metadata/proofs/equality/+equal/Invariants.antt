use Rattle.std.proofs.Common.{◌≡◌, drop}
use Rattle.serde_json.specs.View.{items_view, members_view}
use Rattle.zarr_grids_metadata.specs.Equal.{equal_items, equal_members}
use Rattle.zarr_grids_metadata.proofs.equality.+equal.Given as goal

-- all the items are equal exactly where those that are left are
abbrev pub invariant-equal_items-loop-item : goal.invariant-equal_items-loop-item
invariant-equal_items-loop-item l = equal_items (items_view l.items.items) (items_view l.others.items) ≡ equal_items (items_view (drop l.item-index l.item-items)) (items_view l.rest.rest.now)

-- all the members are equal exactly where those that are left are
abbrev pub invariant-equal_members-loop-name : goal.invariant-equal_members-loop-name
invariant-equal_members-loop-name l = equal_members (members_view l.members.entries) (members_view l.others.entries) ≡ equal_members (members_view l.name-iterator) (members_view l.rest)
