use Rattle.std.proofs.Common.{drop}
use Rattle.serde_json.specs.View.{items_view, members_view}
use Rattle.zarr_grids_metadata.proofs.TreeLemmas.{SameItems, SameMembers}
use Rattle.zarr_grids_metadata.proofs.trees.+same_tree.Given as goal

-- all the items are the same exactly where those that are left are
abbrev pub invariant-same_items-loop-item : goal.invariant-same_items-loop-item
invariant-same_items-loop-item l = record {
  back : SameItems (items_view (drop l.item-index l.item-items)) (items_view l.rest.rest.now) → SameItems (items_view l.items.items) (items_view l.others.items);
  on : SameItems (items_view l.items.items) (items_view l.others.items) → SameItems (items_view (drop l.item-index l.item-items)) (items_view l.rest.rest.now);
}

-- all the members are the same exactly where those that are left are
abbrev pub invariant-same_members-loop-name : goal.invariant-same_members-loop-name
invariant-same_members-loop-name l = record {
  back : SameMembers (members_view l.name-iterator) (members_view l.rest) → SameMembers (members_view l.members.entries) (members_view l.others.entries);
  on : SameMembers (members_view l.members.entries) (members_view l.others.entries) → SameMembers (members_view l.name-iterator) (members_view l.rest);
}
