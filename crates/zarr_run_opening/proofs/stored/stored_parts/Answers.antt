use Rattle.std.proofs.Common.{◌≡◌, option_map, sym, inl, inr, rules, subst, IsTrue}
use Rattle.serde_json.specs.Data.{Data}
use Rattle.serde_json.specs.View.{view, members_view}
use Rattle.serde_json.specs.declared.value.Value.TheVariants.{Object}
use Rattle.serde_json.proofs.Views.{view-Object}
use Rattle.zarr_grids_keys.specs.Documents.{document_key}
use Rattle.zarr_grids_keys.specs.declared.document_name.DocumentName.TheVariants.{ZArray, ZAttrs}
use Rattle.zarr_array_v2.specs.Attributes.{with_attributes}
use Rattle.zarr_array_meaning.specs.StoreMaps.{StoreMap}
use Rattle.zarr_array_meaning.specs.Texts.{HasTree, HasParts}
use Rattle.zarr_run_opening.specs.Reopenings.{IsTreeAt}
use Rattle.zarr_run_opening.specs.declared.stored.StoredDocument.{StoredDocument}
use Rattle.zarr_run_opening.specs.declared.stored.StoredDocument.TheVariants.{Tree}
use Rattle.zarr_run_opening.proofs.StoredLemmas.{Attributes, parts_joined}
use Rattle.zarr_run_opening.proofs.stored.stored_parts.Goals.{in-Tree, in-Nothing-2}
use Rattle.zarr_run_opening.proofs.stored.stored_parts.Goals as goal

pub returns-in-Ok-clause-is : goal.returns-in-Ok-clause-is
returns-in-Ok-clause-is g c = λ honest.
    let held = g.S.ReadableStorageTraits.held in
    let path = c.args.path.now in
    let store : StoreMap = held c.args.store.now in
    let P : StoredDocument → Type 0 = λ (s : StoredDocument). IsTreeAt (document_key path ZArray) store s in
    let first : c.in_ok-members.field-0 ≡ Tree (Object c.in-Tree-Object.members) = search rules in
    let still : IsTrue (g.S.ReadableStorageTraits.is_honest c.stored_tree.new.store) = rw c.in_ok-members.ensures.honest honest in
    let Q : StoreMap → Type 0 = λ (s : StoreMap). IsTreeAt (document_key path ZAttrs) s c.in_ok-attributes.field-0 in
    let second : IsTreeAt (document_key path ZAttrs) store c.in_ok-attributes.field-0 = subst Q c.in_ok-members.ensures.held (c.in_ok-attributes.ensures.is still) in
    let are : Attributes c.in_ok-attributes.field-0 c.match-branch-5.attributes = elim c.match-branch-5.branch [
      | in-Tree w ↦ inl (w.in-Tree.attributes, w.in-Tree.is, w.attributes-is)
      | in-Nothing-2 w ↦ inr (w.in-Nothing-2.is, w.attributes-is)
    ] in
    let R : Data → Type 0 = λ (d : Data). HasTree (document_key path ZArray) d store in
    let zarray = subst R (view-Object c.in-Tree-Object.members) (subst P first (c.in_ok-members.ensures.is honest)) in
    let joined : members_view c.in-Ok.joined.entries ≡ with_attributes (option_map view c.match-branch-5.attributes) (members_view c.in-Tree-Object.members.entries) = search rules in
    let T : Data → Type 0 = λ (d : Data). HasParts path d store in
    subst T (sym (view-Object c.in-Ok.joined))
    (parts_joined path (members_view c.in-Tree-Object.members.entries) (members_view c.in-Ok.joined.entries) store c.in_ok-attributes.field-0 c.match-branch-5.attributes zarray second are joined)
