use Rattle.std.proofs.Common.{◌≡◌, rules}
use Rattle.serde_json.specs.View.{view}
use Rattle.zarr_array_v2.specs.Versions.{is_version_2}
use Rattle.zarr_array_meaning.specs.StoreMaps.{StoreMap}
use Rattle.zarr_run_opening.specs.declared.stored.StoredDocument.TheVariants.{Nothing, NoDocument, Tree}
use Rattle.zarr_run_opening.proofs.OpenLemmas.{nothing_changed, no_document_changed, tree_changed, version_as}
use Rattle.zarr_run_opening.proofs.reopening.compare.Goals as goal

pub returns-in-Ok-Tree-clause-refused : goal.returns-in-Ok-Tree-clause-refused
returns-in-Ok-Tree-clause-refused g c = λ honest.
    let store : StoreMap = g.S.ReadableStorageTraits.held c.args.store.now in
    let is : c.in-Ok-Tree.field-0 ≡ Tree c.in-Ok-Tree.tree = search rules in
    tree_changed c.args.path.now c.args.array.now store (view c.in-Ok-Tree.tree)
    (version_as c.is_version_2.result (is_version_2 (view c.args.array.now.tree)) c.args.path.now store c.in-Ok-Tree.field-0 (Tree c.in-Ok-Tree.tree) c.is_version_2.ensures is (c.in-Ok-Tree.ensures.is honest))
    (c.same_tree.ensures.differ c.if-same_tree.false)

pub returns-in-Ok-NoDocument-clause-refused : goal.returns-in-Ok-NoDocument-clause-refused
returns-in-Ok-NoDocument-clause-refused g c = λ honest.
    let store : StoreMap = g.S.ReadableStorageTraits.held c.args.store.now in
    let is : c.in-Ok-NoDocument.field-0 ≡ NoDocument = search rules in
    no_document_changed c.args.path.now c.args.array.now store
    (version_as c.is_version_2.result (is_version_2 (view c.args.array.now.tree)) c.args.path.now store c.in-Ok-NoDocument.field-0 NoDocument c.is_version_2.ensures is (c.in-Ok-NoDocument.ensures.is honest))

pub returns-in-Ok-Nothing-clause-refused : goal.returns-in-Ok-Nothing-clause-refused
returns-in-Ok-Nothing-clause-refused g c = λ honest.
    let store : StoreMap = g.S.ReadableStorageTraits.held c.args.store.now in
    let is : c.in-Ok-Nothing.field-0 ≡ Nothing = search rules in
    nothing_changed c.args.path.now c.args.array.now store
    (version_as c.is_version_2.result (is_version_2 (view c.args.array.now.tree)) c.args.path.now store c.in-Ok-Nothing.field-0 Nothing c.is_version_2.ensures is (c.in-Ok-Nothing.ensures.is honest))
