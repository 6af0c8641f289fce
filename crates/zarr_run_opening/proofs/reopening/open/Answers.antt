use Rattle.std.proofs.Common.{◌≡◌, rules}
use Rattle.serde_json.specs.View.{view}
use Rattle.zarr_array_meaning.specs.StoreMaps.{StoreMap}
use Rattle.zarr_run_opening.specs.ChunkKeys.{IsChunkKeyOf}
use Rattle.zarr_run_opening.specs.declared.stored.StoredDocument.TheVariants.{NoDocument, Tree}
use Rattle.zarr_run_opening.proofs.OpenLemmas.{document_as, no_document_refused, tree_refused}
use Rattle.zarr_run_opening.proofs.reopening.open.Goals as goal

pub returns-in-Ok-NoDocument-clause-refused : goal.returns-in-Ok-NoDocument-clause-refused
returns-in-Ok-NoDocument-clause-refused g c = λ honest.
    let IsChunk = IsChunkKeyOf g.B.BytesToBytesCodecTraits.meaning c.args.arrays.now in
    let store : StoreMap = g.S.ReadableStorageTraits.held c.args.store.now in
    let is : c.in-Ok-NoDocument.field-0 ≡ NoDocument = search rules in
    no_document_refused IsChunk c.args.path.now store g.B.BytesToBytesCodecTraits.reads (document_as IsChunk c.args.path.now store c.in-Ok-NoDocument.field-0 NoDocument is (c.in-Ok-NoDocument.ensures.is honest))

pub returns-in-Err-open_tree-clause-refused : goal.returns-in-Err-open_tree-clause-refused
returns-in-Err-open_tree-clause-refused g c = λ honest.
    let IsChunk = IsChunkKeyOf g.B.BytesToBytesCodecTraits.meaning c.args.arrays.now in
    let store : StoreMap = g.S.ReadableStorageTraits.held c.args.store.now in
    let is : c.in-Ok-Tree.field-0 ≡ Tree c.in-Ok-Tree.tree = search rules in
    tree_refused IsChunk c.args.path.now store g.B.BytesToBytesCodecTraits.reads (view c.in-Ok-Tree.tree) c.in-Err-open_tree.cause (document_as IsChunk c.args.path.now store c.in-Ok-Tree.field-0 (Tree c.in-Ok-Tree.tree) is (c.in-Ok-Tree.ensures.is honest)) c.in-Err-open_tree.ensures.err
