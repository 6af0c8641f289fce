use Rattle.std.proofs.Common.{sym, ◌∙◌}
use Rattle.serde_json.specs.View.{view}
use Rattle.zarr_run_opening.proofs.CreationLemmas.{document_refused}
use Rattle.zarr_run_opening.proofs.creating.prepare.Goals as goal

pub returns-in-Err-open_tree-clause-refused : goal.returns-in-Err-open_tree-clause-refused
returns-in-Err-open_tree-clause-refused g c =
    document_refused g.B.BytesToBytesCodecTraits.reads c.args.arrays.now c.args.path.now (view c.args.document.now) c.in-Err-open_tree.cause
    (sym c.is_node_path.ensures ∙ c.if-not-is_node_path.false) (c.in-Ok-false.ensures.free c.in-Ok-false.field-0-test) c.in-Err-open_tree.ensures.err

pub returns-in-Ok-with_document-clause-free : goal.returns-in-Ok-with_document-clause-free
returns-in-Ok-with_document-clause-free g c = c.in-Ok-false.ensures.free c.in-Ok-false.field-0-test
