use Rattle.std.proofs.Common.{refl, ◌≡◌, Ok}
use Rattle.serde_json.specs.Data.{Data}
use Rattle.serde_json.specs.View.{view}
use Rattle.zarr_sharding_chains.specs.ArrayChains.{array_meaning}
use Rattle.zarr_array_core.specs.Views.{document_of}
use Rattle.zarr_array_meaning.specs.Documents.{read_document}
use Rattle.zarr_array_meaning.specs.Written.{written_document}
use Rattle.zarr_array_meaning.proofs.ReadsBack.{read_document-written_document}
use Rattle.zarr_run_opening.proofs.OpeningLemmas.{depth_of}
use Rattle.zarr_run_opening.proofs.creating.with_document.Goals as goal

pub write_texts-requires-clause-shallow : goal.write_texts-requires-clause-shallow
write_texts-requires-clause-shallow g c =
    let reads = g.B.BytesToBytesCodecTraits.reads in
    let d : Data = view c.args.document.now in
    let m = document_of (array_meaning g.B.BytesToBytesCodecTraits.meaning) c.args.core in
    depth_of reads (written_document d) m (read_document-written_document reads d m c.requires.opens)

pub returns-in-Ok : goal.returns-in-Ok
returns-in-Ok g c =
    let reads = g.B.BytesToBytesCodecTraits.reads in
    let d : Data = view c.args.document.now in
    let m = document_of (array_meaning g.B.BytesToBytesCodecTraits.meaning) c.args.core in
    let says : read_document reads (written_document d) ≡ Ok m = read_document-written_document reads d m c.requires.opens in
    record {
      at = c.in-Ok.ensures.at;
      texts = c.in-Ok.ensures.texts;
      opens = c.requires.opens;
      opened = record { at = c.requires.path; tree_is = c.in-Ok.ensures.tree_is; order_is = refl; says = says; exact = c.requires.exact };
    }
