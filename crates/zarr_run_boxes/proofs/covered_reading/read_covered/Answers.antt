use Rattle.std.proofs.Common.{◌∙◌, ◌+◌, ◌≤◌, IfErr, subst, sym, rules}
use Rattle.zarr_grids_boxes.specs.Boxes.{Region}
use Rattle.zarr_grids_boxes.specs.Subsets.{region_of}
use Rattle.zarr_array_core.specs.Views.{document_of, path_of}
use Rattle.zarr_array_meaning.specs.Documents.{Document}
use Rattle.zarr_array_meaning.specs.ReadBytes.{box_read, most_of_box}
use Rattle.zarr_run_meaning.specs.Counts.{most_refused}
use Rattle.zarr_run_meaning.specs.declared.cause.Cause.{Cause}
use Rattle.zarr_run_boxes.specs.Outcomes.{ChunksRefused}
use Rattle.zarr_run_boxes.proofs.Boxes.{none_gives}
use Rattle.zarr_run_boxes.proofs.ReadCounts.{reads_no_chunks, reads_nothing, stop_taken}
use Rattle.zarr_run_boxes.proofs.covered_reading.read_covered.Goals as goal

pub returns-then-count-eq0-clause-ok : goal.returns-then-count-eq0-clause-ok
returns-then-count-eq0-clause-ok g c =
    let count = rw c.deref.ensures.value at c.in-Some.ensures in
    λ honest. none_gives (path_of c.args.array.now) (document_of g.C.ArrayToBytesCodecTraits.meaning c.args.array.now) (g.S.ReadableStorageTraits.held c.args.store.now) (region_of c.args.region.now) c.no_cells.result
    (sym count.1 ∙ c.if-count-eq0.true) c.no_cells.ensures.ok

pub returns-then-count-eq0-clause-refused : goal.returns-then-count-eq0-clause-refused
returns-then-count-eq0-clause-refused g c = reads_nothing c.no_cells.result (g.S.ReadableStorageTraits.refused_calls c.args.store.now) c.no_cells.ensures.err

pub returns-in_err-chunks-clause-refused : goal.returns-in_err-chunks-clause-refused
returns-in_err-chunks-clause-refused g c =
    let document : Document = document_of g.C.ArrayToBytesCodecTraits.meaning c.args.array.now in
    let region : Region = region_of c.args.region.now in
    let told : IfErr c.from_residual.result (ChunksRefused document region) = search rules in
    reads_no_chunks document region c.from_residual.result (g.S.ReadableStorageTraits.refused_calls c.args.store.now) told

pub returns-in-Ok-clause-refused : goal.returns-in-Ok-clause-refused
returns-in-Ok-clause-refused g c = c.in-Ok.ensures.refused

pub returns-in-Ok-clause-given : goal.returns-in-Ok-clause-given
returns-in-Ok-clause-given g c = c.read_region.ensures.given

pub returns-clause-given : goal.returns-clause-given
returns-clause-given g c = λ honest.
    let s = g.S.ReadableStorageTraits in
    let path = path_of c.args.array.now in
    let document : Document = document_of g.C.ArrayToBytesCodecTraits.meaning c.args.array.now in
    let held = s.held c.args.store.now in
    let region : Region = region_of c.args.region.now in
    let most = most_of_box (box_read path document held region c.args.options.now.workers) in
    subst (λ (x : Cause). s.given_bytes c.read_region.new.store ≤ s.given_bytes c.args.store.now + most_refused x most) (sym c.cause_of.ensures)
    (stop_taken path document held region c.in-Err.error most (s.given_bytes c.args.store.now) (s.given_bytes c.read_region.new.store) (c.in-Err.ensures.err honest) (c.read_region.ensures.given honest))
