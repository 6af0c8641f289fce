use Rattle.std.proofs.Common.{◌≤◌, ◌+◌, ℕ, IfErr, ap, sym, subst, Option, rules}
use Rattle.std.specs.Option.{option_map_or}
use Rattle.zarr_grids_boxes.specs.Boxes.{Region}
use Rattle.zarr_grids_boxes.specs.Subsets.{region_of}
use Rattle.zarr_array_core.specs.Views.{document_of, path_of}
use Rattle.zarr_array_meaning.specs.Documents.{Document}
use Rattle.zarr_array_meaning.specs.ReadBytes.{box_read, most_of_box}
use Rattle.zarr_run_boxes.specs.Outcomes.{ChunkRefused, most_with}
use Rattle.zarr_run_boxes.proofs.Boxes.{chunk_covered}
use Rattle.zarr_run_boxes.proofs.ReadCounts.{reads_no_chunk}
use Rattle.zarr_run_boxes.proofs.reading.read_chunk.Goals as goal

pub read_covered-requires-clause-covered : goal.read_covered-requires-clause-covered
read_covered-requires-clause-covered g c κs within = chunk_covered (document_of g.C.ArrayToBytesCodecTraits.meaning c.args.array.now) c.args.chunk.now (region_of c.in_ok-region.region) c.in_ok-region.ensures.ok

pub returns-in_err-region-clause-refused : goal.returns-in_err-region-clause-refused
returns-in_err-region-clause-refused g c =
    let document : Document = document_of g.C.ArrayToBytesCodecTraits.meaning c.args.array.now in
    let told : IfErr c.from_residual.result (ChunkRefused document c.args.chunk.now) = search rules in
    reads_no_chunk document c.args.chunk.now c.from_residual.result (g.S.ReadableStorageTraits.refused_calls c.args.store.now) told

pub returns-clause-refused : goal.returns-clause-refused
returns-clause-refused g c = c.read_covered.ensures.refused

pub returns-clause-given : goal.returns-clause-given
returns-clause-given g c = λ honest.
    let s = g.S.ReadableStorageTraits in
    let document : Document = document_of g.C.ArrayToBytesCodecTraits.meaning c.args.array.now in
    let most : Region → ℕ = λ region. most_of_box (box_read (path_of c.args.array.now) document (s.held c.args.store.now) region c.args.options.now.workers) in
    let here = ap (λ (o : Option Region). option_map_or most o 0) c.in_ok-region.ensures.ok.has_box in
    subst (λ (n : ℕ). s.given_bytes c.read_covered.new.store ≤ s.given_bytes c.args.store.now + most_with c.read_covered.result n) (sym here) (c.read_covered.ensures.given honest)
