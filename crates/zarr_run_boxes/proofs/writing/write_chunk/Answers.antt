use Rattle.zarr_grids_boxes.specs.Subsets.{region_of}
use Rattle.zarr_array_core.specs.Arrays.{array_of}
use Rattle.zarr_array_core.specs.Views.{document_of}
use Rattle.zarr_run_meaning.specs.Requests.{in_chunk}
use Rattle.zarr_run_boxes.specs.Asked.{asked_of}
use Rattle.zarr_run_boxes.proofs.Boxes.{chunk_covered}
use Rattle.zarr_run_boxes.proofs.Calls.{chunk_called}
use Rattle.zarr_run_boxes.proofs.Writes.{refused_target}
use Rattle.zarr_run_boxes.proofs.writing.write_chunk.Goals as goal

pub write_covered-requires-clause-covered : goal.write_covered-requires-clause-covered
write_covered-requires-clause-covered g c κs within = chunk_covered (document_of g.C.ArrayToBytesCodecTraits.meaning c.args.array.now) c.args.chunk.now (region_of c.in-Ok.region) c.in-Ok.ensures.ok

pub returns-in-Ok-clause-err : goal.returns-in-Ok-clause-err
returns-in-Ok-clause-err g c =
    λ honest. refused_target (array_of g.C.ArrayToBytesCodecTraits c.args.array.now) (asked_of g.S.WritableStorageTraits.supports_set_partial (in_chunk c.args.chunk.now) c.args.write) (region_of c.in-Ok.region)
    (g.S.ReadableStorageTraits.held c.args.store.now) (g.S.ReadableStorageTraits.held c.write_covered.new.store) c.write_covered.result
    c.in-Ok.ensures.ok (c.write_covered.ensures.err honest)

pub returns-in-Ok-clause-store : goal.returns-in-Ok-clause-store
returns-in-Ok-clause-store g c =
    chunk_called g.S.ReadableStorageTraits c.args.array.now.grid c.args.chunk.now (region_of c.in-Ok.region) c.args.store.now c.write_covered.new.store c.write_covered.result c.in-Ok.ensures.ok c.write_covered.ensures.store
