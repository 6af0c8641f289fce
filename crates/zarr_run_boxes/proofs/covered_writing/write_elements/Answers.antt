use Rattle.std.proofs.Common.{◌∙◌, sym}
use Rattle.zarr_grids_boxes.specs.Subsets.{region_of}
use Rattle.zarr_codecs_arrays.specs.Views.{payload_of}
use Rattle.zarr_array_meaning.specs.Writes.{allowed}
use Rattle.zarr_array_core.specs.Arrays.{array_of}
use Rattle.zarr_array_core.specs.Views.{array_cells}
use Rattle.zarr_run_boxes.proofs.Calls.{many_err}
use Rattle.zarr_run_boxes.proofs.Writes.{writes_empty, stopped_covered}
use Rattle.zarr_run_boxes.proofs.covered_writing.write_elements.Goals as goal

pub returns-in-Ok-eq0-clause-ok : goal.returns-in-Ok-eq0-clause-ok
returns-in-Ok-eq0-clause-ok g c =
    let values = c.in-Ok-eq0.ensures.values in
    λ honest. writes_empty (array_of g.C.ArrayToBytesCodecTraits c.args.array.now) (region_of c.args.region.now) (payload_of c.args.write.elements.now) (allowed g.S.WritableStorageTraits.supports_set_partial c.args.write.options.now)
    (g.S.ReadableStorageTraits.held c.args.store.now) values.0 (sym c.in-Ok-eq0.ensures.count ∙ c.in-Ok-eq0.field-0-test) values.1

pub returns-clause-err : goal.returns-clause-err
returns-clause-err g c =
    let values = c.in-Ok.ensures.values in
    λ honest. stopped_covered (array_of g.C.ArrayToBytesCodecTraits c.args.array.now) (region_of c.args.region.now) (payload_of c.args.write.elements.now) (allowed g.S.WritableStorageTraits.supports_set_partial c.args.write.options.now)
    values.0 (array_cells c.args.array.now c.args.write.elements.now) (g.S.ReadableStorageTraits.held c.args.store.now) (g.S.ReadableStorageTraits.held c.write_region.new.store) c.in-Err-write_region.stopped c.at_chunk.result values.1
    c.in-Ok-small_chunks_intersecting.ensures.small (c.in-Err-write_region.ensures.err honest) c.at_chunk.ensures

pub returns-clause-store : goal.returns-clause-store
returns-clause-store g c =
    many_err g.S.ReadableStorageTraits c.args.store.now c.write_region.new.store c.in-Err-write_region.stopped c.at_chunk.result c.at_chunk.ensures c.in-Err-write_region.ensures.store
