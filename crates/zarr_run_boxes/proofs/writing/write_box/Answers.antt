use Rattle.std.proofs.Common.{refl}
use Rattle.zarr_grids_boxes.specs.Subsets.{region_of}
use Rattle.zarr_array_core.specs.Arrays.{array_of}
use Rattle.zarr_run_meaning.specs.Requests.{in_box}
use Rattle.zarr_run_boxes.specs.Asked.{asked_of}
use Rattle.zarr_run_boxes.proofs.Writes.{refused_target}
use Rattle.zarr_run_boxes.proofs.writing.write_box.Goals as goal

pub returns-clause-err : goal.returns-clause-err
returns-clause-err g c =
    let region = region_of c.args.region.now in
    λ honest. refused_target (array_of g.C.ArrayToBytesCodecTraits c.args.array.now) (asked_of g.S.WritableStorageTraits.supports_set_partial (in_box region) c.args.write) region
    (g.S.ReadableStorageTraits.held c.args.store.now) (g.S.ReadableStorageTraits.held c.write_covered.new.store) c.write_covered.result
    (refl, c.if-not-is_covered.ensures.0 refl) (c.write_covered.ensures.err honest)
