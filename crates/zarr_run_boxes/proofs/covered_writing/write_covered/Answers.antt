use Rattle.std.proofs.Common.{◌∙◌, sym, ap}
use Rattle.zarr_grids_boxes.specs.Subsets.{region_of}
use Rattle.zarr_codecs_arrays.specs.Views.{payload_of}
use Rattle.zarr_codecs_types.specs.Given.{given_bytes, given_in, given_json}
use Rattle.zarr_array_meaning.specs.Writes.{allowed}
use Rattle.zarr_array_core.specs.Arrays.{array_of}
use Rattle.zarr_run_commands.specs.Commands.{given}
use Rattle.zarr_run_commands.specs.LineCells.{number_list}
use Rattle.zarr_run_boxes.proofs.Writes.{refused_same}
use Rattle.zarr_run_boxes.proofs.covered_writing.write_covered.Goals as goal

pub returns-in-Ok-clause-err : goal.returns-in-Ok-clause-err
returns-in-Ok-clause-err g c =
    let array = array_of g.C.ArrayToBytesCodecTraits c.args.array.now in
    λ honest. refused_same array (record { region = region_of c.args.region.now; cells = given_bytes (payload_of c.in-Ok.bytes); options = allowed g.S.WritableStorageTraits.supports_set_partial c.args.write.options.now }) (given c.args.write.cells.now)
    (g.S.ReadableStorageTraits.held c.args.store.now) (g.S.ReadableStorageTraits.held c.write_elements-in-Ok.new.store) c.write_elements-in-Ok.result
    (sym (ap (λ cells. given_in array.document.elements.type (given cells)) c.in-Json.is ∙ c.in-Ok.ensures.ok)) (c.write_elements-in-Ok.ensures.err honest)

pub returns-in-Ok-number_elements-clause-err : goal.returns-in-Ok-number_elements-clause-err
returns-in-Ok-number_elements-clause-err g c =
    let array = array_of g.C.ArrayToBytesCodecTraits c.args.array.now in
    let passed = ap (λ ns. given_in array.document.elements.type (given_json (number_list ns))) (sym c.as_slice.ensures.value) in
    λ honest. refused_same array (record { region = region_of c.args.region.now; cells = given_bytes (payload_of c.in-Ok-number_elements.bytes); options = allowed g.S.WritableStorageTraits.supports_set_partial c.args.write.options.now }) (given c.args.write.cells.now)
    (g.S.ReadableStorageTraits.held c.args.store.now) (g.S.ReadableStorageTraits.held c.write_elements-in-Ok-number_elements.new.store) c.write_elements-in-Ok-number_elements.result
    (sym (ap (λ cells. given_in array.document.elements.type (given cells)) c.in-Numbers.is ∙ (passed ∙ c.in-Ok-number_elements.ensures.ok))) (c.write_elements-in-Ok-number_elements.ensures.err honest)
