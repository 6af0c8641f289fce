use Rattle.std.proofs.Common.{sym}
use Rattle.zarr_codecs_types.specs.Views.{type_of}
use Rattle.zarr_codecs_arrays.specs.Views.{payload_of}
use Rattle.zarr_codecs_json.specs.Texts.{fixed_data}
use Rattle.zarr_codecs_json.proofs.Valid.{whole_data}
use Rattle.zarr_codecs_json.proofs.printing.push_elements.Goals as goal

pub returns-in-Ok-clause-ok : goal.returns-in-Ok-clause-ok
returns-in-Ok-clause-ok c =
    let type = type_of c.args.data_type.now in
    let width = c.in-Some.width in
    record {
      items = fixed_data type width c.in-Some-value_bytes.bytes.now;
      are = whole_data type width (payload_of c.args.elements.now) c.in-Some-value_bytes.bytes.now c.in-Some.ensures.positive (sym c.in-Some.ensures.value) c.in-Some-value_bytes.ensures;
      text_is = c.in-Ok.ensures.ok width (sym c.in-Some.ensures.value);
    }
