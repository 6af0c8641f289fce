use Rattle.std.proofs.Common.{◌∙◌, arith}
use Rattle.zarr_codecs_types.specs.Views.{type_of}
use Rattle.zarr_codecs_arrays.proofs.Masks.{present_value, value_missing, values_more, values_whole, masked_lengths}
use Rattle.zarr_codecs_arrays.proofs.values.are_present_values.Goals as goal

pub returns-then-not-is_absent_or_value : goal.returns-then-not-is_absent_or_value
returns-then-not-is_absent_or_value c cells all is marked =
    let type = type_of c.args.data_type.now in
    let mask = c.args.mask.now in
    let long = masked_lengths cells mask all marked in
    let e = c.is_absent_or_value.ensures cells is (omega (arith, long.0, long.1)) in
    value_missing type cells mask all c.loop-index.index marked (omega arith) (present_value type cells mask all c.loop-index.index c.is_absent_or_value.result marked (omega arith) e ∙ c.if-not-is_absent_or_value.true)

pub loop-index-preserved : goal.loop-index-preserved
loop-index-preserved c cells all is marked =
    let type = type_of c.args.data_type.now in
    let mask = c.args.mask.now in
    let long = masked_lengths cells mask all marked in
    let e = c.is_absent_or_value.ensures cells is (omega (arith, long.0, long.1)) in
    values_more type cells mask all c.loop-index.index marked (omega arith) (present_value type cells mask all c.loop-index.index c.is_absent_or_value.result marked (omega arith) e ∙ c.if-not-is_absent_or_value.false) (c.loop-index.invariant cells all is marked)

pub returns : goal.returns
returns c cells all is marked = values_whole (type_of c.args.data_type.now) cells c.args.mask.now all c.loop-index.index marked (omega arith) (c.loop-index.invariant cells all is marked)
