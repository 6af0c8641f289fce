use Rattle.std.proofs.Common.{arith}
use Rattle.zarr_codecs_types.proofs.Bytes.{each_byte}
use Rattle.zarr_codecs_types.proofs.IntegerValues.{number_rest}
use Rattle.zarr_codecs_json.proofs.numbers.+any_number.Goals as goal

pub overflow_mul-result : goal.overflow_mul-result
overflow_mul-result t c =
    let small = number_rest c.args.bytes.now c.any_number.result (each_byte c.args.bytes.now c.type_inv.bytes) c.in-len1-up.len_at_least c.requires c.any_number.ensures in
    omega arith

pub overflow_add-result : goal.overflow_add-result
overflow_add-result t c =
    let small = number_rest c.args.bytes.now c.any_number.result (each_byte c.args.bytes.now c.type_inv.bytes) c.in-len1-up.len_at_least c.requires c.any_number.ensures in
    omega arith
