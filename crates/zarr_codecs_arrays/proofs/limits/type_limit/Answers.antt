use Rattle.std.proofs.Common.{arith}
use Rattle.zarr_codecs_types.specs.Views.{type_of}
use Rattle.zarr_codecs_arrays.proofs.Counts.{known_width}
use Rattle.zarr_codecs_arrays.proofs.TooMany.{limit_tells}
use Rattle.zarr_codecs_arrays.proofs.limits.type_limit.Goals as goal

pub returns-in-Some : goal.returns-in-Some
returns-in-Some c =
    let type = type_of c.args.data_type.now in
    limit_tells type c.in-Some.width c.div_ceil.result (known_width type c.in-Some.width c.in-Some.ensures) (omega (arith, c.in-Some.width-test)) c.div_ceil.ensures
