use Rattle.std.proofs.Common.{◌∙◌, sym, arith}
use Rattle.zarr_codecs_types.specs.Views.{type_of}
use Rattle.zarr_codecs_arrays.proofs.ElementValues.{taken_values, no_cells, all_of_none}
use Rattle.zarr_codecs_arrays.proofs.fixed.are_fixed_values.Goals as goal

pub returns-then-takes_all_bytes : goal.returns-then-takes_all_bytes
returns-then-takes_all_bytes c cells is = taken_values (type_of c.args.data_type.now) c.in-Some.width c.args.bytes.now cells (sym c.takes_all_bytes.ensures ∙ c.if-takes_all_bytes.true) c.in-Some.ensures c.type_inv.bytes is

pub returns-in-None : goal.returns-in-None
returns-in-None c cells is = all_of_none (type_of c.args.data_type.now) cells (no_cells (type_of c.args.data_type.now) c.args.bytes.now cells c.in-None.ensures (omega arith) is)
