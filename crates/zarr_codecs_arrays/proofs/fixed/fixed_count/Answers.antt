use Rattle.std.proofs.Common.{arith, ◌∙◌, sym, length}
use Rattle.std.proofs.lemmas.Bool.{eqb-false}
use Rattle.zarr_codecs_types.specs.Views.{type_of}
use Rattle.zarr_codecs_arrays.proofs.Counts.{count_whole, count_wide}
use Rattle.zarr_codecs_arrays.proofs.fixed.fixed_count.Goals as goal

pub returns-then-bytes-width-eq0 : goal.returns-then-bytes-width-eq0
returns-then-bytes-width-eq0 c = count_whole (type_of c.args.data_type.now) c.in-Some.width c.args.bytes.now c.in-Some.ensures c.if-width-ne0.true c.if-bytes-width-eq0.true

pub returns-else-is_empty : goal.returns-else-is_empty
returns-else-is_empty c = count_wide (type_of c.args.data_type.now) c.args.bytes.now c.in-None.ensures (omega arith) (eqb-false (length c.args.bytes.now) 0 (sym c.is_empty.ensures ∙ c.if-is_empty.false))
