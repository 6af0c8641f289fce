use Rattle.zarr_codecs_arrays.proofs.Counts.{variable_count_then, variable_count_else}
use Rattle.zarr_codecs_arrays.proofs.counting.variable_count.Goals as goal

pub returns-then-offsets-count : goal.returns-then-offsets-count
returns-then-offsets-count c = variable_count_then c.args.offsets.now c.args.bytes.now c.as_slice-offsets.result.now c.as_slice-offsets.ensures c.if-offsets-count.true

pub returns-else-offsets-count : goal.returns-else-offsets-count
returns-else-offsets-count c = variable_count_else c.args.offsets.now c.args.bytes.now c.as_slice-offsets.result.now c.as_slice-offsets.ensures c.if-offsets-count.false
