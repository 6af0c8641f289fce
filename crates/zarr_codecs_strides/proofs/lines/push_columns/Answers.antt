use Rattle.zarr_codecs_strides.specs.Strides.{column_of}
use Rattle.zarr_codecs_strides.proofs.Walks.{flat_more}
use Rattle.zarr_codecs_strides.proofs.lines.push_columns.Goals as goal

pub loop-column-preserved : goal.loop-column-preserved
loop-column-preserved c = flat_more (column_of c.args.lines.width c.args.lines.bytes.now c.args.lines.edge c.args.lines.count) c.args.out.now.items c.loop-column.out.items c.push_column.new.out.items c.loop-column.column c.loop-column.invariant c.in_ok-push_column.ensures
