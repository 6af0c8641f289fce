use Rattle.zarr_codecs_strides.proofs.PanelColumns.{line_written}
use Rattle.zarr_codecs_strides.proofs.columns.push_line.Goals as goal

pub returns : goal.returns
returns c = line_written c.args.stretches.width c.args.side.base c.args.side.count c.args.stretches.bytes.now c.args.out.now.items c.extend_from_slice.new.self.items c.requires.inside c.in_ok-extend_from_slice.ensures.items
