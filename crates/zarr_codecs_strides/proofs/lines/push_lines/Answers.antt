use Rattle.std.proofs.Common.{arith, ◌+◌, ◌*◌}
use Rattle.zarr_codecs_strides.specs.Strides.{element_in}
use Rattle.zarr_codecs_strides.proofs.Walks.{flat_more}
use Rattle.zarr_codecs_strides.proofs.PanelColumns.{element_inside, element_written}
use Rattle.zarr_codecs_strides.proofs.lines.push_lines.Goals as goal

pub overflow_mul-start : goal.overflow_mul-start
overflow_mul-start c =
    let e = element_inside c.args.lines.width c.args.lines.edge c.args.lines.count c.args.column c.loop-line.line _ c.requires.some c.requires.whole c.requires.within c.loop-line-test.true in
    let s = e.1 in
    omega arith

pub overflow_add-start : goal.overflow_add-start
overflow_add-start c =
    let e = element_inside c.args.lines.width c.args.lines.edge c.args.lines.count c.args.column c.loop-line.line _ c.requires.some c.requires.whole c.requires.within c.loop-line-test.true in
    let s = e.1 in
    omega arith

pub loop-line-preserved : goal.loop-line-preserved
loop-line-preserved c = λ before h. flat_more (element_in c.args.lines.width c.args.lines.bytes.now c.args.lines.edge c.args.column) before c.loop-line.out.items c.extend_from_slice.new.self.items c.loop-line.line (c.loop-line.invariant before h) (element_written c.args.lines.width ((c.loop-line.line * c.args.lines.edge + c.args.column) * c.args.lines.width) c.args.lines.bytes.now c.loop-line.out.items c.extend_from_slice.new.self.items c.in_ok-extend_from_slice.ensures.items)
