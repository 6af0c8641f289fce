use Rattle.std.proofs.Common.{arith}
use Rattle.zarr_codecs_strides.specs.Strides.{walked}
use Rattle.zarr_codecs_strides.proofs.PanelColumns.{panels_more}
use Rattle.zarr_codecs_strides.proofs.columns.push_panels.Goals as goal

pub loop-done-preserved : goal.loop-done-preserved
loop-done-preserved c = record {
  some = c.loop-done.invariant.some;
  within = omega (arith, c.min-count.ensures, c.loop-done-test.true);
  panels = panels_more (λ n. walked c.args.stretches.width c.args.stretches.bytes.now n c.args.walk.sizes.now c.args.walk.strides.now) c.args.out.now.items c.loop-done.out.items c.push_panel.new.out.items c.args.side.base c.loop-done.done c.min-count.result c.loop-done.invariant.panels c.in_ok-push_panel.ensures;
}
