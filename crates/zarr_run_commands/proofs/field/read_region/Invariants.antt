use Rattle.std.proofs.Common.{◌≡◌, length}
use Rattle.zarr_grids_boxes.specs.Boxes.{EndsFit}
use Rattle.zarr_run_commands.proofs.Pairs.{ReadsOn}
use Rattle.zarr_run_commands.proofs.field.read_region.Given as goal

abbrev pub invariant-loop-pair : goal.invariant-loop-pair
invariant-loop-pair l = record {
  same : length l.shape.items ≡ length l.start.items;
  fit : EndsFit l.start.items l.shape.items;
  on : ReadsOn l.pairs l.pair-index l.start.items l.shape.items;
}
