use Rattle.std.proofs.Common.{◌∙◌, sym, length}
use Rattle.zarr_grids_boxes.specs.Laid.{overlaid}
use Rattle.zarr_grids_overlay.proofs.Lengths.{empty}
use Rattle.zarr_grids_overlay.proofs.Overlays.{laid-nothing, laid-no_source, HasWidth-overlaid}
use Rattle.zarr_grids_overlay.proofs.stretches.overlay.Goals as goal
use Rattle.zarr_grids_overlay.proofs.stretches.overlay.Goals.{then-is_empty-via-then-is_empty, then-is_empty-via-else-is_empty+then-is_empty-2}

pub returns-then-is_empty : goal.returns-then-is_empty
returns-then-is_empty c = λ old new wide_old wide_new x y.
    elim c.then-is_empty.branch [
      | then-is_empty-via-then-is_empty w ↦
          laid-nothing old (overlaid c.args.from.start.now c.args.from.shape.now new old) c.args.width c.args.into.start.now c.args.into.shape.now c.args.target.now c.args.into.same wide_old
          (HasWidth-overlaid c.args.width c.args.from.start.now c.args.from.shape.now new old wide_old wide_new) x
          (empty (length c.args.target.now) c.is_empty.result c.is_empty.ensures w.if-is_empty.true)
      | then-is_empty-via-else-is_empty+then-is_empty-2 w ↦
          laid-no_source c.args.into.start.now c.args.into.shape.now c.args.from.start.now c.args.from.shape.now c.args.width old new c.args.target.now c.args.into.same wide_old wide_new x
          (sym c.requires.source_length ∙ empty (length c.args.source.now) w.is_empty-else-is_empty.result w.is_empty-else-is_empty.ensures w.if-is_empty-2.true)
    ]
