use Rattle.std.proofs.Common.{◌≡◌, ◌+◌, ◌-◌, ℕ, List, get_or}
use Rattle.zarr_grids_boxes.specs.Laid.{laid, overlaid, HasWidth}
use Rattle.zarr_grids_overlay.proofs.Blocks.{half}
use Rattle.zarr_grids_overlay.proofs.Overlays.{part}
use Rattle.zarr_grids_overlay.proofs.stretches.overlay_lines.Given as goal

abbrev pub invariant-loop-row : goal.invariant-loop-row
invariant-loop-row l =
    (old new : List ℕ → List ℕ) → HasWidth l.width old → HasWidth l.width new
    → l.initial.target ≡ laid old l.into.start.now l.into.shape.now
    → l.source ≡ laid new l.from.start.now l.from.shape.now
    → l.target ≡ half (part (overlaid l.from.start.now l.from.shape.now new old) l.into.start.now l.into.shape.now) (part old l.into.start.now l.into.shape.now) (get_or l.into.start.now 0 0) (l.low - get_or l.into.start.now 0 0 + l.row) (get_or l.into.shape.now 0 0 - (l.low - get_or l.into.start.now 0 0 + l.row))
