use Rattle.std.proofs.Common.{drop}
use Rattle.zarr_grids_boxes.specs.Subsets.{region_of}
use Rattle.zarr_codecs_around.specs.Views.{codecs_of}
use Rattle.zarr_codecs_around.proofs.MovedBoxes.{IsBoxLeft}
use Rattle.zarr_codecs_around.proofs.moved_boxes.box_after.Given as goal

-- the codecs that are left make of the box so far what all of them make of the box
abbrev pub invariant-loop-codec : goal.invariant-loop-codec
invariant-loop-codec l = IsBoxLeft (codecs_of (drop l.codec-index l.codecs)) (codecs_of l.codecs) l.fn.part.shape.now (region_of l.fn.part.subset.now) l.place.shape.items (region_of l.place.subset)
