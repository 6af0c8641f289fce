use Rattle.std.proofs.Common.{drop}
use Rattle.zarr_grids_boxes.specs.Subsets.{region_of}
use Rattle.zarr_codecs_arrays.specs.Views.{elements_of, payload_of}
use Rattle.zarr_codecs_around.specs.Views.{codecs_of}
use Rattle.zarr_codecs_around.proofs.MovedBoxes.{IsTurnedLeft}
use Rattle.zarr_codecs_around.proofs.moved_boxes.move_box.Given as goal

-- the codecs that are left make of the box and the elements so far what all of them make of the box and the elements
abbrev pub invariant-loop-codec : goal.invariant-loop-codec
invariant-loop-codec l =
    IsTurnedLeft (codecs_of (drop l.codec-index l.codecs)) (codecs_of l.codecs) (elements_of l.fn.part.elements.now) l.fn.part.shape.now (region_of l.fn.part.subset.now) (payload_of l.fn.bytes) l.place.shape.items (region_of l.place.subset) (payload_of l.turned)
