use Rattle.std.proofs.Common.{length}
use Rattle.zarr_codecs_around.proofs.moved_boxes.+undo_box.Given as goal

abbrev pub decreases-undo_box : goal.decreases-undo_box
decreases-undo_box l = length l.codecs.now
