use Rattle.std.proofs.Common.{length}
use Rattle.zarr_codecs_around.proofs.array_codecs.+undo_all.Given as goal

abbrev pub decreases-undo_all : goal.decreases-undo_all
decreases-undo_all l = length l.codecs.now
