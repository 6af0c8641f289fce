use Rattle.std.proofs.Common.{sym, arith}
use Rattle.std.proofs.lemmas.Bool.{leb-true}
use Rattle.zarr_grids_boxes.specs.Boxes.{ravel}
use Rattle.zarr_grids_boxes.proofs.Walking.{numbers_past}
use Rattle.zarr_grids_boxes.proofs.linearised.LinearisedIndices.is_done.Goals as goal

pub returns-clause-done : goal.returns-clause-done
returns-clause-done c =
    let w = c.args.self.now in
    λ t. let g = leb-true w.count w.next t in numbers_past (λ place. ravel place w.array_shape.now) w.subset.now.start.items w.subset.now.shape.items w.next (sym w.subset.now.same) (omega arith)
