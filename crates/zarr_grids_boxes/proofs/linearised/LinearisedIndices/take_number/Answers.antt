use Rattle.std.proofs.Common.{sym, arith}
use Rattle.zarr_grids_boxes.specs.Boxes.{ravel}
use Rattle.zarr_grids_boxes.proofs.Walking.{numbers_from}
use Rattle.zarr_grids_boxes.proofs.linearised.LinearisedIndices.take_number.Goals as goal

pub returns : goal.returns
returns c =
    let w = c.args.self.now in
    let f = numbers_from (λ place. ravel place w.array_shape.now) w.subset.now.start.items w.subset.now.shape.items w.next (sym w.subset.now.same) (omega arith) in
    cc
