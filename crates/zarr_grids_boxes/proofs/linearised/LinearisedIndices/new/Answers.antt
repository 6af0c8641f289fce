use Rattle.std.proofs.Common.{◌≡◌, arith}
use Rattle.zarr_grids_boxes.specs.Boxes.{product}
use Rattle.zarr_grids_boxes.proofs.Walking.{box_at_most}
use Rattle.zarr_grids_boxes.proofs.linearised.LinearisedIndices.new.Goals as goal

pub returns-in-None : goal.returns-in-None
returns-in-None c =
    let b = box_at_most c.args.subset.now.start.items c.args.subset.now.shape.items c.args.array_shape.now c.args.subset.now.same c.requires in
    let e : product c.deref.result.now ≡ product c.args.subset.now.shape.items = cc in
    omega (arith, c.in-None.ensures)
