use Rattle.std.proofs.Common.{sym, arith}
use Rattle.zarr_grids_boxes.proofs.Building.{in_box_lengths}
use Rattle.zarr_grids_boxes.proofs.subset.ArraySubset.contains.Goals as goal

pub returns-then-indices-len : goal.returns-then-indices-len
returns-then-indices-len c = let s = c.args.self.now in sym (in_box_lengths s.start.items s.shape.items c.args.indices.now s.same (λ h. c.if-indices-len.true (omega arith)))
