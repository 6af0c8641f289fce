use Rattle.std.proofs.Common.{◌-◌, length, take, drop, length-drop, length-take, arith}
use Rattle.zarr_grids_overlay.proofs.Steps.{EndsFit-along, rest-all}
use Rattle.zarr_grids_overlay.proofs.extents.Extent.rest.Goals as goal

pub invariant_of-result : goal.invariant_of-result
invariant_of-result c =
    let ts = c.args.self.start.now in
    let es = c.args.self.shape.now in
    record {
      same = let s = c.args.self.same in simp (length-take, length-drop) (omega arith);
      fit = EndsFit-along ts es (take (length ts - 1) (drop 1 ts)) (take (length es - 1) (drop 1 es)) (rest-all ts) (rest-all es) c.args.self.fit;
    }
