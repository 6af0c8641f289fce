use Rattle.std.proofs.Common.{◌≡◌, rules}
use Rattle.zarr_grids_boxes.proofs.Walking.{walk_new}
use Rattle.zarr_grids_boxes.proofs.subset.ArraySubset.indices.Goals as goal

pub invariant_of-result : goal.invariant_of-result
invariant_of-result c =
    let s = c.args.self.now in
    let e : c.in_ok-next.next.items ≡ c.args.self.now.start.items = search rules in
    let h = c.is_empty-more.ensures in
    record { within = (walk_new s.start.items s.shape.items c.in_ok-next.next.items c.is_empty-more.result e s.same h.0 h.1).0 }

pub returns : goal.returns
returns c =
    let s = c.args.self.now in
    let e : c.in_ok-next.next.items ≡ c.args.self.now.start.items = search rules in
    let h = c.is_empty-more.ensures in
    (walk_new s.start.items s.shape.items c.in_ok-next.next.items c.is_empty-more.result e s.same h.0 h.1).1
