use Rattle.std.proofs.Common.{◌≡◌, length, refl, arith}
use Rattle.zarr_grids_boxes.proofs.Building.{at_most_ends, ends_at_most}
use Rattle.zarr_grids_boxes.proofs.subset.ArraySubset.inbounds_shape.Goals as goal

pub returns-then-array_shape-len : goal.returns-then-array_shape-len
returns-then-array_shape-len c =
    let s = c.args.self.now in
    record {
      inside = (λ h. absurd (cc), λ m. let l = (ends_at_most s.start.items s.shape.items c.args.array_shape.now s.same m).0 in absurd (c.if-array_shape-len.true (omega arith)));
      dimensionality = λ h. absurd (cc);
    }

pub returns-then-end_along-array_shape : goal.returns-then-end_along-array_shape
returns-then-end_along-array_shape c =
    let s = c.args.self.now in
    record {
      inside = (λ h. absurd (cc), λ m. let g = (ends_at_most s.start.items s.shape.items c.args.array_shape.now s.same m).1 c.loop-k.k (omega arith) in absurd (omega arith));
      dimensionality = λ h. absurd (cc);
    }

pub returns : goal.returns
returns c =
    let s = c.args.self.now in
    let l : length c.args.array_shape.now ≡ length s.start.items = omega arith in
    record {
      inside = (λ h. at_most_ends s.start.items s.shape.items c.args.array_shape.now s.same l (λ k g. c.loop-k.invariant k (omega arith)), λ m. refl);
      dimensionality = λ h. l;
    }
