use Rattle.std.proofs.Common.{◌≡◌, ◌+◌}
use Rattle.std.specs.Prelude.{bytes_eq}
use Rattle.zarr_grids_dimensions.specs.RepeatedEdges.{expanded}
use Rattle.zarr_grids_dimensions.specs.RepeatsLeft.{edges_left, repeats_left}
use Rattle.zarr_grids_dimensions.proofs.same_edges.have_same_edges.Given as goal

-- what is left is equal where all edges are
abbrev pub invariant-loop-left : goal.invariant-loop-left
invariant-loop-left l = bytes_eq (edges_left l.left) (edges_left l.other_left) ≡ bytes_eq (expanded l.repeats) (expanded l.others)

abbrev pub decreases-loop-left : goal.decreases-loop-left
decreases-loop-left l = repeats_left l.left + repeats_left l.other_left
