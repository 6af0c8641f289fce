use Rattle.std.proofs.Common.{◌∙◌, sym, ap₂, Some}
use Rattle.std.specs.Prelude.{bytes_eq}
use Rattle.zarr_grids_dimensions.specs.RepeatsLeft.{edges_left}
use Rattle.zarr_grids_dimensions.proofs.SameEdges.{same_front}
use Rattle.zarr_grids_dimensions.proofs.same_edges.have_same_edges.Goals as goal

pub loop-left-preserved : goal.loop-left-preserved
loop-left-preserved c =
    let mine = c.in-Some-Some.mine in
    let theirs = c.in-Some-Some.theirs in
    same_front c.min-count.result mine.first.edge theirs.first.edge (edges_left c.without-left.result) (edges_left c.without-other_left.result) (edges_left (Some mine)) (edges_left (Some theirs))
    c.if-mine-theirs.false c.without-left.ensures.edges c.without-other_left.ensures.edges
    ∙ ap₂ (λ left other_left. bytes_eq (edges_left left) (edges_left other_left)) (sym c.in-Some-Some.is-0) (sym c.in-Some-Some.is-1)
    ∙ c.loop-left.invariant
