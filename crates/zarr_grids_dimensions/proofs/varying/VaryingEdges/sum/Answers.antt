use Rattle.std.proofs.Common.{◌≡◌, ◌∙◌, ◌*◌, length, get_or, ap, ℕ, arith}
use Rattle.zarr_grids_dimensions.specs.declared.repeat.RepeatedEdge.{RepeatedEdge}
use Rattle.zarr_grids_dimensions.proofs.VaryingLookups.{starts-length, places-total}
use Rattle.zarr_grids_dimensions.proofs.varying.VaryingEdges.sum.Goals as goal

pub index-requires : goal.index-requires
index-requires c = let l = starts-length (λ (r : RepeatedEdge). r.count * r.edge) _ _ c.args.self.now.places in omega arith

pub returns : goal.returns
returns c =
    let n : c.len.result ≡ length c.args.self.now.repeats.items = omega arith in
    c.index.ensures ∙ ap (λ (m : ℕ). get_or c.args.self.now.first_places.items m c.index.result.now) n ∙ places-total _ _ c.index.result.now c.args.self.now.places
