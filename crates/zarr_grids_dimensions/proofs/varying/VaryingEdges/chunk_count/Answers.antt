use Rattle.std.proofs.Common.{◌≡◌, ◌∙◌, arith, get_or, length, ap, ℕ}
use Rattle.zarr_grids_dimensions.specs.declared.repeat.RepeatedEdge.{RepeatedEdge}
use Rattle.zarr_grids_dimensions.proofs.VaryingLookups.{starts-length, chunks-total}
use Rattle.zarr_grids_dimensions.proofs.varying.VaryingEdges.chunk_count.Goals as goal

pub index-requires : goal.index-requires
index-requires c = let l = starts-length (λ (r : RepeatedEdge). r.count) _ _ c.args.self.now.chunks in omega arith

pub returns : goal.returns
returns c =
    let n : c.len.result ≡ length c.args.self.now.repeats.items = omega arith in
    c.index.ensures ∙ ap (λ (m : ℕ). get_or c.args.self.now.first_chunks.items m c.index.result.now) n ∙ chunks-total _ _ c.index.result.now c.args.self.now.chunks
