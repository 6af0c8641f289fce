use Rattle.std.proofs.Common.{◌≡◌, ◌∙◌, ◌<◌, List, ℕ, sym, ap, arith}
use Rattle.std.proofs.lemmas.Bool.{false≢true}
use Rattle.zarr_grids_boxes.specs.Boxes.{product}
use Rattle.zarr_grids_dimensions.specs.Dimensions.{grid_of}
use Rattle.zarr_grids_cover.proofs.LargestEdges.{HasChunkOf-some, answers-most}
use Rattle.zarr_grids_cover.proofs.sizes.has_chunk_of.Goals as goal

pub returns-then-has_no_place : goal.returns-then-has_no_place
returns-then-has_no_place c =
    let z : product c.args.chunks.now.shape.items ≡ 0 = ap (λ (ns : List ℕ). product ns) (sym c.deref.ensures.value) ∙ c.has_no_place.ensures.0 c.if-has_no_place.true in (
      λ h. absurd (cc),
      λ i. let p : 0 < product c.args.chunks.now.shape.items = HasChunkOf-some (grid_of c.args.grid.now) c.args.chunks.now.start.items c.args.chunks.now.shape.items c.args.count i in absurd (omega arith),
    )

pub returns : goal.returns
returns c = answers-most c.args.grid.now c.args.chunks.now.start.items c.args.chunks.now.shape.items _ _ c.args.count _ c.deref-2.ensures.value c.deref-3.ensures.value c.args.chunks.now.same
    (λ z. false≢true (sym c.if-has_no_place.false ∙ c.has_no_place.ensures.1 (ap (λ (ns : List ℕ). product ns) c.deref.ensures.value ∙ z))) c.requires.below c.ranges.count.fits c.most_places.ensures
