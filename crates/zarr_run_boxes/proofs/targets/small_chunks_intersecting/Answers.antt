use Rattle.std.proofs.Common.{◌∙◌, ◌<◌, sym, subst, inr, refl}
use Rattle.std.proofs.lemmas.Bool.{false≢true}
use Rattle.zarr_grids_boxes.specs.Subsets.{region_of}
use Rattle.zarr_grids_cover.specs.Intersecting.{AreIntersecting}
use Rattle.zarr_grids_cover.specs.Sizes.{HasChunkOf}
use Rattle.zarr_array_core.specs.Views.{document_of}
use Rattle.zarr_run_boxes.proofs.Boxes.{large_chunk, small_region, large_region}
use Rattle.zarr_run_boxes.proofs.targets.small_chunks_intersecting.Goals as goal

pub returns-then-count-limit-clause-err : goal.returns-then-count-limit-clause-err
returns-then-count-limit-clause-err g c =
    inr (refl, large_region (document_of g.C.ArrayToBytesCodecTraits.meaning c.args.array.now) (region_of c.args.region.now) c.args.count c.requires.count ((c.cell_limit-limit.ensures c.args.count).0 c.if-count-limit.true))

pub returns-then-has_chunk_of-clause-err : goal.returns-then-has_chunk_of-clause-err
returns-then-has_chunk_of-clause-err g c =
    let document = document_of g.C.ArrayToBytesCodecTraits.meaning c.args.array.now in
    let same = c.dimensions-grid.ensures ∙ c.grid.ensures.grid in
    let found = subst (λ grid. HasChunkOf grid (region_of c.in-Ok.chunks) c.cell_limit-limit.result) same (c.has_chunk_of.ensures.0 c.if-has_chunk_of.true) in
    inr (
      refl,
      large_chunk document (region_of c.args.region.now) (region_of c.in-Ok.chunks) c.cell_limit-limit.result (sym c.in-Ok.chunks.same)
          (subst (λ grid. AreIntersecting grid (region_of c.args.region.now) (region_of c.in-Ok.chunks)) same c.in-Ok.ensures) c.cell_limit-limit.ensures found,
    )

pub returns-clause-small : goal.returns-clause-small
returns-clause-small g c =
    let document = document_of g.C.ArrayToBytesCodecTraits.meaning c.args.array.now in
    let same = c.dimensions-grid.ensures ∙ c.grid.ensures.grid in
    small_region document (region_of c.args.region.now) (region_of c.in-Ok.chunks) c.cell_limit-limit.result (sym c.in-Ok.chunks.same)
    (subst (λ grid. AreIntersecting grid (region_of c.args.region.now) (region_of c.in-Ok.chunks)) same c.in-Ok.ensures) c.cell_limit-limit.ensures
    (subst (λ n. n < c.cell_limit-limit.result) c.requires.count c.if-count-limit.false)
    (λ found. false≢true (sym c.if-has_chunk_of.false ∙ c.has_chunk_of.ensures.1 (subst (λ grid. HasChunkOf grid (region_of c.in-Ok.chunks) c.cell_limit-limit.result) (sym same) found)))
