use Rattle.std.proofs.Common.{◌∙◌, ◌<◌, ◌^◌, sym, subst}
use Rattle.zarr_grids_boxes.specs.Subsets.{region_of}
use Rattle.zarr_grids_cover.specs.Sizes.{HasChunkOf}
use Rattle.zarr_array_core.specs.Views.{document_of}
use Rattle.zarr_run_boxes.proofs.Boxes.{erased_large, large_erased}
use Rattle.zarr_run_boxes.proofs.targets.has_too_large_chunk.Goals as goal

pub returns-else-count-ge-TOO_MANY : goal.returns-else-count-ge-TOO_MANY
returns-else-count-ge-TOO_MANY g c =
    let document = document_of g.C.ArrayToBytesCodecTraits.meaning c.args.array.now in
    let chunks = region_of c.args.chunks.now in
    let same = c.dimensions.ensures ∙ c.grid.ensures.grid in
    let count = rw c.deref.ensures.value at c.in-Some.ensures in
    let few = subst (λ n. n < 2 ^ 63) count.1 c.if-count-ge-TOO_MANY.false in (
      λ found. erased_large document chunks c.cell_limit.result few c.cell_limit.ensures (subst (λ grid. HasChunkOf grid chunks c.cell_limit.result) same (c.has_chunk_of.ensures.0 found)),
      λ large. c.has_chunk_of.ensures.1 (subst (λ grid. HasChunkOf grid chunks c.cell_limit.result) (sym same) (large_erased document chunks c.cell_limit.result few c.cell_limit.ensures large)),
    )
