use Rattle.std.proofs.Common.{◌≡◌, ◌∙◌, None, option_map, sym, ap}
use Rattle.zarr_grids_boxes.specs.Subsets.{region_of}
use Rattle.zarr_grids_chunks.specs.Grids.{chunk_box}
use Rattle.zarr_grids_dimensions.specs.Dimensions.{grid_of}
use Rattle.zarr_grids_chunk_grids.proofs.Walking.{passes-step}
use Rattle.zarr_grids_chunk_grids.proofs.box_walks.find_box.Goals as goal

pub loop-chunks-preserved : goal.loop-chunks-preserved
loop-chunks-preserved c =
    let n : None ≡ chunk_box (grid_of c.args.grid.now) c.loop-chunks.chunks.next.items = ap (option_map region_of) (sym c.in-None.is) ∙ c.in-Ok.ensures ∙ ap (chunk_box (grid_of c.args.grid.now)) c.deref.ensures.value in
    passes-step _ _ _ _ _ c.go_on.ensures n c.loop-chunks.invariant
