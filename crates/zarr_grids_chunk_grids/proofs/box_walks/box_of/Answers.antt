use Rattle.std.proofs.Common.{◌∙◌, sym}
use Rattle.std.proofs.lemmas.List.{length-map}
use Rattle.zarr_grids_dimensions.specs.Dimensions.{dimension_of, grid_of}
use Rattle.zarr_grids_chunk_grids.proofs.Walking.{told, other_length}
use Rattle.zarr_grids_chunk_grids.proofs.box_walks.box_of.Goals as goal

pub returns-in-Err-Dimensionality : goal.returns-in-Err-Dimensionality
returns-in-Err-Dimensionality c =
    sym (other_length (grid_of c.args.grid.now) c.args.chunk.now (λ e. told _ _ _ _ c.in-Err-Dimensionality.field-0-is c.in-Err-Dimensionality.ensures.error (e ∙ length-map c.args.grid.now dimension_of)))
