use Rattle.std.proofs.Common.{◌∙◌}
use Rattle.zarr_grids_dimensions.specs.Dimensions.{dimension_of}
use Rattle.zarr_grids_cover.proofs.NumbersInGrid.{covered-found, covered-none}
use Rattle.zarr_grids_cover.proofs.in_grid.is_place_covered.Goals as goal

pub returns-in-Some : goal.returns-in-Some
returns-in-Some c = c.is_number_in_grid.ensures ∙ covered-found (dimension_of c.args.dimension.now) c.args.place c.in-Some.chunk ((c.chunk_of.ensures c.in-Some.chunk).0 c.in-Some.is)

pub returns-in-None : goal.returns-in-None
returns-in-None c = covered-none (dimension_of c.args.dimension.now) c.args.place (λ k t. let e = (c.chunk_of.ensures k).1 t in let n = c.in-None.is in absurd (cc))
