use Rattle.std.proofs.Common.{◌∙◌, ap, min}
use Rattle.zarr_grids_dimensions.specs.Dimensions.{dimension_of}
use Rattle.zarr_grids_dimensions.proofs.Declared.{always_dimension}
use Rattle.zarr_grids_cover.proofs.BoxedChunks.{counted_all, counted_before}
use Rattle.zarr_grids_cover.proofs.boxed.count_addressable.Goals as goal

pub returns-in-Some : goal.returns-in-Some
returns-in-Some c = counted_before (dimension_of c.args.dimension.now) c.in-Some.chunk c.min.result (always_dimension c.args.dimension.now) ((c.chunk_of.ensures c.in-Some.chunk).0 c.in-Some.is) (c.min.ensures ∙ ap (λ n. min n c.in-Some.chunk) c.chunk_count-count.ensures)

pub returns-in-None : goal.returns-in-None
returns-in-None c = c.chunk_count-count.ensures ∙ counted_all (dimension_of c.args.dimension.now) (always_dimension c.args.dimension.now) (λ k t. let e = (c.chunk_of.ensures k).1 t in let n = c.in-None.is in absurd (cc))
