use Rattle.std.proofs.Common.{◌∙◌, sym}
use Rattle.zarr_grids_boxes.specs.Subsets.{region_of}
use Rattle.zarr_codecs_regions.proofs.InsideArray.{empty_inside, ends_inside}
use Rattle.zarr_codecs_regions.proofs.inside.is_inside.Goals as goal

pub returns-then-is_empty : goal.returns-then-is_empty
returns-then-is_empty c = empty_inside c.args.shape.now (region_of c.args.region.now) c.args.region.now.same (sym c.dimensionality.ensures ∙ c.if-dimensionality-shape.false) (c.is_empty.ensures.0 c.if-is_empty.true)

pub returns : goal.returns
returns c = ends_inside c.args.shape.now (region_of c.args.region.now) c.inbounds_shape.result c.args.region.now.same (sym c.dimensionality.ensures ∙ c.if-dimensionality-shape.false) (λ none. let e = c.is_empty.ensures.1 none in let f = c.if-is_empty.false in absurd (cc)) c.inbounds_shape.ensures.inside.0 c.inbounds_shape.ensures.inside.1
