use Rattle.std.proofs.Common.{◌∙◌, ap, unwrap_or}
use Rattle.zarr_grids_cover.proofs.LargestEdges.{regular-largest, clipped-largest, varying-largest, varying-few}
use Rattle.zarr_grids_cover.proofs.sizes.largest_edge.Goals as goal

pub largest_among-requires-clause-few : goal.largest_among-requires-clause-few
largest_among-requires-clause-few c = varying-few c.in-Varying.edges c.repeats.result.now c.repeats.ensures

pub returns-in-Regular : goal.returns-in-Regular
returns-in-Regular c = regular-largest c.args.dimension.now c.in-Regular.fixed c.args.first c.args.count c.in-Regular.is c.requires.some

pub returns-in-Varying : goal.returns-in-Varying
returns-in-Varying c = varying-largest c.args.dimension.now c.in-Varying.edges c.repeats.result.now c.args.first c.args.count _ c.in-Varying.is c.repeats.ensures c.requires.some c.requires.below c.largest_among.ensures.largest c.largest_among.ensures.among

pub returns-in-Clipped : goal.returns-in-Clipped
returns-in-Clipped c = clipped-largest c.args.dimension.now c.in-Clipped.field-0 c.args.first c.args.count _ c.in-Clipped.is c.requires.some (c.unwrap_or.ensures ∙ ap (λ o. unwrap_or o 0) c.count_of.ensures)
