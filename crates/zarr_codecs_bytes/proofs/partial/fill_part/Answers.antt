use Rattle.std.proofs.Common.{◌∙◌, ◌<◌, ◌^◌, ap, inl, sym, subst}
use Rattle.zarr_grids_boxes.specs.Boxes.{product}
use Rattle.zarr_grids_boxes.specs.Subsets.{region_of}
use Rattle.zarr_codecs_arrays.specs.Views.{elements_of}
use Rattle.zarr_codecs_regions.proofs.FillValues.{fills_part, larger_too}
use Rattle.zarr_codecs_bytes.proofs.PartDecoding.{at_least}
use Rattle.zarr_codecs_bytes.proofs.partial.fill_part.Goals as goal

pub returns-in_default-clause-part : goal.returns-in_default-clause-part
returns-in_default-clause-part c = λ chain fit.
    larger_too (elements_of c.args.part.elements.now).type c.args.part.shape.now (region_of c.args.part.region.now) c.args.part.region.now.same c.args.part.inside
    (inl (at_least (product c.args.part.region.now.shape.items) (2 ^ 63) (λ below. c.in_default.ensures (subst (λ es. product es < 2 ^ 63) (sym c.shape.ensures) below))))

pub returns-clause-part : goal.returns-clause-part
returns-clause-part c = λ chain fit.
    fills_part chain (elements_of c.args.part.elements.now) c.args.part.shape.now (region_of c.args.part.region.now) c.in-Some.count c.new_fill_value.result c.args.part.region.now.same c.args.part.inside fit (c.in-Some.ensures.1 ∙ ap product c.shape.ensures)
    c.new_fill_value.ensures.ok c.new_fill_value.ensures.err
