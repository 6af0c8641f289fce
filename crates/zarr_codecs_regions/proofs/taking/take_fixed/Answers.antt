use Rattle.zarr_grids_boxes.specs.Boxes.{product}
use Rattle.zarr_grids_boxes.specs.Subsets.{region_of}
use Rattle.zarr_codecs_types.specs.Views.{type_of}
use Rattle.zarr_codecs_traits.specs.Indexers.{numbers_of}
use Rattle.zarr_codecs_regions.proofs.BoxPayloads.{box_payload}
use Rattle.zarr_codecs_regions.proofs.taking.take_fixed.Goals as goal

pub returns : goal.returns
returns c cells other h =
    let region = region_of c.args.region.now in
    box_payload (type_of c.args.data_type.now) c.in-Some.width (product region.shape) c.args.bytes.now _ cells other (numbers_of c.args.shape.now region) c.in-Some.ensures.2 h (c.in_ok-taken.ensures.elements other) c.in_ok-taken.ensures.length
