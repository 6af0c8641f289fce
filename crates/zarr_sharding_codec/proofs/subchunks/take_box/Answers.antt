use Rattle.std.proofs.Common.{ap}
use Rattle.zarr_grids_boxes.specs.Boxes.{product}
use Rattle.zarr_grids_boxes.specs.Subsets.{region_of}
use Rattle.zarr_codecs_arrays.specs.Views.{elements_of, payload_of}
use Rattle.zarr_codecs_traits.specs.Indexers.{numbers_of}
use Rattle.zarr_sharding_codec.proofs.StoredParts.{box_taken}
use Rattle.zarr_sharding_codec.proofs.subchunks.take_box.Goals as goal

pub returns-in_ok-piece-in-Some : goal.returns-in_ok-piece-in-Some
returns-in_ok-piece-in-Some c = λ cells counted.
    let elements = elements_of c.args.array.elements.now in
    let width = c.in-Some.ensures in
    box_taken elements.type c.in-Some.width (product c.args.region.now.shape.items) elements.fill (payload_of c.args.bytes.now) c.in-Fixed.bytes.items c.as_slice.result.now c.in_ok-piece-in-Some.piece.items
    (numbers_of c.args.array.shape.now (region_of c.args.region.now)) cells width.2 width.0 c.in_ok-piece-in-Some.ensures.length (ap payload_of c.in-Fixed.is) c.as_slice.ensures.value counted.lists
    (c.in_ok-piece-in-Some.ensures.elements elements.fill)
