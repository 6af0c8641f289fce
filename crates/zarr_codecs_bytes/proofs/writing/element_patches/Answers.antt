use Rattle.zarr_grids_boxes.specs.Boxes.{product}
use Rattle.zarr_codecs_meaning.specs.Types.{bytes_in, components}
use Rattle.zarr_codecs_arrays.specs.Views.{elements_of}
use Rattle.zarr_codecs_regions.proofs.AskedPlaces.{asked_places}
use Rattle.zarr_codecs_traits.specs.Indexers.{asked_of, numbers_asked}
use Rattle.zarr_codecs_bytes.proofs.ElementWrites.{ranges_put}
use Rattle.zarr_codecs_bytes.proofs.writing.element_patches.Goals as goal

pub returns : goal.returns
returns c =
    let width = bytes_in (components (elements_of c.args.part.elements.now).type) in
    let shape = c.args.part.shape.now in
    let asked = asked_of c.args.part.indexer in
    ranges_put width c.args.size (product shape) (numbers_asked shape asked) c.args.content.items c.in_ok-ranges.ranges.items (
    record {
      some = c.requires.positive;
      all = c.requires.size;
      small = c.requires.small;
      inside = asked_places shape asked c.requires.inside;
      long = c.requires.long;
      found = c.in_ok-ranges.ensures;
    }
    )
