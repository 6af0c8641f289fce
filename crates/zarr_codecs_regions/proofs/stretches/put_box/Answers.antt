use Rattle.std.proofs.Common.{◌∙◌, sym}
use Rattle.zarr_grids_boxes.specs.Subsets.{region_of}
use Rattle.zarr_codecs_regions.proofs.BoxPuts.{IsBoxPut, box_put}
use Rattle.zarr_codecs_regions.proofs.stretches.put_box.Goals as goal

pub returns-clause-elements : goal.returns-clause-elements
returns-clause-elements c =
    let shape = c.args.shape.now in
    let region = region_of c.args.region.now in
    let put : IsBoxPut c.args.width shape region c.as_slice.result.now c.start.result.now c.shape.result.now c.args.bytes.items c.args.given.now c.overlaid.result.items = record {
      some = c.requires.positive;
      whole = c.requires.whole;
      long = c.requires.given;
      inside = c.requires.inside;
      rank = sym c.args.region.now.same;
      start_is = c.as_slice.ensures.value ∙ c.in_ok-start.ensures;
      ss_is = c.start.ensures;
      es_is = c.shape.ensures;
      over = c.overlaid.ensures.over;
    } in
    box_put c.args.width shape region c.as_slice.result.now c.start.result.now c.shape.result.now c.args.bytes.items c.args.given.now c.overlaid.result.items put
