use Rattle.std.proofs.Common.{◌≡◌, ◌∙◌, length, rules}
use Rattle.zarr_grids_boxes.specs.Subsets.{region_of}
use Rattle.zarr_codecs_regions.proofs.Extracts.{IsPutOver, overlay_gathers, written_over}
use Rattle.zarr_codecs_regions.proofs.extract.extract_box.Goals as goal

pub returns-clause-elements : goal.returns-clause-elements
returns-clause-elements c =
    let size : length c.overlay.new.target ≡ c.in_ok-extracted.extracted.len = search rules in
    let bytes = c.args.bytes.now in
    let shape = c.args.shape.now in
    let region = region_of c.args.region.now in
    let put : IsPutOver c.args.width bytes shape region c.as_slice.result.now c.start.result.now c.shape.result.now c.deref_mut.result.now c.overlay.new.target = record {
      some = c.requires.positive;
      whole = c.requires.whole;
      inside = c.requires.inside;
      rank = c.args.region.now.same;
      start_is = c.as_slice.ensures.value ∙ c.in_ok-start.ensures;
      ss_is = c.start.ensures;
      es_is = c.shape.ensures;
      before_is = c.deref_mut.ensures.value ∙ c.in_ok-extracted.ensures;
      put = c.overlay.ensures;
    } in
    rw (written_over c.in_ok-extracted.extracted.len c.overlay.new.target c.in_ok-extracted.extracted.items size)
    (λ other. overlay_gathers c.args.width bytes shape region c.as_slice.result.now c.start.result.now c.shape.result.now c.deref_mut.result.now c.overlay.new.target other put)
