use Rattle.std.proofs.Common.{◌≡◌, ◌∙◌, ◌*◌, ap, sym, arith, rules, length}
use Rattle.zarr_grids_boxes.specs.Boxes.{product}
use Rattle.zarr_grids_boxes.specs.Subsets.{region_of}
use Rattle.zarr_sharding_codec.proofs.TakenStretches.{IsTaken, taken_cells}
use Rattle.zarr_sharding_codec.proofs.subchunks.take_stretches.Goals as goal

pub returns-clause-elements : goal.returns-clause-elements
returns-clause-elements c = λ other.
    let width = c.args.width in
    let bytes = c.args.bytes.now in
    let shape = c.args.shape.now in
    let region = region_of c.args.region.now in
    let ok = c.args.room.ok in
    let many : c.args.room.len ≡ length c.args.room.items = first_of (omega (arith, ok), search rules, cc) in
    let taken : IsTaken width bytes shape region c.as_slice.result.now c.start.result.now c.shape-2.result.now c.args.room.items c.overlaid.result.items = record {
      some = c.requires.positive;
      whole = c.requires.whole;
      inside = c.requires.inside;
      rank = c.args.region.now.same;
      full = sym (c.len.ensures ∙ many) ∙ c.is_full.ensures c.if-not-is_full.false ∙ ap (λ s. product s * width) c.shape.ensures;
      start_is = c.as_slice.ensures.value ∙ c.in_ok-start.ensures;
      ss_is = c.start.ensures;
      es_is = c.shape-2.ensures;
      over = c.overlaid.ensures.over;
    } in
    taken_cells width bytes shape region c.as_slice.result.now c.start.result.now c.shape-2.result.now c.args.room.items c.overlaid.result.items taken other
