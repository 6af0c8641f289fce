use Rattle.zarr_codecs_arrays.proofs.Filled.{fill_stops, fill_of_offsets}
use Rattle.zarr_codecs_arrays.proofs.fills.are_copies_between.Goals as goal

pub returns-then-not-is_between : goal.returns-then-not-is_between
returns-then-not-is_between c =
    let element = c.args.element.now in
    let bytes = c.args.bytes.now in
    let ends = c.in-Some.ends.now in
    let first = c.in-Some.first.now in
    let stops = fill_stops element bytes ends first c.loop-end.start c.loop-end.end-index c.is_between.result c.loop-end.invariant c.loop-end-test.true c.is_between.ensures c.if-not-is_between.true in
    fill_of_offsets element bytes c.args.offsets.now ends first c.in-Some.ensures.cases.0 stops
