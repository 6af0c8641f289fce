use Rattle.std.proofs.Common.{◌≡◌, ◌∙◌, ◌++◌, ◌+◌, [], ◌∷◌, ap, refl, rules, sym}
use Rattle.std.specs.List.{flat_map, range_with_len}
use Rattle.zarr_codecs_bytes.proofs.BoxRanges.{row_ranges, rows_found, rows_more, whole_found}
use Rattle.zarr_codecs_bytes.proofs.lines.ranges_of_rows.Goals as goal

pub returns-then-is_whole : goal.returns-then-is_whole
returns-then-is_whole c =
    let row = c.args.row.now in
    let whole : row.ranges.items ≡ record { offset = 0; length = row.size } ∷ [] = search rules in
    whole_found row c.args.start c.args.count c.args.rows c.one_range.result c.requires.fit whole c.one_range.ensures.size c.one_range.ensures.range

pub loop-n-preserved : goal.loop-n-preserved
loop-n-preserved c =
    let row = c.args.row.now in
    c.in_ok-push_row.ensures ∙ (ap (λ ranges. ranges ++ row_ranges row (c.args.start + c.loop-n.n)) c.loop-n.invariant ∙ sym (rows_more row c.args.start c.loop-n.n))

pub returns : goal.returns
returns c =
    let row = c.args.row.now in
    let done : c.loop-n.n ≡ c.args.count = search rules in
    rows_found row c.args.start c.args.count c.args.rows _ c.requires.fit c.requires.within refl (c.loop-n.invariant ∙ ap (λ n. flat_map (row_ranges row) (range_with_len c.args.start n)) done)
