use Rattle.std.proofs.Common.{◌≡◌, ◌∙◌, ap, sym, List, length, arith}
use Rattle.zarr_grids_boxes.specs.Subsets.{region_of}
use Rattle.zarr_codecs_arrays.specs.Views.{elements_of}
use Rattle.zarr_codecs_traits.specs.Indexers.{in_box}
use Rattle.zarr_codecs_traits.specs.declared.byte_range.ByteRange.{ByteRange}
use Rattle.zarr_codecs_bytes.specs.Views.{bytes_chain}
use Rattle.zarr_codecs_bytes.proofs.PartBytes.{part_most}
use Rattle.zarr_codecs_bytes.proofs.PartReading.{part_unread, ranges_within, sized_value}
use Rattle.zarr_codecs_bytes.proofs.reading.read_sized.Goals as goal
use Rattle.zarr_codecs_traits.specs.Sources.{bytes_in_ranges}

pub returns-in-Ok-Some-clause-given : goal.returns-in-Ok-Some-clause-given
returns-in-Ok-Some-clause-given g c = λ honest.
    let D = g.D.BytesPartialDecoderTraits in
    let contents = D.contents c.args.source.now in
    let v = sized_value contents c.args.total (c.requires.sized honest) in
    let found = c.in_ok-found.found in
    let whole : length v.0 ≡ found.size = v.2 ∙ (c.if-total-size.false ∙ (c.in-Ok.ensures.ok ∙ sym c.in_ok-found.ensures.size)) in
    let most = part_most c.args.codec c.args.part contents v.0 (bytes_in_ranges v.0 found.ranges.items) v.1 (c.in_ok-found.ensures.are v.0 whole) in
    let same = ap (λ (ranges : List ByteRange). length (bytes_in_ranges v.0 ranges)) c.as_slice.ensures.value in
    omega (arith, most, same, c.fetch_ranges.ensures.given honest v.0 v.1)

pub returns-clause-part : goal.returns-clause-part
returns-clause-part g c = λ honest.
    let D = g.D.BytesPartialDecoderTraits in
    let contents = D.contents c.args.source.now in
    let part = c.args.part in
    let v = sized_value contents c.args.total (c.requires.sized honest) in
    let found = c.in_ok-found.found in
    let whole : length v.0 ≡ found.size = v.2 ∙ (c.if-total-size.false ∙ (c.in-Ok.ensures.ok ∙ sym c.in_ok-found.ensures.size)) in
    let within = ranges_within v.0 found.size found.ranges.items c.as_slice.result.now whole c.as_slice.ensures.value c.in_ok-found.ensures.within in
    part_unread (bytes_chain c.args.codec) (elements_of part.elements.now) part.shape.now contents (in_box (region_of part.region.now)) c.in-Err-fetch_ranges.error (c.in-Err-fetch_ranges.ensures.cause honest v.0 v.1 within)

pub returns-clause-given : goal.returns-clause-given
returns-clause-given g c = λ honest.
    let D = g.D.BytesPartialDecoderTraits in
    let contents = D.contents c.args.source.now in
    let v = sized_value contents c.args.total (c.requires.sized honest) in
    let found = c.in_ok-found.found in
    let whole : length v.0 ≡ found.size = v.2 ∙ (c.if-total-size.false ∙ (c.in-Ok.ensures.ok ∙ sym c.in_ok-found.ensures.size)) in
    let most = part_most c.args.codec c.args.part contents v.0 (bytes_in_ranges v.0 found.ranges.items) v.1 (c.in_ok-found.ensures.are v.0 whole) in
    let same = ap (λ (ranges : List ByteRange). length (bytes_in_ranges v.0 ranges)) c.as_slice.ensures.value in
    omega (arith, most, same, c.fetch_ranges.ensures.given honest v.0 v.1)
