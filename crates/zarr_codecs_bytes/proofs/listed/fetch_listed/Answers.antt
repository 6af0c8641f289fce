use Rattle.std.proofs.Common.{◌∙◌, ap, arith}
use Rattle.zarr_grids_boxes.specs.Boxes.{product}
use Rattle.zarr_codecs_bytes.specs.Parts.{listed_width}
use Rattle.zarr_codecs_bytes.proofs.PartBytes.{found_listed, numbers_end, ranges_listed}
use Rattle.zarr_codecs_bytes.proofs.PartReading.{ranges_within}
use Rattle.zarr_codecs_bytes.proofs.listed.fetch_listed.Goals as goal
use Rattle.zarr_codecs_traits.specs.Sources.{bytes_in_ranges}

pub number_ranges-requires : goal.number_ranges-requires
number_ranges-requires g c = numbers_end c.args.sizes (listed_width c.args.part) (product c.args.part.shape.now) c.args.part.numbers.now c.requires.width c.requires.line c.requires.value c.args.part.inside

pub returns-clause-has : goal.returns-clause-has
returns-clause-has g c = λ honest value is long.
    let ranges = c.as_slice.result.now in
    let read = ap (bytes_in_ranges value) c.as_slice.ensures.value ∙ c.in_ok-ranges.ensures.are value in
    let has = ranges_listed c.args.part c.args.sizes value (bytes_in_ranges value ranges) c.requires.positive c.requires.width c.requires.line (long ∙ c.requires.value) read in
    found_listed c.fetch_ranges.result c.args.part value (bytes_in_ranges value ranges) has (c.fetch_ranges.ensures.bytes honest value is)

pub returns-clause-cause : goal.returns-clause-cause
returns-clause-cause g c = λ honest value is long.
    c.fetch_ranges.ensures.cause honest value is (ranges_within value c.args.sizes.value c.in_ok-ranges.ranges.items c.as_slice.result.now long c.as_slice.ensures.value c.in_ok-ranges.ensures.within)

pub returns-clause-given : goal.returns-clause-given
returns-clause-given g c = λ honest value is long.
    let ranges = c.as_slice.result.now in
    let read = ap (bytes_in_ranges value) c.as_slice.ensures.value ∙ c.in_ok-ranges.ensures.are value in
    let has = ranges_listed c.args.part c.args.sizes value (bytes_in_ranges value ranges) c.requires.positive c.requires.width c.requires.line (long ∙ c.requires.value) read in
    omega (arith, has.are.long, c.fetch_ranges.ensures.given honest value is)
