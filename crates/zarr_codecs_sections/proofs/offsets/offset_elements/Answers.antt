use Rattle.std.proofs.Common.{◌≡◌, ◌<◌, ◌∙◌, ◌-◌, ◌^◌, ap, arith, flat_map}
use Rattle.std.specs.Prelude.{slice_get}
use Rattle.zarr_codecs_meaning.specs.Encoding.{last_number}
use Rattle.zarr_codecs_meaning.specs.Numbers.{digits}
use Rattle.zarr_codecs_arrays.specs.Views.{payload_of, numbers_of}
use Rattle.zarr_codecs_sections.specs.Views.{width_of}
use Rattle.zarr_codecs_sections.proofs.OffsetNumbers.{variable_offsets, variable_parts, indexed}
use Rattle.zarr_codecs_sections.proofs.offsets.offset_elements.Goals as goal

pub returns-then-saturating_sub-greatest : goal.returns-then-saturating_sub-greatest
returns-then-saturating_sub-greatest c type cells v is =
    let bytes = c.in-Variable.field-0.items in
    let offsets = numbers_of c.in-Variable.offsets in
    let first = c.in-Some.first.now in
    let inside = variable_parts type (payload_of c.args.elements.now) offsets bytes cells v (ap payload_of c.in-Variable.is) is in
    let o = variable_offsets offsets bytes first cells (c.in-Some.ensures.value ∙ ap (λ ns. slice_get ns 0) c.as_slice-offsets.ensures) inside in
    let last : c.last_offset.result ≡ last_number 0 offsets = c.last_offset.ensures ∙ ap (last_number 0) c.as_slice-offsets.ensures in
    omega (arith, o.last, last, c.saturating_sub.ensures, c.greatest.ensures, c.if-saturating_sub-greatest.true)

pub returns : goal.returns
returns c type cells v is =
    let width = width_of c.args.index_data_type in
    let bytes = c.in-Variable.field-0.items in
    let offsets = numbers_of c.in-Variable.offsets in
    let first = c.in-Some.first.now in
    let inside = variable_parts type (payload_of c.args.elements.now) offsets bytes cells v (ap payload_of c.in-Variable.is) is in
    let o = variable_offsets offsets bytes first cells (c.in-Some.ensures.value ∙ ap (λ ns. slice_get ns 0) c.as_slice-offsets.ensures) inside in
    let last : c.last_offset.result ≡ last_number 0 offsets = c.last_offset.ensures ∙ ap (last_number 0) c.as_slice-offsets.ensures in
    let low : last_number 0 offsets - first < 2 ^ width = omega (arith, last, c.saturating_sub.ensures, c.greatest.ensures, c.if-saturating_sub-greatest.false) in
    let made = c.in_ok-bytes.ensures ∙ ap (flat_map (λ n. digits 256 c.byte_count.result (n - first))) c.as_slice-offsets.ensures in
    indexed width c.byte_count.result first offsets bytes c.in_ok-bytes.bytes.items cells c.byte_count.ensures.count c.byte_count.ensures.some o made low
