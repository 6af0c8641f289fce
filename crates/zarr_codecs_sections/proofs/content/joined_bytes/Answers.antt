use Rattle.std.proofs.Common.{◌≡◌, ◌∙◌, ap, sym, drop, true}
use Rattle.std.specs.Prelude.{slice_get}
use Rattle.zarr_codecs_meaning.specs.Types.{are_bytes}
use Rattle.zarr_codecs_meaning.proofs.Digits.{bytes_below}
use Rattle.zarr_codecs_arrays.specs.Views.{payload_of, numbers_of}
use Rattle.zarr_codecs_sections.specs.Outcomes.{IsContent}
use Rattle.zarr_codecs_sections.proofs.OffsetNumbers.{variable_offsets, variable_parts, content_is, both_weaker}
use Rattle.zarr_codecs_sections.proofs.content.joined_bytes.Goals as goal

pub returns-in-Some : goal.returns-in-Some
returns-in-Some c type cells v is =
    let bytes = c.in-Variable.bytes.items in
    let offsets = numbers_of c.in-Variable.offsets in
    let first = c.in-Some.first.now in
    let inside = variable_parts type (payload_of c.args.elements) offsets bytes cells v (ap payload_of c.in-Variable.is) is in
    let o = variable_offsets offsets bytes first cells (c.in-Some.ensures.value ∙ ap (λ ns. slice_get ns 0) c.as_slice.ensures) inside in
    both_weaker c.from_first.result (λ content. content.items ≡ drop first bytes) (λ content. are_bytes content.items ≡ true) (λ content. IsContent cells content.items)
    (λ content e h. content_is content.items cells (e ∙ sym o.joined) (bytes_below content.items h)) c.from_first.ensures.value c.from_first.ensures.bytes
