use Rattle.std.proofs.Common.{◌≡◌, ◌∙◌, ap, sym, subst, true, Some, rules}
use Rattle.zarr_codecs_meaning.specs.Decoding.{elements_of}
use Rattle.zarr_codecs_meaning.specs.Payloads.{variable}
use Rattle.zarr_codecs_arrays.specs.Offsets.{are_rising}
use Rattle.zarr_codecs_arrays.specs.Views.{payload_of, numbers_of}
use Rattle.zarr_codecs_sections.specs.Outcomes.{IsCut}
use Rattle.zarr_codecs_sections.proofs.CutElements.{not_ends, not_rising, is_cut, byte_content, same_test}
use Rattle.zarr_codecs_sections.proofs.content.cut_elements.Goals as goal

pub returns-then-not-are_ends : goal.returns-then-not-are_ends
returns-then-not-are_ends c bytes is =
    let offsets = c.args.offsets.items in
    let content = c.in-Fixed.content.items in
    let known = byte_content (payload_of c.args.content) content bytes (ap payload_of c.in-Fixed.is) is in
    let test = same_test c.are_ends.result c.as_slice.result.now offsets c.len.result content c.are_ends.ensures c.as_slice.ensures.value (search rules) in
    ap (λ ns. elements_of (λ long. Some ns) offsets) known ∙ not_ends offsets content (sym test ∙ c.if-not-are_ends.true)

pub returns-in-Some : goal.returns-in-Some
returns-in-Some c bytes is =
    let offsets = c.args.offsets.items in
    let content = c.in-Fixed.content.items in
    let known = byte_content (payload_of c.args.content) content bytes (ap payload_of c.in-Fixed.is) is in
    let test = same_test c.are_ends.result c.as_slice.result.now offsets c.len.result content c.are_ends.ensures c.as_slice.ensures.value (search rules) in
    let same : numbers_of c.in-Some.offsets ≡ offsets = c.in-Some.ensures.some in
    let rising : are_rising offsets ≡ true = sym (ap are_rising same) ∙ c.in-Some.offsets.rising in
    subst (λ ns. IsCut offsets ns (variable content (numbers_of c.in-Some.offsets))) (sym known)
    (is_cut offsets content (variable content (numbers_of c.in-Some.offsets)) rising (sym test ∙ c.if-not-are_ends.false) (ap (variable content) same))

pub returns-in-None : goal.returns-in-None
returns-in-None c bytes is =
    let offsets = c.args.offsets.items in
    let content = c.in-Fixed.content.items in
    let known = byte_content (payload_of c.args.content) content bytes (ap payload_of c.in-Fixed.is) is in
    ap (λ ns. elements_of (λ long. Some ns) offsets) known ∙ not_rising offsets content c.in-None.ensures.none
