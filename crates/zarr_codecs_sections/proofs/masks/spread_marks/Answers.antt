use Rattle.std.proofs.Common.{◌≡◌, ◌∙◌, ap, length}
use Rattle.std.proofs.lemmas.Result.{IfOk-weaker}
use Rattle.zarr_codecs_meaning.specs.Decoding.{count_present}
use Rattle.zarr_codecs_arrays.specs.Views.{payload_of}
use Rattle.zarr_codecs_sections.specs.Marks.{count_ones, spread_marks}
use Rattle.zarr_codecs_sections.proofs.Choices.{length-spread_marks}
use Rattle.zarr_codecs_sections.proofs.MaskCells.{spread_counted}
use Rattle.zarr_codecs_sections.proofs.masks.spread_marks.Goals as goal

pub returns-in-Fixed-clause-count : goal.returns-in-Fixed-clause-count
returns-in-Fixed-clause-count c masks is many =
    let numbers = c.in-Fixed.numbers.items in
    let outer = c.args.outer.now in
    IfOk-weaker c.spread_numbers.result (λ marks. marks.items ≡ spread_marks outer c.as_slice.result.now) (λ marks. count_ones marks.items ≡ count_present masks)
    (λ marks e. spread_counted (payload_of c.args.mask.now) outer numbers marks.items masks (ap payload_of c.in-Fixed.is) is many (e ∙ ap (spread_marks outer) c.as_slice.ensures.value)) c.spread_numbers.ensures

pub returns-in-Fixed-clause-many : goal.returns-in-Fixed-clause-many
returns-in-Fixed-clause-many c =
    let outer = c.args.outer.now in
    IfOk-weaker c.spread_numbers.result (λ marks. marks.items ≡ spread_marks outer c.as_slice.result.now) (λ marks. length marks.items ≡ length outer)
    (λ marks e. ap length e ∙ length-spread_marks outer c.as_slice.result.now) c.spread_numbers.ensures
