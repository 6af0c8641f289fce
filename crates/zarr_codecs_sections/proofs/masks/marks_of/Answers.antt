use Rattle.std.proofs.Common.{◌≡◌, ◌∙◌, ap, map}
use Rattle.std.proofs.lemmas.Result.{IfOk-weaker}
use Rattle.zarr_codecs_meaning.specs.Decoding.{count_present}
use Rattle.zarr_codecs_arrays.specs.Views.{payload_of}
use Rattle.zarr_codecs_sections.specs.Marks.{count_ones, mark_of}
use Rattle.zarr_codecs_sections.proofs.MaskCells.{clean_counted}
use Rattle.zarr_codecs_sections.proofs.masks.marks_of.Goals as goal

pub returns-in-Fixed-clause-count : goal.returns-in-Fixed-clause-count
returns-in-Fixed-clause-count c masks is =
    let numbers = c.in-Fixed.numbers.items in
    IfOk-weaker c.clean_marks.result (λ marks. marks.items ≡ map mark_of c.as_slice.result.now) (λ marks. count_ones marks.items ≡ count_present masks)
    (λ marks e. clean_counted (payload_of c.args.mask.now) numbers marks.items masks (ap payload_of c.in-Fixed.is) is (e ∙ ap (map mark_of) c.as_slice.ensures.value)) c.clean_marks.ensures
