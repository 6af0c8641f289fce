use Rattle.std.proofs.Common.{◌≡◌, None, length, refl, subst, sym, true}
use Rattle.std.specs.Prelude.{◌≢◌, IfErr, IfOk}
use Rattle.zarr_grids_boxes.specs.Boxes.{product}
use Rattle.zarr_grids_boxes.specs.Subsets.{region_of}
use Rattle.zarr_codecs_meaning.specs.Types.{IsTooLarge}
use Rattle.zarr_codecs_arrays.specs.Views.{elements_of, payload_of}
use Rattle.zarr_codecs_arrays.specs.declared.error.CodecError.TheVariants as error
use Rattle.zarr_codecs_traits.specs.Arrays.{coded}
use Rattle.zarr_codecs_traits.specs.Indexers.{are_inside, asked_of, listed}
use Rattle.zarr_codecs_traits.specs.Outcomes.{DecodesPart, IsPart}
use Rattle.zarr_codecs_regions.specs.Filling.{AreFill, IsBoxTooLarge}
use Rattle.zarr_codecs_regions.proofs.FillValues.{fills_asked, fills_part}
use Rattle.zarr_codecs_regions.proofs.unstored.fill_asked.Goals as goal

pub returns-in-Subset-clause-part : goal.returns-in-Subset-clause-part
returns-in-Subset-clause-part c = λ chain fit.
    let part = c.args.part in
    let elements = elements_of part.elements.now in
    let region = c.in-Subset.region.now in
    let r = c.fill_array.result in
    let inside = subst (λ i. are_inside part.shape.now (asked_of i) ≡ true) c.in-Subset.is c.requires.inside in
    let ok = subst (λ es. IfOk r (λ made. AreFill elements (product es) (payload_of made))) c.shape.ensures c.fill_array.ensures.ok in
    let err = subst (λ es. IfErr r (λ e. e ≢ error.Memory → (e ≡ error.Size) × IsTooLarge elements.type (product es))) c.shape.ensures c.fill_array.ensures.err in
    subst (λ i. DecodesPart (coded chain elements part.shape.now) None (asked_of i) r) (sym c.in-Subset.is)
    (fills_part chain elements part.shape.now (region_of region) (product (region_of region).shape) r region.same inside fit refl ok err)

pub returns-in-Subset-clause-large : goal.returns-in-Subset-clause-large
returns-in-Subset-clause-large c = λ large.
    let type = (elements_of c.args.part.elements.now).type in
    c.fill_array.ensures.large (subst (λ es. IsTooLarge type (product es)) (sym c.shape.ensures) (subst (λ i. IsBoxTooLarge type (asked_of i)) c.in-Subset.is large))

pub returns-in_ok-fill_values-in-List-clause-part : goal.returns-in_ok-fill_values-in-List-clause-part
returns-in_ok-fill_values-in-List-clause-part c = λ chain fit.
    let part = c.args.part in
    let elements = elements_of part.elements.now in
    let numbers = c.in-List.numbers.now in
    let made = payload_of c.in_ok-fill_values-in-List.field-0 in
    let inside = subst (λ i. are_inside part.shape.now (asked_of i) ≡ true) c.in-List.is c.requires.inside in
    subst (λ i. IsPart (coded chain elements part.shape.now) None (asked_of i) made) (sym c.in-List.is)
    (fills_asked chain elements part.shape.now (listed numbers) (length numbers) made inside refl fit c.in_ok-fill_values-in-List.ensures)

pub returns-in_ok-fill_values-in-List-clause-large : goal.returns-in_ok-fill_values-in-List-clause-large
returns-in_ok-fill_values-in-List-clause-large c = λ large. absurd (subst (λ i. IsBoxTooLarge (elements_of c.args.part.elements.now).type (asked_of i)) c.in-List.is large)

pub returns-in_err-fill_values-in-List-clause-large : goal.returns-in_err-fill_values-in-List-clause-large
returns-in_err-fill_values-in-List-clause-large c = λ large. absurd (subst (λ i. IsBoxTooLarge (elements_of c.args.part.elements.now).type (asked_of i)) c.in-List.is large)
