use Rattle.std.proofs.Common.{◌≡◌, ◌∙◌, ap, map, length, Some}
use Rattle.std.proofs.lemmas.Result.{IfOk-weaker}
use Rattle.zarr_codecs_meaning.specs.Payloads.{cells_in}
use Rattle.zarr_codecs_meaning.specs.Places.{gather, place_numbers}
use Rattle.zarr_codecs_arrays.specs.Views.{elements_of, payload_of}
use Rattle.zarr_codecs_array_to_array.specs.Moving.{are_below, picked_number}
use Rattle.zarr_codecs_array_to_array.proofs.walks.gather_listed.Goals as goal

pub returns : goal.returns
returns c cells h all =
    let from = c.args.route.from.now in
    let to = c.args.route.to.now in
    let picked = map (picked_number from c.args.route.picks.now to) in
    let elements = elements_of c.args.elements.now in
    let given = c.deref-2.result.now in
    let is : given ≡ picked (place_numbers from) = c.deref-2.ensures.value ∙ (c.in_ok-numbers-2.ensures ∙ ap picked (c.deref.ensures.value ∙ c.in_ok-numbers.ensures)) in
    IfOk-weaker c.gather_elements.result (λ made. cells_in elements.type (payload_of made) ≡ Some (gather elements.fill cells given)) (λ made. cells_in elements.type (payload_of made) ≡ Some (gather elements.fill cells (picked (place_numbers from))))
    (λ made e. e ∙ ap (λ ns. Some (gather elements.fill cells ns)) is) (c.gather_elements.ensures cells h (ap (are_below (length cells)) is ∙ all))
