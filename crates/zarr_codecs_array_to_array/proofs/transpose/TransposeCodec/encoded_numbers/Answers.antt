use Rattle.std.proofs.Common.{◌≡◌, ◌∙◌, ap, map, slice_index, true, List, ℕ}
use Rattle.zarr_grids_boxes.specs.Boxes.{product}
use Rattle.zarr_codecs_meaning.specs.Chains.ArrayCodec.{transpose}
use Rattle.zarr_codecs_meaning.specs.Fits.{array_codec_fits}
use Rattle.zarr_codecs_meaning.specs.Places.{position_of, source_places}
use Rattle.std.proofs.lemmas.Result.{IfOk-weaker}
use Rattle.zarr_codecs_array_to_array.specs.Moving.{picked_number, are_below, are_places, moved_numbers}
use Rattle.zarr_codecs_array_to_array.specs.Views.{order_of}
use Rattle.zarr_codecs_array_to_array.proofs.Routes.{map_below, map_all_below, picked_is, position_below}
use Rattle.zarr_codecs_array_to_array.proofs.transpose.TransposeCodec.encoded_numbers.Goals as goal

-- what stands at the picked numbers, where they are those of the order
moved : (order picks shape encoded numbers made : List ℕ) → array_codec_fits (transpose order) shape ≡ true → are_places shape numbers ≡ true → picks ≡ order → encoded ≡ map (slice_index shape) picks → made ≡ map (picked_number shape picks encoded) numbers → made ≡ moved_numbers (transpose order) shape numbers
moved order picks shape encoded numbers made fit inside p e is =
    let all = e ∙ ap (map (slice_index shape)) p in
    is ∙ (ap (λ k. map (picked_number shape picks k) numbers) all
    ∙ (ap (λ o. map (picked_number shape o (map (slice_index shape) order)) numbers) p
    ∙ map_below (picked_number shape order (map (slice_index shape) order)) (λ n. position_of n (source_places (transpose order) shape)) (product shape) numbers inside (picked_is order shape fit)))

pub returns-clause-moved : goal.returns-clause-moved
returns-clause-moved c =
    let shape = c.args.shape.now in
    let numbers = c.args.numbers.now in
    let order = order_of c.args.self.now.order in
    let picks = c.as_slice-order.result.now in
    let encoded = c.deref.result.now in
    IfOk-weaker c.picked_numbers.result (λ made. made.items ≡ map (picked_number shape picks encoded) numbers) (λ made. made.items ≡ moved_numbers (transpose order) shape numbers)
    (λ made e. moved order picks shape encoded numbers made.items c.requires.fits c.requires.inside c.as_slice-order.ensures (c.deref.ensures.value ∙ c.in_ok-encoded.ensures) e) c.picked_numbers.ensures

pub returns-clause-within : goal.returns-clause-within
returns-clause-within c =
    let shape = c.args.shape.now in
    let numbers = c.args.numbers.now in
    let order = order_of c.args.self.now.order in
    let picks = c.as_slice-order.result.now in
    let encoded = c.deref.result.now in
    let count = product (map (slice_index shape) order) in
    IfOk-weaker c.picked_numbers.result (λ made. made.items ≡ map (picked_number shape picks encoded) numbers) (λ made. are_places (map (slice_index shape) order) made.items ≡ true)
    (λ made e. ap (are_below count) (moved order picks shape encoded numbers made.items c.requires.fits c.requires.inside c.as_slice-order.ensures (c.deref.ensures.value ∙ c.in_ok-encoded.ensures) e)
    ∙ map_all_below (λ n. position_of n (source_places (transpose order) shape)) (product shape) count numbers c.requires.inside (position_below (transpose order) shape c.requires.fits)) c.picked_numbers.ensures
