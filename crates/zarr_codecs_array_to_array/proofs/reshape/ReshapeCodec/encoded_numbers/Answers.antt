use Rattle.std.proofs.Common.{◌≡◌, true, refl}
use Rattle.std.proofs.lemmas.Result.{IfOk-weaker}
use Rattle.zarr_codecs_meaning.specs.Places.{encoded_shape}
use Rattle.zarr_codecs_array_to_array.specs.Moving.{are_places, moved_numbers}
use Rattle.zarr_codecs_array_to_array.specs.Views.{reshape_of}
use Rattle.zarr_codecs_array_to_array.proofs.Routes.{kept_moved, kept_within}
use Rattle.zarr_codecs_array_to_array.proofs.reshape.ReshapeCodec.encoded_numbers.Goals as goal

pub returns-clause-moved : goal.returns-clause-moved
returns-clause-moved c =
    let codec = reshape_of c.args.self.now in
    let shape = c.args.shape.now in
    let numbers = c.args.numbers.now in
    IfOk-weaker c.copied.result (λ made. made.items ≡ numbers) (λ made. made.items ≡ moved_numbers codec shape numbers)
    (λ made e. kept_moved codec shape numbers made.items refl c.requires.inside e) c.copied.ensures

pub returns-clause-within : goal.returns-clause-within
returns-clause-within c =
    let codec = reshape_of c.args.self.now in
    let shape = c.args.shape.now in
    let numbers = c.args.numbers.now in
    IfOk-weaker c.copied.result (λ made. made.items ≡ numbers) (λ made. are_places (encoded_shape codec shape) made.items ≡ true)
    (λ made e. kept_within codec shape numbers made.items c.requires.fits c.requires.inside e) c.copied.ensures
