use Rattle.std.proofs.Common.{◌≡◌, true, refl}
use Rattle.std.proofs.lemmas.Result.{IfOk-weaker}
use Rattle.zarr_codecs_meaning.specs.Chains.ArrayCodec.{squeeze}
use Rattle.zarr_codecs_meaning.specs.Places.{squeezed}
use Rattle.zarr_codecs_array_to_array.specs.Moving.{are_places, moved_numbers}
use Rattle.zarr_codecs_array_to_array.proofs.Routes.{kept_moved, kept_within}
use Rattle.zarr_codecs_array_to_array.proofs.squeeze.SqueezeCodec.encoded_numbers.Goals as goal

pub returns-clause-moved : goal.returns-clause-moved
returns-clause-moved c =
    let shape = c.args.shape.now in
    let numbers = c.args.numbers.now in
    IfOk-weaker c.copied.result (λ made. made.items ≡ numbers) (λ made. made.items ≡ moved_numbers squeeze shape numbers)
    (λ made e. kept_moved squeeze shape numbers made.items refl c.requires.inside e) c.copied.ensures

pub returns-clause-within : goal.returns-clause-within
returns-clause-within c =
    let shape = c.args.shape.now in
    let numbers = c.args.numbers.now in
    IfOk-weaker c.copied.result (λ made. made.items ≡ numbers) (λ made. are_places (squeezed shape) made.items ≡ true)
    (λ made e. kept_within squeeze shape numbers made.items refl c.requires.inside e) c.copied.ensures
