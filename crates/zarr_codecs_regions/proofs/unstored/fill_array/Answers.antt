use Rattle.std.proofs.Common.{subst, sym}
use Rattle.std.specs.Prelude.{◌≡◌, ◌≢◌, IfErr, IfOk}
use Rattle.zarr_codecs_meaning.specs.Types.{IsTooLarge}
use Rattle.zarr_codecs_arrays.specs.Views.{elements_of, payload_of}
use Rattle.zarr_codecs_arrays.specs.declared.error.CodecError.TheVariants as error
use Rattle.zarr_codecs_regions.specs.Filling.{AreFill}
use Rattle.zarr_codecs_regions.proofs.unstored.fill_array.Goals as goal

pub returns-clause-ok : goal.returns-clause-ok
returns-clause-ok c = subst (λ n. IfOk c.new_fill_value.result (λ made. AreFill (elements_of c.args.elements.now) n (payload_of made))) c.in-Some.ensures.1 c.new_fill_value.ensures.ok

pub returns-clause-err : goal.returns-clause-err
returns-clause-err c = subst (λ n. IfErr c.new_fill_value.result (λ e. e ≢ error.Memory → (e ≡ error.Size) × IsTooLarge (elements_of c.args.elements.now).type n)) c.in-Some.ensures.1 c.new_fill_value.ensures.err

pub returns-clause-large : goal.returns-clause-large
returns-clause-large c = λ large. c.new_fill_value.ensures.large (subst (IsTooLarge (elements_of c.args.elements.now).type) (sym c.in-Some.ensures.1) large)
