use Rattle.std.proofs.Common.{◌∙◌, refl, sym}
use Rattle.std.proofs.lemmas.Bool.{false≢true}
use Rattle.zarr_codecs_arrays.proofs.array_bytes.ArrayBytes.new_fill_value.Goals as goal

pub returns-then-is_too_large-clause-err : goal.returns-then-is_too_large-clause-err
returns-then-is_too_large-clause-err c = λ q. (refl, c.is_too_large.ensures.0 c.if-is_too_large.true)

pub returns-clause-large : goal.returns-clause-large
returns-clause-large c = λ large. absurd (false≢true (sym c.if-is_too_large.false ∙ c.is_too_large.ensures.1 large))

pub returns-in_err-fill_values-clause-large : goal.returns-in_err-fill_values-clause-large
returns-in_err-fill_values-clause-large c = λ large. absurd (false≢true (sym c.if-is_too_large.false ∙ c.is_too_large.ensures.1 large))
