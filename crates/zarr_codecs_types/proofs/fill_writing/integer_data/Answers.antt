use Rattle.std.proofs.Common.{◌∙◌, sym, subst, rules}
use Rattle.std.specs.Prelude.{FitsSigned}
use Rattle.std.specs.Int.{FitsUnsigned}
use Rattle.std.proofs.lemmas.Int.{to_z-of_z}
use mir.Val.{SFits}
use mir.Syntax.{w64, w128}
use Rattle.zarr_codecs_types.specs.Views.{sign_of}
use Rattle.zarr_codecs_types.proofs.IntegerValues.{integer_value}
use Rattle.zarr_codecs_types.proofs.IntegerWords.{from_in_word}
use Rattle.zarr_codecs_types.proofs.fill_writing.integer_data.Goals as goal

pub returns-in-None : goal.returns-in-None
returns-in-None c =
    let value = integer_value (sign_of c.args.sign) c.args.width c.args.bytes.now c.requires.value in
    let fits : SFits w128 c.integer_from-integer.result = search rules in
    let passed = to_z-of_z w128 c.integer_from-integer.result fits ∙ c.integer_from-integer.ensures in
    absurd (from_in_word (sign_of c.args.sign) c.args.width c.args.bytes.now c.requires.narrow value
    (λ h. c.in-None.ensures.0 (subst (FitsUnsigned w64) (sym passed) h)) (λ h. c.in-None.ensures.1 (subst (FitsSigned w64) (sym passed) h)))
