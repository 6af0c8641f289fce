use Rattle.std.proofs.Common.{◌^◌, length, arith, ap, ◌∙◌}
use Rattle.zarr_codecs_types.specs.Views.{sign_of}
use Rattle.zarr_codecs_types.proofs.Bytes.{each_byte}
use Rattle.zarr_codecs_types.proofs.Extended.{number_below}
use Rattle.zarr_codecs_types.proofs.IntegerValues.{power_less}
use Rattle.zarr_codecs_types.proofs.IntegerWords.{below_one, from_high}
use Rattle.zarr_codecs_types.proofs.fill_writing.integer_from.Goals as goal

pub pow-requires-else-word-pow : goal.pow-requires-else-word-pow
pow-requires-else-word-pow c = let few = power_less (length c.args.bytes.now) 8 c.requires.few in omega arith

pub overflow_sub-below : goal.overflow_sub-below
overflow_sub-below c = let below = number_below c.args.bytes.now (each_byte c.args.bytes.now c.type_inv.bytes) in omega (arith, c.number-word.ensures, c.pow-else-word-pow.ensures)

pub overflow_cast-result-else-word-pow : goal.overflow_cast-result-else-word-pow
overflow_cast-result-else-word-pow c = let few = power_less (length c.args.bytes.now) 8 c.requires.few in omega (arith, c.pow-else-word-pow.ensures)

pub returns-else-word-pow : goal.returns-else-word-pow
returns-else-word-pow c =
    let few = power_less (length c.args.bytes.now) 8 c.requires.few in
    below_one _ (omega (arith, c.pow-else-word-pow.ensures))
    ∙ from_high (sign_of c.args.sign) c.args.width c.args.bytes.now c.number-word.result c.pow-else-word-pow.result c.pow.result (ap sign_of c.in-Signed.is) (c.pow.ensures ∙ ap (λ n. 2 ^ n) c.saturating_sub.ensures) c.if-word-pow.false c.number-word.ensures c.pow-else-word-pow.ensures
