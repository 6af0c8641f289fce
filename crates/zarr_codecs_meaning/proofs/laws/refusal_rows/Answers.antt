use Rattle.std.proofs.Common.{[], ◌∷◌, refl, inr}
use Rattle.zarr_codecs_meaning.proofs.WorkedRefusals.{bits_taken, index_taken, others_taken}
use Rattle.zarr_codecs_meaning.proofs.laws.refusal_rows.Goals as goal

pub returns : goal.returns
returns c = record {
  zeros = inr (0 ∷ 0 ∷ [], refl, refl);
  others = others_taken;
  index_of_slices = index_taken;
  index_of_bits = bits_taken;
}
