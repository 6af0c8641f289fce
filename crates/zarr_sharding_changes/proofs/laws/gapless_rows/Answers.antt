use Rattle.std.proofs.Common.{[], ◌∷◌, refl}
use Rattle.zarr_codecs_meaning.specs.Encoding.{absent_pair}
use Rattle.zarr_sharding_changes.specs.WorkedGapless.{first_two}
use Rattle.zarr_sharding_changes.proofs.WorkedGapless.{gap_found, inner_gap_found, slices_overlap}
use Rattle.zarr_sharding_changes.proofs.laws.gapless_rows.Goals as goal

pub returns : goal.returns
returns c = record {
  plain = tt;
  no_gap = λ _. (refl, ((0, 2) ∷ absent_pair ∷ [], refl, refl, (tt, (tt, tt))));
  other_order = λ _. (refl, ((2, 2) ∷ (0, 2) ∷ [], refl, refl, (tt, (tt, tt))));
  gap = gap_found;
  overlap = slices_overlap;
  reversed = (first_two, refl, λ _. (refl, ((0, 2) ∷ absent_pair ∷ [], refl, refl, (tt, (tt, tt)))));
  inner_gap = inner_gap_found;
}
