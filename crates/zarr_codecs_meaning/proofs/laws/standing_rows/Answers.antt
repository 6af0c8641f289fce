use Rattle.std.proofs.Common.{refl, inr, arith, [], ◌∷◌, ◌++◌}
use Rattle.zarr_codecs_meaning.proofs.laws.standing_rows.Goals as goal

pub returns : goal.returns
returns c = record {
  gap_and_other_order = ((2, 1) ∷ (1, 1) ∷ [], 9 ∷ 2 ∷ 1 ∷ [], record { index_bytes = (2 ∷ 0 ∷ 0 ∷ 0 ∷ 0 ∷ 0 ∷ 0 ∷ 0 ∷ 1 ∷ 0 ∷ 0 ∷ 0 ∷ 0 ∷ 0 ∷ 0 ∷ 0 ∷ []) ++ (1 ∷ 0 ∷ 0 ∷ 0 ∷ 0 ∷ 0 ∷ 0 ∷ 0 ∷ 1 ∷ 0 ∷ 0 ∷ 0 ∷ 0 ∷ 0 ∷ 0 ∷ 0 ∷ []); long = refl; read = refl; is = refl }, (inr (refl, (1 ∷ [], record { before = 9 ∷ 2 ∷ []; after = []; is = refl; begins = refl; long = refl; low = omega arith }, refl)), (inr (refl, (2 ∷ [], record { before = 9 ∷ []; after = 1 ∷ []; is = refl; begins = refl; long = refl; low = omega arith }, refl)), tt)));
  gap_is_tight = ((2, 1) ∷ (1, 1) ∷ [], 9 ∷ 2 ∷ 1 ∷ [], record { index_bytes = (2 ∷ 0 ∷ 0 ∷ 0 ∷ 0 ∷ 0 ∷ 0 ∷ 0 ∷ 1 ∷ 0 ∷ 0 ∷ 0 ∷ 0 ∷ 0 ∷ 0 ∷ 0 ∷ []) ++ (1 ∷ 0 ∷ 0 ∷ 0 ∷ 0 ∷ 0 ∷ 0 ∷ 0 ∷ 1 ∷ 0 ∷ 0 ∷ 0 ∷ 0 ∷ 0 ∷ 0 ∷ 0 ∷ []); long = refl; read = refl; is = refl }, (inr (refl, (1 ∷ [], record { before = 9 ∷ 2 ∷ []; after = []; is = refl; begins = refl; long = refl; low = omega arith }, refl)), (inr (refl, (2 ∷ [], record { before = 9 ∷ []; after = 1 ∷ []; is = refl; begins = refl; long = refl; low = omega arith }, refl)), tt)));
  one_slice_twice = ((0, 1) ∷ (0, 1) ∷ [], 7 ∷ [], record { index_bytes = (0 ∷ 0 ∷ 0 ∷ 0 ∷ 0 ∷ 0 ∷ 0 ∷ 0 ∷ 1 ∷ 0 ∷ 0 ∷ 0 ∷ 0 ∷ 0 ∷ 0 ∷ 0 ∷ []) ++ (0 ∷ 0 ∷ 0 ∷ 0 ∷ 0 ∷ 0 ∷ 0 ∷ 0 ∷ 1 ∷ 0 ∷ 0 ∷ 0 ∷ 0 ∷ 0 ∷ 0 ∷ 0 ∷ []); long = refl; read = refl; is = refl }, (inr (refl, (7 ∷ [], record { before = []; after = []; is = refl; begins = refl; long = refl; low = omega arith }, refl)), (inr (refl, (7 ∷ [], record { before = []; after = []; is = refl; begins = refl; long = refl; low = omega arith }, refl)), tt)));
  chunk_of_fill = refl;
}
