use Rattle.std.proofs.Common.{refl}
use Rattle.zarr_array_v2.proofs.laws.fill_rows.Goals as goal

pub returns : goal.returns
returns c = record { null_is_zero = refl; null_is_false = refl; zero_is_false = refl; one_is_true = refl; two_stays = refl; one_stays = refl }
