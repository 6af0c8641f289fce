use Rattle.std.proofs.Common.{refl}
use Rattle.zarr_array_v2.proofs.laws.type_rows.Goals as goal

pub returns : goal.returns
returns c = record { booleans = refl; signed_1 = refl; signed_2 = refl; signed_4 = refl; signed_8 = refl; unsigned_1 = refl; unsigned_2 = refl; unsigned_4 = refl; unsigned_8 = refl }
