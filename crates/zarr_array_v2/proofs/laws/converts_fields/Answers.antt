use Rattle.zarr_array_v2.proofs.Converted.{converts}
use Rattle.zarr_array_v2.proofs.laws.converts_fields.Goals as goal

pub returns : goal.returns
returns c = converts
