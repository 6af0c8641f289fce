use Rattle.zarr_array_meaning.proofs.VersionsErased.{retrieves_one}
use Rattle.zarr_array_meaning.proofs.laws.retrieves_one.Goals as goal

pub returns : goal.returns
returns c = retrieves_one
