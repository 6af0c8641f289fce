use Rattle.zarr_array_meaning.proofs.VersionsErased.{erased_are_gone}
use Rattle.zarr_array_meaning.proofs.laws.erased_are_gone.Goals as goal

pub returns : goal.returns
returns c = erased_are_gone
