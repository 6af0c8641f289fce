use Rattle.zarr_array_meaning.proofs.WrittenVersions.{keeps_members}
use Rattle.zarr_array_meaning.proofs.laws.keeps_given.Goals as goal

pub returns : goal.returns
returns c = keeps_members
