use Rattle.zarr_array_meaning.proofs.WrittenVersions.{keeps_version}
use Rattle.zarr_array_meaning.proofs.laws.keeps_version.Goals as goal

pub returns : goal.returns
returns c = keeps_version
