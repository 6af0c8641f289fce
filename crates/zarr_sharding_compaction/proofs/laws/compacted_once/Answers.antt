use Rattle.zarr_sharding_compaction.proofs.Once.{compacted_once}
use Rattle.zarr_sharding_compaction.proofs.laws.compacted_once.Goals as goal

pub returns : goal.returns
returns c = λ subchunk index location shape value made lawful fit lossless. compacted_once subchunk index location shape value made lawful fit lossless
