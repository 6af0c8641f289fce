use Rattle.zarr_array_meaning.proofs.Stored.{stored_reads_back}
use Rattle.zarr_array_meaning.proofs.laws.stored_reads_back.Goals as goal

pub returns : goal.returns
returns c = stored_reads_back
