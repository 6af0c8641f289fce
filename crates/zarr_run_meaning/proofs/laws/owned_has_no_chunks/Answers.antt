use Rattle.zarr_run_meaning.proofs.Owning.{owned_has_no_chunks}
use Rattle.zarr_run_meaning.proofs.laws.owned_has_no_chunks.Goals as goal

pub returns : goal.returns
returns c = owned_has_no_chunks
