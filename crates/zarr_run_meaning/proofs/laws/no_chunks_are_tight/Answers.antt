use Rattle.zarr_run_meaning.proofs.TightChunks.{no_chunks_are_tight}
use Rattle.zarr_run_meaning.proofs.laws.no_chunks_are_tight.Goals as goal

pub returns : goal.returns
returns c = no_chunks_are_tight
