use Rattle.zarr_run_meaning.proofs.TightChunks.{canon_tight}
use Rattle.zarr_run_meaning.proofs.laws.canon_tight.Goals as goal

pub returns : goal.returns
returns c = canon_tight
