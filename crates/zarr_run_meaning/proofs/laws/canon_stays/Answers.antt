use Rattle.zarr_run_meaning.proofs.Canon.{canon_stays}
use Rattle.zarr_run_meaning.proofs.laws.canon_stays.Goals as goal

pub returns : goal.returns
returns c = canon_stays
