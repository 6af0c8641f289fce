use Rattle.zarr_run_meaning.proofs.Reading.{never_damaged}
use Rattle.zarr_run_meaning.proofs.laws.never_damaged.Goals as goal

pub returns : goal.returns
returns c = never_damaged
