use Rattle.zarr_run_meaning.proofs.Reading.{alone_undamaged}
use Rattle.zarr_run_meaning.proofs.laws.alone_undamaged.Goals as goal

pub returns : goal.returns
returns c = alone_undamaged
