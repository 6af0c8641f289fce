use Rattle.zarr_run_meaning.proofs.KeptCanon.{rewritten_twice}
use Rattle.zarr_run_meaning.proofs.laws.rewritten_twice.Goals as goal

pub returns : goal.returns
returns c = rewritten_twice
