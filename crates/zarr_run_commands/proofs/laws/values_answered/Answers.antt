use Rattle.zarr_run_commands.proofs.Listed.{values_answered}
use Rattle.zarr_run_commands.proofs.laws.values_answered.Goals as goal

pub returns : goal.returns
returns c = values_answered
