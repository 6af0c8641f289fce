use Rattle.zarr_run_commands.proofs.Pairs.{interval_of-short, interval_of-long}
use Rattle.zarr_run_commands.proofs.field.read_pair.Goals as goal

pub returns-in_default-clause-value : goal.returns-in_default-clause-value
returns-in_default-clause-value c = interval_of-short c.args.pair.now c.in_default.len_below

pub returns-in_default-2-clause-value : goal.returns-in_default-2-clause-value
returns-in_default-2-clause-value c = interval_of-long c.args.pair.now c.in_default.len_at_least
