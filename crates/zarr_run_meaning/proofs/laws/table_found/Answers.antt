use Rattle.zarr_run_meaning.proofs.FoundTables.{table_found}
use Rattle.zarr_run_meaning.proofs.laws.table_found.Goals as goal

pub returns : goal.returns
returns c = table_found
