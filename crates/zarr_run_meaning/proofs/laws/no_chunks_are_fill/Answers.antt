use Rattle.zarr_run_meaning.proofs.Begun.{no_chunks_are_fill}
use Rattle.zarr_run_meaning.proofs.laws.no_chunks_are_fill.Goals as goal

pub returns : goal.returns
returns c = no_chunks_are_fill
