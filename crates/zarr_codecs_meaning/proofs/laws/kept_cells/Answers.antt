use Rattle.zarr_codecs_meaning.proofs.Kept.{kept_cells}
use Rattle.zarr_codecs_meaning.proofs.laws.kept_cells.Goals as goal

pub returns : goal.returns
returns c = kept_cells
