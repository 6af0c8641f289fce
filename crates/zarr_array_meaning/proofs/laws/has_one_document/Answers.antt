use Rattle.zarr_array_meaning.proofs.Stored.{one_document}
use Rattle.zarr_array_meaning.proofs.laws.has_one_document.Goals as goal

pub returns : goal.returns
returns c = one_document
