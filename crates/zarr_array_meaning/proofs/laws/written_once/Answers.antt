use Rattle.zarr_array_meaning.proofs.WrittenVersions.{written_document-twice}
use Rattle.zarr_array_meaning.proofs.laws.written_once.Goals as goal

pub returns : goal.returns
returns c = written_document-twice
