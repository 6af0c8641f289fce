use Rattle.zarr_run_meaning.proofs.GoodDocuments.{lawful_good}
use Rattle.zarr_run_opening.proofs.laws.documents_good.Goals as goal

pub returns : goal.returns
returns g c = lawful_good g.B.BytesToBytesCodecTraits.reads g.met.B.BytesToBytesCodecTraits.reads_lawful
