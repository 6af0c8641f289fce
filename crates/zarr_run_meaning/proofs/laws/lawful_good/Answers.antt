use Rattle.zarr_run_meaning.proofs.GoodDocuments.{lawful_good}
use Rattle.zarr_run_meaning.proofs.laws.lawful_good.Goals as goal

pub returns : goal.returns
returns c = lawful_good
