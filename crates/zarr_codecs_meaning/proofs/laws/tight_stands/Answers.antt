use Rattle.zarr_codecs_meaning.proofs.Tight.{tight_stands}
use Rattle.zarr_codecs_meaning.proofs.laws.tight_stands.Goals as goal

pub returns : goal.returns
returns c = tight_stands
