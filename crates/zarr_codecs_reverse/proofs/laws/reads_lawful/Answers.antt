use Rattle.zarr_codecs_reverse.specs.Lawful.{reads_reversing_lawful}
use Rattle.zarr_codecs_reverse.proofs.laws.reads_lawful.Goals as goal

pub returns : goal.returns
returns c = reads_reversing_lawful
