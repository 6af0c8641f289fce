use Rattle.zarr_codecs_meaning.proofs.PartReading.{part_read}
use Rattle.zarr_codecs_meaning.proofs.laws.part_decoded.Goals as goal

pub returns : goal.returns
returns c = λ chain elements shape value cells places fit h below. part_read chain elements shape value cells places fit h below
