use Rattle.zarr_codecs_meaning.proofs.Meaning.{stands_decoded}
use Rattle.zarr_codecs_meaning.proofs.PartReading.{part_read}
use Rattle.zarr_codecs_meaning.proofs.laws.part_selects.Goals as goal

pub returns : goal.returns
returns c = λ chain elements shape value cells places lawful fit lossless are h below.
    part_read chain elements shape value cells places fit (stands_decoded chain elements shape value cells lawful fit lossless are h) below
