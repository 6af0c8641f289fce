use Rattle.zarr_codecs_sections.proofs.OffsetNumbers.{last_found}
use Rattle.zarr_codecs_sections.proofs.offsets.last_offset.Goals as goal

pub returns-in-Some : goal.returns-in-Some
returns-in-Some c = last_found c.args.offsets.now c.in-Some.last.now 0 c.in-Some.ensures.value
