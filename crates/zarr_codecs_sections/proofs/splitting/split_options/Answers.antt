use Rattle.std.proofs.Common.{ap, refl, rules}
use Rattle.zarr_codecs_arrays.specs.Views.{payload_of}
use Rattle.zarr_codecs_sections.proofs.MaskCells.{options_split}
use Rattle.zarr_codecs_sections.proofs.splitting.split_options.Goals as goal

pub returns : goal.returns
returns c inner count cells valid =
    options_split inner (payload_of c.args.elements) (payload_of c.in-Optional.below.value) c.in-Optional.mask.items count cells (record { mask = c.in-Optional.mask; marks = c.in_ok-marks.marks; below = c.into_inner.result }) (ap payload_of c.in-Optional.is) valid refl (search rules) (ap payload_of c.into_inner.ensures)
