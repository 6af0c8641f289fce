use Rattle.zarr_codecs_traits.proofs.WorkedWrites.{gap_in_slice, repacked_not, slice_appended}
use Rattle.zarr_codecs_traits.proofs.laws.write_rows.Goals as goal

pub returns : goal.returns
returns c = record { appended = slice_appended; repacked = repacked_not; slice_with_gap = gap_in_slice }
