use Rattle.std.proofs.Common.{refl}
use Rattle.zarr_sharding_changes.proofs.laws.change_rows.Goals as goal

pub returns : goal.returns
returns c = record {
  two_slices = refl;
  two_pairs = refl;
  fill_slice = refl;
  fill_pair = refl;
  changed_twice = refl;
  wanted_twice = refl;
  other_kept = refl;
  middle_column = refl;
  corner = refl;
  past_both_ends = refl;
  beside = refl;
  empty_region = refl;
  no_dimensions = refl;
  fewer_dimensions = refl;
}
