use Rattle.std.proofs.Common.{refl}
use Rattle.zarr_sharding_changes.proofs.laws.compaction_rows.Goals as goal

pub returns : goal.returns
returns c = record {
  other_order = refl;
  gaps = refl;
  overlap = refl;
  slice_twice = refl;
  one_absent = refl;
  all_absent = refl;
  slice_in_the_index = refl;
  half_absent = refl;
  short_of_an_index = refl;
  index_first = refl;
  index_first_slice_in_the_index = refl;
  index_first_past_the_end = refl;
}
