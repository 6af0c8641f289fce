use Rattle.std.proofs.Common.{refl}
use Rattle.zarr_codecs_meaning.proofs.laws.shard_rows.Goals as goal

pub returns : goal.returns
returns c = record {
  one_of_four = refl;
  one_of_four_back = refl;
  index_first = refl;
  index_first_back = refl;
  two_of_three = refl;
  two_of_three_back = refl;
  row_major = refl;
  sixteen_bits = refl;
  nested = refl;
  nested_back = refl;
  nested_part = refl;
  all_fill = refl;
  all_fill_back = refl;
  all_fill_unstored = refl;
  stored = refl;
  other_fill = refl;
  other_fill_back = refl;
  one_subchunk = refl;
  one_subchunk_back = refl;
  no_dimensions = refl;
  no_dimensions_back = refl;
  no_extent = refl;
  no_extent_back = refl;
  clipped = refl;
  clipped_back = refl;
  clipped_twice = refl;
  clipped_twice_back = refl;
  larger_subchunk = refl;
  larger_subchunk_back = refl;
  transposed_shard = refl;
  transposed_shard_back = refl;
  transposed_subchunk = refl;
  transposed_subchunk_back = refl;
  strings_in_a_shard = refl;
  strings_in_a_shard_back = refl;
  dropped_in_a_shard = refl;
  becomes_fill = refl;
  becomes_fill_again = refl;
  box_of_shard = refl;
  gap_and_other_order_decoded = refl;
}
