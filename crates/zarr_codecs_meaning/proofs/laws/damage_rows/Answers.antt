use Rattle.std.proofs.Common.{refl}
use Rattle.zarr_codecs_meaning.proofs.laws.damage_rows.Goals as goal

pub returns : goal.returns
returns c = record {
  past_the_end_not_met = refl;
  past_the_end_met = refl;
  past_the_end = refl;
  long_not_met = refl;
  long_met = refl;
  far_not_met = refl;
  far_met = refl;
  slice_in_the_index = refl;
  slice_twice = refl;
  short_of_an_index = refl;
  short_of_an_index_part = refl;
  short_of_an_index_no_part = refl;
  no_part = refl;
  slice_too_short = refl;
  last_offset = refl;
  falling_offsets = refl;
  first_offset = refl;
  index_length = refl;
  data_cut = refl;
  data_longer = refl;
  no_length = refl;
  strings_part_of_damage = refl;
  mask_of_three = refl;
  mask_fill_bits = refl;
  option_cut = refl;
  option_longer = refl;
  data_of_nothing = refl;
  bool_of_two = refl;
  int4_of_eight = refl;
  three_of_four = refl;
  beside_damage = refl;
  at_damage = refl;
  part_of_wrong_length = refl;
  wrong_length_no_part = refl;
  damage_beside_in_a_shard = refl;
  fill_bits_ignored = refl;
  padding_count_ignored = refl;
  refused_bytes = refl;
  no_bytes_for_one = refl;
}
