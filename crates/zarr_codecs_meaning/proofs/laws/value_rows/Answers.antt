use Rattle.std.proofs.Common.{refl}
use Rattle.zarr_codecs_meaning.proofs.laws.value_rows.Goals as goal

pub returns : goal.returns
returns c = record {
  bool_false = refl;
  bool_true = refl;
  bool_two = refl;
  bool_empty = refl;
  int2_minus_two = refl;
  int2_one = refl;
  int2_two = refl;
  int4_minus_eight = refl;
  int4_eight = refl;
  uint4_fifteen = refl;
  uint4_sixteen = refl;
  int16_minus_five = refl;
  int16_one_byte = refl;
  uint64_last = refl;
  no_byte = refl;
  two_numbers_minus_one = refl;
  two_numbers_eight = refl;
  string_empty = refl;
  string_not_utf8 = refl;
  bytes_any = refl;
  optional_absent = refl;
  optional_present = refl;
  optional_present_two = refl;
  optional_bare = refl;
  optional_twice = refl;
  uint8_absent = refl;
  width_of_int2 = refl;
  width_of_int64 = refl;
  width_of_custom = refl;
  width_of_string = refl;
  absent_is_fill = refl;
  present_is_not_fill = refl;
  none_is_fill = refl;
}
