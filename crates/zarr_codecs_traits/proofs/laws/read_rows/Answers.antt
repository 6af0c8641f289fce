use Rattle.std.proofs.Common.{refl}
use Rattle.zarr_codecs_traits.proofs.laws.read_rows.Goals as goal

pub returns : goal.returns
returns c = record {
  one_place = refl;
  places_of_one = refl;
  places_of_both = refl;
  no_place = refl;
  absent = refl;
  up_to_the_end = refl;
  past_the_end = refl;
  far_past_the_end = refl;
  no_value = refl;
  behind_bytes_codecs = refl;
  without_a_shard = refl;
  written = refl;
  written_without_a_shard = refl;
  ranges_written = refl;
  set_anew = refl;
  set_whole = refl;
}
