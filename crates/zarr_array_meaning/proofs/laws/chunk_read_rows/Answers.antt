use Rattle.std.proofs.Common.{refl}
use Rattle.zarr_array_meaning.proofs.laws.chunk_read_rows.Goals as goal

pub returns : goal.returns
returns c = record {
  one_cell = refl;
  two_subchunks = refl;
  past_the_chunk = refl;
  absent = refl;
  beside_a_gap = refl;
  whole = refl;
  whole_with_a_gap = refl;
  slice_by_slice = refl;
  without_the_gap = refl;
  no_value = refl;
  without_a_shard = refl;
  behind_bytes_codecs = refl;
}
