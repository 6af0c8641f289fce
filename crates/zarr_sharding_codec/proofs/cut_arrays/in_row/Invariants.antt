use Rattle.std.proofs.Common.{◌≡◌, map}
use Rattle.zarr_codecs_meaning.specs.Encoding.{joined_slices, pairs_from}
use Rattle.zarr_sharding_codec.specs.Slices.{slice_of}
use Rattle.zarr_sharding_index.specs.Views.{pairs_of}
use Rattle.zarr_sharding_codec.proofs.cut_arrays.in_row.Given as goal

-- the slices so far, and their pairs
abbrev pub invariant-loop-slice : goal.invariant-loop-slice
invariant-loop-slice l = record {
  in_row : l.data.items ≡ joined_slices (map slice_of l.yielded);
  indexed : pairs_of l.index ≡ pairs_from l.base (map slice_of l.yielded);
}
