use Rattle.std.proofs.Common.{◌≡◌, map, take, slice_index}
use Rattle.zarr_codecs_array_to_array.proofs.walks.pick.Given as goal

abbrev pub invariant-loop-dimension : goal.invariant-loop-dimension
invariant-loop-dimension l = l.index.items ≡ map (slice_index l.place) (take l.dimension-index l.picks)
