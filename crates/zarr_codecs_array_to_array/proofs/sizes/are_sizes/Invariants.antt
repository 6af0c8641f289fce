use Rattle.std.proofs.Common.{◌≡◌, ◌^◌, map, drop}
use Rattle.std.specs.Prelude.{nat_lt}
use Rattle.std.specs.List.{list_all}
use Rattle.zarr_codecs_array_to_array.specs.Entries.{entry_of}
use Rattle.zarr_codecs_array_to_array.specs.Sizes.{size_or}
use Rattle.zarr_codecs_array_to_array.proofs.sizes.are_sizes.Given as goal

-- the sizes that are left answer as all do
abbrev pub invariant-loop-dimension : goal.invariant-loop-dimension
invariant-loop-dimension l = list_all (λ size. nat_lt size (2 ^ 64)) (map (size_or l.left l.shape) (map entry_of l.dimensions)) ≡ list_all (λ size. nat_lt size (2 ^ 64)) (map (size_or l.left l.shape) (map entry_of (drop l.dimension-index l.dimensions)))
