use Rattle.std.proofs.Common.{◌≡◌, map, drop}
use Rattle.std.specs.List.{list_all}
use Rattle.zarr_codecs_meaning.specs.Fits.{entry_fits}
use Rattle.zarr_codecs_array_to_array.specs.Entries.{entry_of}
use Rattle.zarr_codecs_array_to_array.proofs.sizes.fit_all.Given as goal

-- the dimensions that are left answer as all do
abbrev pub invariant-loop-dimension : goal.invariant-loop-dimension
invariant-loop-dimension l = list_all (entry_fits l.known l.rank) (map entry_of l.dimensions) ≡ list_all (entry_fits l.known l.rank) (map entry_of (drop l.dimension-index l.dimensions))
