use Rattle.std.proofs.Common.{◌≡◌, drop}
use Rattle.std.specs.List.{list_all}
use Rattle.zarr_codecs_meaning.specs.Fits.{bits_fit}
use Rattle.zarr_codecs_types.specs.Views.{components_of}
use Rattle.zarr_codecs_packbits.proofs.sizes.fit_all.Given as goal

-- the components that are left answer as all do
abbrev pub invariant-loop-part : goal.invariant-loop-part
invariant-loop-part l = list_all (bits_fit l.turn.first l.turn.last) (components_of l.parts) ≡ list_all (bits_fit l.turn.first l.turn.last) (components_of (drop l.part-index l.parts))
