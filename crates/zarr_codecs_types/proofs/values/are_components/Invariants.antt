use Rattle.std.proofs.Common.{◌≡◌, drop}
use Rattle.zarr_codecs_types.specs.Views.{components_of}
use Rattle.zarr_codecs_types.specs.Parts.{are_components_of}
use Rattle.zarr_codecs_types.proofs.values.are_components.Given as goal

-- the components that are left answer for the bytes that are left as all do
abbrev pub invariant-loop-part : goal.invariant-loop-part
invariant-loop-part l = are_components_of (components_of l.parts) l.bytes ≡ are_components_of (components_of (drop l.part-index l.parts)) l.rest
