use Rattle.std.proofs.Common.{◌≡◌, drop}
use Rattle.zarr_codecs_types.specs.Views.{components_of}
use Rattle.zarr_codecs_bytes.specs.Orders.{have_one_byte}
use Rattle.zarr_codecs_bytes.proofs.sizes.are_single.Given as goal

-- the components that are left answer as all do
abbrev pub invariant-loop-part : goal.invariant-loop-part
invariant-loop-part l = have_one_byte (components_of l.parts) ≡ have_one_byte (components_of (drop l.part-index l.parts))
