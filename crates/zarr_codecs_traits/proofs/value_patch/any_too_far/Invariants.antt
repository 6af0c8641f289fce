use Rattle.std.proofs.Common.{◌≡◌, drop}
use Rattle.zarr_codecs_traits.specs.Patches.{any_too_far, patches_of}
use Rattle.zarr_codecs_traits.proofs.value_patch.any_too_far.Given as goal

abbrev pub invariant-loop-patch : goal.invariant-loop-patch
invariant-loop-patch l = any_too_far (patches_of l.patches) ≡ any_too_far (patches_of (drop l.patch-index l.patches))
