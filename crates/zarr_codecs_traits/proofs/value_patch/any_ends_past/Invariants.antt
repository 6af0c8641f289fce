use Rattle.std.proofs.Common.{◌≡◌, drop}
use Rattle.zarr_codecs_traits.specs.Patches.{any_ends_past, patches_of}
use Rattle.zarr_codecs_traits.proofs.value_patch.any_ends_past.Given as goal

abbrev pub invariant-loop-patch : goal.invariant-loop-patch
invariant-loop-patch l = any_ends_past l.fn.len (patches_of l.patches) ≡ any_ends_past l.fn.len (patches_of (drop l.patch-index l.patches))
