use Rattle.std.proofs.Common.{◌≡◌, drop, false}
use Rattle.zarr_codecs_traits.specs.Patches.{any_too_far, patched, patches_of}
use Rattle.zarr_codecs_traits.proofs.value_patch.patched.Given as goal

abbrev pub invariant-loop-patch : goal.invariant-loop-patch
invariant-loop-patch l = record {
  same : patched l.initial.value.items (patches_of l.patches) ≡ patched l.value.items (patches_of (drop l.patch-index l.patches));
  fits : any_too_far (patches_of (drop l.patch-index l.patches)) ≡ false;
}
