use Rattle.std.proofs.Common.{◌≡◌, drop, false, length}
use Rattle.zarr_codecs_traits.specs.Patches.{any_ends_past, patched, patches_of}
use Rattle.zarr_codecs_traits.proofs.value_patch.overwrite_each.Given as goal

abbrev pub invariant-loop-patch : goal.invariant-loop-patch
invariant-loop-patch l = record {
  same : patched l.initial.value (patches_of l.patches) ≡ patched l.value (patches_of (drop l.patch-index l.patches));
  fits : any_ends_past (length l.value) (patches_of (drop l.patch-index l.patches)) ≡ false;
}
