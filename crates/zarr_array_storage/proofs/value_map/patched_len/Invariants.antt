use Rattle.std.proofs.Common.{◌≡◌, drop, false, length}
use Rattle.zarr_codecs_traits.specs.Patches.{any_too_far, patched, patches_of}
use Rattle.zarr_array_storage.proofs.GrowthLemmas.{grown}
use Rattle.zarr_array_storage.proofs.value_map.patched_len.Given as goal

abbrev pub invariant-loop-patch : goal.invariant-loop-patch
invariant-loop-patch l = record {
  same : length (patched l.fn.value (patches_of l.patches)) ≡ grown l.len (patches_of (drop l.patch-index l.patches));
  fits : any_too_far (patches_of (drop l.patch-index l.patches)) ≡ false;
}
