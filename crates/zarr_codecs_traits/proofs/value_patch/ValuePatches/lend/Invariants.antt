use Rattle.std.proofs.Common.{◌≡◌, ◌++◌, drop}
use Rattle.zarr_codecs_traits.specs.Patches.{cut_patches, patches_in, patches_of}
use Rattle.zarr_codecs_traits.proofs.value_patch.ValuePatches.lend.Given as goal

abbrev pub invariant-loop-range : goal.invariant-loop-range
invariant-loop-range l = patches_in l.self ≡ patches_of l.patches.items ++ cut_patches (drop l.range-index l.self.ranges.items) l.rest
