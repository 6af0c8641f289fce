use Rattle.zarr_codecs_traits.specs.Patches.{patches_of}
use Rattle.zarr_array_storage.proofs.GrowthLemmas.{length-patched}
use Rattle.zarr_array_storage.proofs.value_map.patched_len.Goals as goal

pub loop-patch-init : goal.loop-patch-init
loop-patch-init c = record { same = length-patched c.args.value.now (patches_of c.args.patches.now); fits = c.requires }
