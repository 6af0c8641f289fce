use Rattle.std.proofs.Common.{length}
use Rattle.zarr_codecs_packbits.proofs.sizes.+element_bits.Given as goal

abbrev pub decreases-element_bits : goal.decreases-element_bits
decreases-element_bits l = length l.parts.now
