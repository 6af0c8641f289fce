use Rattle.std.proofs.Common.{length}
use Rattle.zarr_codecs_types.proofs.fill_writing.+number.Given as goal

-- how many bytes are left
abbrev pub decreases-number : goal.decreases-number
decreases-number l = length l.bytes.now
