use Rattle.std.proofs.Common.{length}
use Rattle.zarr_codecs_json.proofs.numbers.+any_number.Given as goal

abbrev pub decreases-any_number : goal.decreases-any_number
decreases-any_number l = length l.bytes.now
