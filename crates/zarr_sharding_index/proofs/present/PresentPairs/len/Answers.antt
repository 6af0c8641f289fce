use Rattle.std.proofs.Common.{sym}
use Rattle.zarr_sharding_index.specs.Present.{kept_pairs}
use Rattle.zarr_sharding_index.proofs.Listed.{full_length}
use Rattle.zarr_sharding_index.proofs.present.PresentPairs.len.Goals as goal

pub returns : goal.returns
returns c = sym (full_length c.args.self.now.count (kept_pairs c.args.self.now))
