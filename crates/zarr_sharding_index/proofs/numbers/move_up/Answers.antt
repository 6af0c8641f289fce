use Rattle.std.proofs.Common.{◌∙◌, ap, arith, refl}
use Rattle.zarr_sharding_index.specs.Views.{pairs_of_bytes}
use Rattle.zarr_sharding_index.proofs.PairMoves.{moved_up}
use Rattle.zarr_sharding_index.proofs.numbers.move_up.Goals as goal

pub returns-clause-pairs : goal.returns-clause-pairs
returns-clause-pairs c = ap pairs_of_bytes c.copy_within.ensures.after ∙ moved_up c.args.n c.pair_start-start.result _ _ c.args.bytes.now c.pair_start-start.ensures.start (omega arith) refl c.requires.below c.requires.whole
