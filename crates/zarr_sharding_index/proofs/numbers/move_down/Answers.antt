use Rattle.std.proofs.Common.{◌∙◌, ◌+◌, ◌-◌, ap, arith, length, refl, take}
use Rattle.zarr_sharding_index.specs.Views.{pairs_of_bytes}
use Rattle.zarr_sharding_index.proofs.PairMoves.{moved_down}
use Rattle.zarr_sharding_index.proofs.numbers.move_down.Goals as goal

pub returns-clause-pairs : goal.returns-clause-pairs
returns-clause-pairs c =
    let size = length c.args.bytes.now in
    let some = c.pair_start-start.ensures.within in
    ap (λ bs. pairs_of_bytes (take (size - 16) bs)) c.copy_within.ensures.after
    ∙ moved_down c.args.n c.pair_start-start.result (c.pair_start-start.result + 16) size (size - 16) c.args.bytes.now c.pair_start-start.ensures.start refl refl (omega (arith, some)) c.requires.below c.requires.whole
