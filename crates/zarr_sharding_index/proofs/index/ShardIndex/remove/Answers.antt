use Rattle.std.proofs.Common.{◌∙◌, ap, length, sym, take}
use Rattle.std.specs.List.{remove}
use Rattle.zarr_sharding_index.specs.Views.{pairs_of_bytes}
use Rattle.zarr_sharding_index.proofs.PairMoves.{all_written}
use Rattle.zarr_sharding_index.proofs.index.ShardIndex.remove.Goals as goal

pub returns : goal.returns
returns c =
    let held = c.args.self.now.bytes.items in
    let made = c.move_down-left.new.bytes in
    let lent = c.as_mut_slice.ensures in
    let moved = c.move_down-left.ensures in
    ap pairs_of_bytes (c.truncate.ensures.items ∙ ap (take c.move_down-left.result) (all_written _ held made (moved.long ∙ ap length lent.value) (sym lent.len ∙ sym moved.long)))
    ∙ (moved.pairs ∙ ap (λ bs. remove (pairs_of_bytes bs) c.args.n) lent.value)
