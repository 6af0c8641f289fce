use Rattle.std.proofs.Common.{◌∙◌, ◌≡◌, ◌+◌, ◌-◌, ◌++◌, List, ℕ, ap, drop, length, set, subst, sym, take}
use Rattle.zarr_sharding_index.specs.Views.{pair_of, pairs_of, pairs_of_bytes}
use Rattle.zarr_sharding_index.proofs.PairMoves.{all_written, inserted_moved}
use Rattle.zarr_sharding_index.proofs.index.ShardIndex.insert.Goals as goal

pub returns-clause-ok : goal.returns-clause-ok
returns-clause-ok c =
    let n = c.args.n in
    let pair = pair_of c.args.pair in
    let pushed = c.push.new.self.bytes.items in
    let made = c.move_up.new.bytes in
    let lent = c.as_mut_slice.ensures in
    let moved = c.move_up.ensures in
    let is : pairs_of_bytes made ≡ take (n + 1) (pairs_of_bytes pushed) ++ take (length (pairs_of_bytes pushed) - (n + 1)) (drop n (pairs_of_bytes pushed)) =
    subst (λ (bs : List ℕ). pairs_of_bytes made ≡ take (n + 1) (pairs_of_bytes bs) ++ take (length (pairs_of_bytes bs) - (n + 1)) (drop n (pairs_of_bytes bs))) lent.value moved.pairs in
    c.put.ensures ∙ (ap (λ bs. set (pairs_of_bytes bs) n pair) (all_written _ pushed made (moved.long ∙ ap length lent.value) (sym lent.len ∙ sym moved.long))
    ∙ inserted_moved (pairs_of c.args.self.now) (pairs_of_bytes pushed) (pairs_of_bytes made) n pair c.requires c.in_ok-push.ensures.ok is)
