use Rattle.std.proofs.Common.{◌≡◌, ◌%◌, ℕ, List, arith, length, subst, sym}
use Rattle.zarr_sharding_index.specs.Stored.{AreStoredAsIs}
use Rattle.zarr_sharding_index.specs.Views.{pairs_of_bytes}
use Rattle.zarr_sharding_index.proofs.PairBytes.{length-pairs_of_bytes}
use Rattle.zarr_sharding_index.proofs.index.ShardIndex.into_bytes.Goals as goal

pub returns-clause-stored : goal.returns-clause-stored
returns-clause-stored c =
    let lent : c.as_slice.result.now ≡ c.args.self.bytes.items = c.as_slice.ensures.value in
    subst (λ (bytes : List ℕ). AreStoredAsIs (pairs_of_bytes bytes) bytes) lent (c.count_pairs-known.ensures.stored (subst (λ (bytes : List ℕ). length bytes % 16 ≡ 0) (sym lent) c.args.self.whole))

pub returns-clause-long : goal.returns-clause-long
returns-clause-long c =
    let count = length-pairs_of_bytes c.args.self.bytes.items in
    let whole = c.args.self.whole in
    omega (arith, count, whole)
