use Rattle.std.proofs.Common.{◌≡◌, ◌%◌, ℕ, List, length, subst, sym}
use Rattle.zarr_sharding_index.specs.Stored.{AreStoredAsIs}
use Rattle.zarr_sharding_index.specs.Views.{pairs_of_bytes}
use Rattle.zarr_sharding_index.proofs.index.ShardIndex.as_bytes.Goals as goal

pub returns : goal.returns
returns c =
    let self = c.args.self.now in
    let lent : c.as_slice-bytes.result.now ≡ self.bytes.items = c.as_slice-bytes.ensures.value in
    subst (λ (bytes : List ℕ). AreStoredAsIs (pairs_of_bytes bytes) c.as_slice-bytes.result.now) lent (c.count_pairs-known.ensures.stored (subst (λ (bytes : List ℕ). length bytes % 16 ≡ 0) (sym lent) self.whole))
