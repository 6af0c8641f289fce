use Rattle.zarr_sharding_index.specs.Views.{pairs_of}
use Rattle.zarr_sharding_index.proofs.Kept.{made_full}
use Rattle.zarr_sharding_index.proofs.present.PresentPairs.from_all_present.Goals as goal

pub invariant_of-result : goal.invariant_of-result
invariant_of-result c =
    let made = made_full (pairs_of c.args.index) c.len.result c.len.ensures c.requires in
    record { listed = made.0.listed; alike = made.0.alike }

pub returns : goal.returns
returns c = (made_full (pairs_of c.args.index) c.len.result c.len.ensures c.requires).1
