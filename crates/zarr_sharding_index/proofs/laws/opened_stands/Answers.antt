use Rattle.zarr_sharding_changes.specs.Changes.{SliceStandsBy}
use Rattle.zarr_sharding_index.proofs.Stands.{opened_holds}
use Rattle.zarr_sharding_index.proofs.laws.opened_stands.Goals as goal

pub returns : goal.returns
returns c = λ slices inner index elements location shape count end pieces value pairs. opened_holds (SliceStandsBy slices inner elements) elements.fill index location shape count end pieces value pairs
