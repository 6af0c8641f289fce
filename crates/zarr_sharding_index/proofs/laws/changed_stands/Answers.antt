use Rattle.zarr_sharding_changes.specs.Changes.{SliceStandsBy}
use Rattle.zarr_sharding_index.proofs.Stands.{changed_holds}
use Rattle.zarr_sharding_index.proofs.laws.changed_stands.Goals as goal

pub returns : goal.returns
returns c = λ slices inner index exact elements location shape pieces wanted changes pairs before after end ended. changed_holds (SliceStandsBy slices inner elements) elements.fill index exact location shape pieces wanted changes pairs end before after ended
