use Rattle.std.proofs.Common.{refl, arith, length-append}
use Rattle.zarr_sharding_changes.specs.Changes.{appended, SliceStandsBy}
use Rattle.zarr_sharding_changes.proofs.Appending.{written}
use Rattle.zarr_sharding_changes.proofs.laws.changes_written.Goals as goal

pub returns : goal.returns
returns c = λ slices inner elements base bytes pieces wanted pairs changes low h stands.
    let count = length-append bytes (appended changes) in
    written (SliceStandsBy slices inner elements) elements.fill base wanted changes _ bytes pieces pairs refl (omega arith) h stands
