use Rattle.std.specs.Prelude.{refl}
use Rattle.zarr_sharding_changes.proofs.laws.chain_compaction_rows.Goals as goal

pub returns : goal.returns
returns c = record { plain = refl; plain_damaged = refl; gap = refl; no_gap = refl; short_of_an_index = refl; reversed = refl; plain_reversed = refl }
