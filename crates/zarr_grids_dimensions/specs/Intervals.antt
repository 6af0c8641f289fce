-- The intervals that values in code are.
use Rattle.zarr_grids_chunks.specs.Grids.{Interval}
use Rattle.zarr_grids_dimensions.specs.declared.interval.ChunkInterval.{ChunkInterval}
use Rattle.zarr_grids_dimensions.specs.declared.interval.AddressableInterval.{AddressableInterval}

-- the interval that a value of the type `ChunkInterval` is
abbrev pub interval_of : ChunkInterval → Interval
interval_of i = record { first = i.first; count = i.count }

-- the interval that a value of the type `AddressableInterval` is
abbrev pub addressable_of : AddressableInterval → Interval
addressable_of i = record { first = i.first; count = i.count }
