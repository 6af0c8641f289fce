-- The orders in which the subchunks of a shard are written.
use Rattle.std.specs.Prelude.{Bool, true, false}
use Rattle.zarr_codecs_options.specs.declared.subchunk_write_order.SubchunkWriteOrder.{SubchunkWriteOrder}
use Rattle.zarr_codecs_options.specs.declared.subchunk_write_order.SubchunkWriteOrder.TheVariants.{C}

-- whether subchunks are written row-major
abbrev pub is_row_major : SubchunkWriteOrder → Bool
is_row_major C = true
is_row_major order = false
