use Rattle.std.proofs.Common.{rules}
use Rattle.zarr_codecs_types.proofs.Bytes.{are_bytes_items}
use Rattle.zarr_array_core.proofs.part_putting.source_of_value.Goals as goal

pub returns-clause-bytes : goal.returns-clause-bytes
returns-clause-bytes c = are_bytes_items c.args.value.items (search rules)
