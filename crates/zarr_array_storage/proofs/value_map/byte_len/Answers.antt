use Rattle.zarr_codecs_types.proofs.Bytes.{are_bytes_all}
use Rattle.zarr_array_storage.proofs.value_map.byte_len.Goals as goal

pub returns-clause-bytes : goal.returns-clause-bytes
returns-clause-bytes c = are_bytes_all c.args.value.now c.type_inv.value
