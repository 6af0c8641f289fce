use Rattle.zarr_codecs_types.proofs.Bytes.{are_bytes_all}
use Rattle.zarr_codecs_sections.proofs.content.copied.Goals as goal

pub returns-clause-bytes : goal.returns-clause-bytes
returns-clause-bytes c = are_bytes_all c.args.bytes.now c.type_inv.bytes
