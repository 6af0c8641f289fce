use Rattle.std.proofs.Common.{refl}
use Rattle.zarr_array_v2.proofs.laws.document_rows.Goals as goal

pub returns : goal.returns
returns c = record { in_order_f = refl; with_codecs = refl }
