use Rattle.std.proofs.Common.{refl}
use Rattle.zarr_array_v2.proofs.laws.refusal_rows.Goals as goal

pub returns : goal.returns
returns c = record { no_chunks = refl; other_order = refl; unknown_dtype = refl; marked_bool = refl; unmarked_number = refl; text_filter = refl; named_filter = refl; no_list = refl; empty_list = refl }
