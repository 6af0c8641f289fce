use Rattle.std.proofs.Common.{refl}
use Rattle.zarr_codecs_boxes.proofs.laws.region_rows.Goals as goal

pub returns : goal.returns
returns c = record {
  column = refl;
  column_turned = refl;
  column_encoded = refl;
  row = refl;
  square_turned = refl;
  three_dimensions = refl;
  squeezed_box = refl;
  all_of_size_one = refl;
  no_dimensions = refl;
  empty_box = refl;
  reshaped = refl;
}
