use Rattle.std.proofs.Common.{refl, sym}
use Rattle.std.proofs.lemmas.Bool.{false≢true}
use Rattle.zarr_sharding_changes.proofs.laws.held_rows.Goals as goal

pub returns : goal.returns
returns c = record {
  held = refl;
  gap_held = refl;
  nothing = refl;
  short_of_an_index = refl;
  last_changed = refl;
  first_changed = refl;
  index_first = refl;
  none_left = refl;
  not_none = λ h. false≢true (sym h.0);
}
