use Rattle.std.proofs.Common.{Some, ap, ◌∙◌, sym}
use Rattle.std.specs.FinMap as fin
use Rattle.zarr_array_storage.proofs.ValueMapLemmas.{get-map_of, value_bytes}
use Rattle.zarr_array_storage.proofs.value_map.ValueMap.get.Goals as goal

pub returns-in-Some : goal.returns-in-Some
returns-in-Some c = ap Some c.as_slice.ensures.value ∙ ap value_bytes c.in-Some.ensures.value ∙ sym (get-map_of c.self.inside.values c.args.key.now) ∙ ap (λ m. fin.get m c.args.key.now) c.self.view_is

pub returns-in-None : goal.returns-in-None
returns-in-None c = ap value_bytes c.in-None.ensures.value ∙ sym (get-map_of c.self.inside.values c.args.key.now) ∙ ap (λ m. fin.get m c.args.key.now) c.self.view_is
