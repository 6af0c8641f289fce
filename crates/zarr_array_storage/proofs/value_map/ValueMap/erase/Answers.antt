use Rattle.std.proofs.Common.{ap, ◌∙◌}
use Rattle.std.specs.FinMap as fin
use Rattle.std.proofs.lemmas.Map.Text.{hash_map_updates_text}
use Rattle.zarr_array_storage.proofs.ValueMapLemmas.{map_of-erased}
use Rattle.zarr_array_storage.proofs.value_map.ValueMap.erase.Goals as goal

pub returns : goal.returns
returns c = map_of-erased c.self.inside.values c.remove.new.self c.args.key.now (hash_map_updates_text c.args.key.now c.self.inside.values c.remove.new.self _ c.remove.ensures.updates) ∙ ap (λ m. fin.remove m c.args.key.now) c.self.view_is
