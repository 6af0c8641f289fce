use Rattle.std.proofs.Common.{ap, ◌∙◌, rules}
use Rattle.std.specs.FinMap as fin
use Rattle.std.specs.String.{string_bytes}
use Rattle.std.proofs.lemmas.Map.Text.{hash_map_updates_text}
use Rattle.zarr_array_storage.proofs.ValueMapLemmas.{map_of, map_of-set}
use Rattle.zarr_array_storage.proofs.value_map.ValueMap.set.Goals as goal

pub returns-in-Some-clause-ok : goal.returns-in-Some-clause-ok
returns-in-Some-clause-ok c =
    let old = c.self.inside.values in
    let new = c.get_mut.follows.lender c.args.value in
    map_of-set old new c.args.key.now c.args.value (hash_map_updates_text c.args.key.now old new _ ((c.get_mut.follows.holds c.args.value).3 (search rules)))
    ∙ ap (λ m. fin.insert m c.args.key.now c.args.value.items) c.self.view_is

pub returns-clause-ok : goal.returns-clause-ok
returns-clause-ok c =
    let old = c.get_mut.follows.lender-at-none in
    let key = string_bytes c.in_ok-owned.owned in
    map_of-set old c.insert.new.self key c.args.value (hash_map_updates_text key old c.insert.new.self _ c.in_ok-insert.ensures.updates)
    ∙ ap (λ m. fin.insert (map_of m) key c.args.value.items) c.get_mut.follows.holds-at-none
    ∙ ap (λ m. fin.insert m key c.args.value.items) c.self.view_is
    ∙ ap (λ k. fin.insert c.args.self.now k c.args.value.items) c.in_ok-owned.ensures.ok
