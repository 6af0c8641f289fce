use Rattle.std.proofs.Common.{ap, ◌∙◌, ◌++◌}
use Rattle.std.specs.FinMap as fin
use Rattle.zarr_array_storage.specs.ValueMaps.{key_bytes}
use Rattle.zarr_array_storage.proofs.ValueMapLemmas.{key_bytes-all, key_bytes-more, keys-map_of}
use Rattle.zarr_array_storage.proofs.value_map.ValueMap.list.Goals as goal

pub loop-key-preserved : goal.loop-key-preserved
loop-key-preserved c =
    ap (λ ks. key_bytes ks ++ key_bytes c.next.new.self) c.in_ok-push.ensures.items
    ∙ key_bytes-more c.loop-key.keys.items c.in_ok-clone.field-0 c.in-Some.key.now c.loop-key.key-iterator c.next.new.self _ c.in-Some.ensures.steps c.in_ok-clone.ensures.cases c.loop-key.invariant

pub returns : goal.returns
returns c =
    keys-map_of c.self.inside.values c.loop-key.keys.items c.sort.new.self.items c.keys-key-items.ensures.unique
    (key_bytes-all c.loop-key.keys.items c.loop-key.key-iterator _ c.in-None.ensures.steps.0 c.loop-key.invariant
    ∙ ap key_bytes (c.into_iter-key-iterator.ensures.into_iter_gives ∙ c.keys-key-items.ensures.rest))
    c.sort.ensures.permutation c.in_ok-sort.ensures.sorted
    ∙ ap fin.keys c.self.view_is
