use Rattle.std.proofs.Common.{ap, ◌∙◌, sym, rules, unwrap_or, []}
use Rattle.std.specs.FinMap as fin
use Rattle.std.proofs.lemmas.Map.Text.{hash_map_updates_text}
use Rattle.std.proofs.lemmas.Result.{on_err_weaker, on_ok_weaker}
use Rattle.zarr_codecs_traits.specs.Patches.{patched, patches_of}
use Rattle.zarr_array_storage.proofs.ValueMapLemmas.{found-map_of, insert-same, map_of, map_of-set, missing-map_of}
use Rattle.zarr_array_storage.proofs.value_map.ValueMap.set_partial.Goals as goal

pub returns-in-Some-clause-ok : goal.returns-in-Some-clause-ok
returns-in-Some-clause-ok c =
    let old = c.self.inside.values in
    let key = c.args.key.now in
    let value = c.in-Some.held.now in
    let written = c.write_each.new.value in
    let new = c.get_mut.follows.lender written in
    on_ok_weaker c.write_each.result (λ same.
    map_of-set old new key written (hash_map_updates_text key old new _ ((c.get_mut.follows.holds written).3 (search rules)))
    ∙ ap (fin.insert (map_of old) key) same
    ∙ ap (λ found. fin.insert (map_of old) key (patched (unwrap_or found []) (patches_of c.args.patches.now))) (sym (found-map_of old key value c.in-Some.ensures.value))
    ∙ ap (λ m. fin.insert m key (patched (unwrap_or (fin.get m key) []) (patches_of c.args.patches.now))) c.self.view_is) c.write_each.ensures.ok

pub returns-in-Some-clause-err : goal.returns-in-Some-clause-err
returns-in-Some-clause-err c =
    let old = c.self.inside.values in
    let key = c.args.key.now in
    let value = c.in-Some.held.now in
    let kept = c.write_each.new.value in
    let new = c.get_mut.follows.lender kept in
    on_err_weaker c.write_each.result (λ same.
    map_of-set old new key kept (hash_map_updates_text key old new _ ((c.get_mut.follows.holds kept).3 (search rules)))
    ∙ ap (fin.insert (map_of old) key) same
    ∙ insert-same (map_of old) key value.items (found-map_of old key value c.in-Some.ensures.value)
    ∙ c.self.view_is) c.write_each.ensures.err

pub returns-clause-ok : goal.returns-clause-ok
returns-clause-ok c =
    let old = c.get_mut.follows.lender-at-none in
    let key = c.args.key.now in
    let same = ap map_of c.get_mut.follows.holds-at-none ∙ c.self.view_is in
    on_ok_weaker c.set.result (λ done. done
    ∙ ap (λ m. fin.insert m key c.in_ok-value.value.items) same
    ∙ ap (fin.insert c.args.self.now key) (c.in_ok-value.ensures
    ∙ ap (λ found. patched (unwrap_or found []) (patches_of c.args.patches.now)) (sym (ap (λ m. fin.get m key) (sym c.self.view_is) ∙ missing-map_of c.self.inside.values key c.in_default.ensures.value)))) c.set.ensures.ok
