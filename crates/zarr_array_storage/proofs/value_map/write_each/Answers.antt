use Rattle.std.proofs.Common.{ap, ◌∙◌, length, rules}
use Rattle.std.proofs.lemmas.List.{with_items_is}
use Rattle.zarr_codecs_traits.specs.Patches.{any_ends_past, extended, patched, patches_of}
use Rattle.zarr_array_storage.proofs.GrowthLemmas.{none_past-extended, patched-extended}
use Rattle.zarr_array_storage.proofs.value_map.write_each.Goals as goal

pub overwrite_each-requires : goal.overwrite_each-requires
overwrite_each-requires c =
    let value = c.args.value.now.items in
    let patches = patches_of c.args.patches.now in
    ap (λ bytes. any_ends_past (length bytes) patches) (c.as_mut_slice.ensures.value ∙ c.in_ok-extend.ensures.ok)
    ∙ ap (λ n. any_ends_past (length (extended value n)) patches) (c.patched_len-len.ensures ∙ ap (λ bytes. length (patched bytes patches)) c.as_slice.ensures.value)
    ∙ none_past-extended value patches

pub returns-clause-ok : goal.returns-clause-ok
returns-clause-ok c =
    let value = c.args.value.now.items in
    let patches = patches_of c.args.patches.now in
    with_items_is c.extend.new.value c.overwrite_each.new.value (search rules)
    ∙ c.overwrite_each.ensures
    ∙ ap (λ bytes. patched bytes patches) (c.as_mut_slice.ensures.value ∙ c.in_ok-extend.ensures.ok)
    ∙ ap (λ n. patched (extended value n) patches) (c.patched_len-len.ensures ∙ ap (λ bytes. length (patched bytes patches)) c.as_slice.ensures.value)
    ∙ patched-extended value patches
