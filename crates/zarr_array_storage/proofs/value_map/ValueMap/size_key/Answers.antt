use Rattle.std.proofs.Common.{◌≡◌, ◌∙◌, sym, ap, Some}
use Rattle.zarr_codecs_meaning.specs.Types.{are_bytes}
use Rattle.zarr_codecs_meaning.proofs.Lists.{some_same}
use Rattle.zarr_array_storage.proofs.value_map.ValueMap.size_key.Goals as goal

pub returns-in-Some-clause-bytes : goal.returns-in-Some-clause-bytes
returns-in-Some-clause-bytes c = λ value found.
    let same : Some c.in-Some.value.now ≡ Some value = c.in-Some.ensures ∙ found in
    ap are_bytes (sym (some_same same)) ∙ c.byte_len.ensures.bytes
