use Rattle.std.proofs.Common.{◌≡◌, ◌++◌, false, length}
use Rattle.serde_json.specs.Written.{items_text}
use Rattle.zarr_codecs_json.specs.Texts.{Begins, fixed_data, kind_type}
use Rattle.zarr_codecs_json.proofs.numbers.push_numbers.Given as goal

-- the text so far and that of the elements left are the whole list's
abbrev pub invariant-loop-rest : goal.invariant-loop-rest
invariant-loop-rest l =
    (l.text.items ++ items_text l.later (fixed_data (kind_type l.kind l.width) l.count l.rest) ≡ l.fn.text.items ++ items_text false (fixed_data (kind_type l.kind l.width) l.count l.bytes))
    × Begins l.fn.text.items l.text.items

abbrev pub decreases-loop-rest : goal.decreases-loop-rest
decreases-loop-rest l = length l.rest
