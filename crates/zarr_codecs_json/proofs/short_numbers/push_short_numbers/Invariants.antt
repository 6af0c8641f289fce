use Rattle.std.proofs.Common.{◌≡◌, ◌≤◌, ◌++◌, false, length, take}
use Rattle.serde_json.specs.Written.{items_text}
use Rattle.zarr_codecs_json.specs.Texts.{Begins, fixed_data, kind_type}
use Rattle.zarr_codecs_json.specs.declared.numbers.Kind.TheVariants as kind
use Rattle.zarr_codecs_json.proofs.short_numbers.push_short_numbers.Given as goal

-- the text so far, what the room has, and the text of the elements left are the whole list's
abbrev pub invariant-loop-rest : goal.invariant-loop-rest
invariant-loop-rest l =
    ((l.text.items ++ take l.at l.room) ++ items_text l.later (fixed_data (kind_type kind.Unsigned l.width) l.count l.rest) ≡ l.fn.text.items ++ items_text false (fixed_data (kind_type kind.Unsigned l.width) l.count l.bytes))
    × Begins l.fn.text.items l.text.items
    × (l.at ≤ 256) × (length l.room ≡ 256)

abbrev pub decreases-loop-rest : goal.decreases-loop-rest
decreases-loop-rest l = length l.rest
