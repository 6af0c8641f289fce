use Rattle.std.proofs.Common.{◌≡◌, ◌++◌, ◌∷◌, [], length}
use Rattle.json.specs.Print.{escape}
use Rattle.zarr_codecs_json.specs.Texts.{Begins}
use Rattle.zarr_codecs_json.proofs.strings.push_quoted.Given as goal

-- the text so far and that of the bytes left are the whole string's, without its last quote
abbrev pub invariant-runs : goal.invariant-runs
invariant-runs l =
    (l.text.items ++ escape l.rest ≡ (l.fn.text.items ++ 34 ∷ []) ++ escape l.string)
    × Begins l.fn.text.items l.text.items

abbrev pub decreases-runs : goal.decreases-runs
decreases-runs l = length l.rest
