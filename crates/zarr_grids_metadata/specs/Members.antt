-- The members of a JSON object.
use Rattle.std.specs.Prelude.{ℕ, List, bytes_eq, Bool, true, ◌&&◌}
use Rattle.std.specs.List.{list_any}
use Rattle.serde_json.specs.Data.{Members, no_members, member}

-- whether each member's name is one of these
abbrev pub has_only : List (List ℕ) → Members → Bool
has_only names no_members = true
has_only names (member name d ms) = list_any (bytes_eq name) names && has_only names ms
