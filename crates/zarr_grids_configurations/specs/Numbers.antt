-- Lists of whole numbers in JSON.
use Rattle.std.specs.Prelude.{ℕ, List, [], ◌∷◌, if◌then◌else◌, Option, Some, None, option_map, option_and_then}
use Rattle.serde_json.specs.Data.{Data, Items, no_items, item}
use Rattle.zarr_grids_dimensions.specs.Lookups.{all_positive}
use Rattle.serde_json.specs.Find.{as_number, as_u64, as_array}

-- the whole number from 0 to 2^64 - 1 that a JSON value is
abbrev pub size_in : Data → Option ℕ
size_in d = option_and_then as_u64 (as_number d)

-- the sizes that a JSON list says, where each of its values is a whole number
abbrev pub sizes_of : Items → Option (List ℕ)
sizes_of no_items = Some []
sizes_of (item d ds) = option_and_then (λ n. option_map (λ ns. n ∷ ns) (sizes_of ds)) (size_in d)

-- the sizes that a JSON value lists, where it is a list of sizes
abbrev pub sizes_in : Data → Option (List ℕ)
sizes_in d = option_and_then sizes_of (as_array d)

-- sizes of which each is more than 0
abbrev pub positive_sizes : List ℕ → Option (List ℕ)
positive_sizes sizes = if all_positive sizes then Some sizes else None
