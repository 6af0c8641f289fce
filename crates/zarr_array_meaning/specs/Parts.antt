-- What the other fields of an array document say, one by one (Zarr core specification, "Array metadata").
use Rattle.std.specs.Prelude.{ℕ, List, [], ◌∷◌, length, Bool, true, false, ◌==◌, if◌then◌else◌, Option, Some, None, option_map, option_and_then}
use Rattle.serde_json.specs.Data.{Data, null, boolean, number, string, array, object, Items, no_items, item, Members, no_members}
use Rattle.serde_json.specs.Find.{as_object, as_array}
use Rattle.zarr_codecs_meaning.specs.Types.{DataType, Cell, is_value}
use Rattle.zarr_codecs_meaning.specs.Chains.{Chain}
use Rattle.zarr_codecs_metadata.specs.Chains.{ReadsCodecs, points_in}
use Rattle.zarr_codecs_types.specs.FillMetadata.{cell_in}
use Rattle.zarr_sharding_metadata.specs.Metadata.{array_chain_of}

-- the chain that the member `codecs` says, of at most two shards in one another
abbrev pub codecs_in : ReadsCodecs → Data → Option Chain
codecs_in reads d = option_and_then (array_chain_of reads) (option_and_then points_in (as_array d))

-- the fill value that the member `fill_value` says: a value of the data type
abbrev pub fill_in : DataType → Data → Option Cell
fill_in type d = option_and_then (λ cell. if is_value type cell then Some cell else None) (cell_in type d)

-- the attributes: an object, or none at all
abbrev pub attributes_in : Option Data → Option Members
attributes_in None = Some no_members
attributes_in (Some d) = as_object d

-- a list without items
abbrev pub is_empty_list : Data → Bool
is_empty_list null = false
is_empty_list (boolean b) = false
is_empty_list (number n) = false
is_empty_list (string s) = false
is_empty_list (array no_items) = true
is_empty_list (array (item d ds)) = false
is_empty_list (object ms) = false

-- storage transformers: none, or an empty list
abbrev pub has_no_transformers : Option Data → Bool
has_no_transformers None = true
has_no_transformers (Some d) = is_empty_list d

-- a dimension's name: a text, or null for none
abbrev pub name_in : Data → Option (Option (List ℕ))
name_in null = Some None
name_in (boolean b) = None
name_in (number n) = None
name_in (string s) = Some (Some s)
name_in (array ds) = None
name_in (object ms) = None

-- the names that a list gives, where each of its values is a text or null
abbrev pub names_of : Items → Option (List (Option (List ℕ)))
names_of no_items = Some []
names_of (item d ds) = option_and_then (λ name. option_map (λ names. name ∷ names) (names_of ds)) (name_in d)

-- the names that a list gives, as many as there are dimensions
abbrev pub names_for : ℕ → Items → Option (List (Option (List ℕ)))
names_for dimensions ds = option_and_then (λ names. if length names == dimensions then Some names else None) (names_of ds)

-- dimension names: none where the field is absent or null, else a list with one for each dimension
abbrev pub dimension_names_in : ℕ → Option Data → Option (Option (List (Option (List ℕ))))
dimension_names_in dimensions None = Some None
dimension_names_in dimensions (Some null) = Some None
dimension_names_in dimensions (Some (boolean b)) = None
dimension_names_in dimensions (Some (number n)) = None
dimension_names_in dimensions (Some (string s)) = None
dimension_names_in dimensions (Some (array ds)) = option_map (λ names. Some names) (names_for dimensions ds)
dimension_names_in dimensions (Some (object ms)) = None
