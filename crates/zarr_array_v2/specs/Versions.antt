-- Which documents are of version 2.
use Rattle.std.specs.Prelude.{Bool, false, codes}
use Rattle.std.specs.Option.{option_map_or}
use Rattle.serde_json.specs.Data.{Data, Members}
use Rattle.serde_json.specs.Find.{get_member, as_object}
use Rattle.zarr_array_v2.specs.Dtypes.{is_number}

-- whether members are those of a document of version 2: `zarr_format` is 2
abbrev pub has_version_2 : Members → Bool
has_version_2 ms = option_map_or (is_number 2) (get_member (codes "zarr_format") ms) false

-- whether a tree is a document of version 2
abbrev pub is_version_2 : Data → Bool
is_version_2 d = option_map_or has_version_2 (as_object d) false
