-- The metadata that is written for `vlen` and `optional`.
use Rattle.std.specs.Prelude.{ℕ, List, map, codes, ◌==◌, if◌then◌else◌}
use Rattle.serde_json.specs.Data.{Items, array, string, Members, no_members, put}
use Rattle.serde_json.specs.View.{items_of}
use Rattle.zarr_grids_metadata.specs.ExtensionPoints.{ExtensionPoint, configured, written_point}
use Rattle.zarr_codecs_meaning.specs.Chains.{Location}
use Rattle.zarr_codecs_meaning.specs.Chains.Location.{at_start, at_end}
use Rattle.zarr_codecs_configurations.specs.Reading.{VlenPoints, OptionalPoints}

-- the list of extension points, as it is written
abbrev pub points_list : List ExtensionPoint → Items
points_list points = items_of (map written_point points)

-- the name of the type of an index's numbers, by their width
abbrev pub width_name : ℕ → List ℕ
width_name width = if width == 32 then codes "uint32" else codes "uint64"

-- the name of where an index stands
abbrev pub location_name : Location → List ℕ
location_name at_start = codes "start"
location_name at_end = codes "end"

-- the configuration of `vlen`, by what is written for its lists of codecs
abbrev pub listed_vlen : Items → Items → ℕ → Location → Members
listed_vlen index content width location =
    put (codes "index_location") (string (location_name location)) (put (codes "index_data_type") (string (width_name width)) (put (codes "index_codecs") (array index) (put (codes "data_codecs") (array content) no_members)))

-- the configuration of `vlen`
abbrev pub vlen_members : VlenPoints → Members
vlen_members given = listed_vlen (points_list given.index) (points_list given.content) given.width given.location

-- the metadata of `vlen` under one of its names
abbrev pub vlen_point : List ℕ → VlenPoints → ExtensionPoint
vlen_point name given = configured name (vlen_members given)

-- the configuration of `optional`, by what is written for its lists of codecs
abbrev pub listed_optional : Items → Items → Members
listed_optional mask content = put (codes "mask_codecs") (array mask) (put (codes "data_codecs") (array content) no_members)

-- the configuration of `optional`
abbrev pub optional_members : OptionalPoints → Members
optional_members given = listed_optional (points_list given.mask) (points_list given.content)

-- the metadata of `optional` under one of its names
abbrev pub optional_point : List ℕ → OptionalPoints → ExtensionPoint
optional_point name given = configured name (optional_members given)
