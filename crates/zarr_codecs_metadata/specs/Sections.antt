-- The metadata of `vlen` and `optional`, by what the chains inside of them are (this project's profile).
use Rattle.std.specs.Prelude.{ℕ, List, [], ◌∷◌, Bool, ◌||◌, codes, bytes_eq, if◌then◌else◌, Option, Some, None, option_map, option_and_then}
use Rattle.serde_json.specs.Data.{Data, Members}
use Rattle.serde_json.specs.Find.{get_member, as_str}
use Rattle.zarr_grids_metadata.specs.Members.{has_only}
use Rattle.zarr_codecs_meaning.specs.Chains.{Location, Chain}
use Rattle.zarr_codecs_meaning.specs.Chains.Location.{at_start, at_end}
use Rattle.zarr_codecs_meaning.specs.Chains.Chain.{vlen, optional}

-- whether a name is that of `vlen`
abbrev pub names_vlen : List ℕ → Bool
names_vlen name = bytes_eq name (codes "vlen") || bytes_eq name (codes "zarrs.vlen")

-- whether a name is that of `optional`
abbrev pub names_optional : List ℕ → Bool
names_optional name = bytes_eq name (codes "optional") || bytes_eq name (codes "zarrs.optional")

-- the width in bits of the numbers of an index, by the name of their type
abbrev pub width_named : List ℕ → Option ℕ
width_named name = if bytes_eq name (codes "uint32") then Some 32 else (if bytes_eq name (codes "uint64") then Some 64 else None)

-- the width in bits that a member gives
abbrev pub width_in : Option Data → Option ℕ
width_in d = option_and_then width_named (option_and_then as_str d)

-- where an index stands, by its name
abbrev pub location_named : List ℕ → Option Location
location_named name = if bytes_eq name (codes "start") then Some at_start else (if bytes_eq name (codes "end") then Some at_end else None)

-- where a member says that an index stands: at the start, where there is no such member
abbrev pub location_in : Option Data → Option Location
location_in None = Some at_start
location_in (Some d) = option_and_then location_named (as_str d)

-- `vlen` with the chains of its index and of its data, the width of the index's numbers, and where the index stands
abbrev pub vlen_with : Option Chain → Option Chain → Option ℕ → Option Location → Option Chain
vlen_with index content width location =
    option_and_then (λ i. option_and_then (λ c. option_and_then (λ w. option_map (λ l. vlen i c w l) location) width) content) index

-- `vlen` with what its configuration gives, by the chain that each list of codecs says
abbrev pub vlen_of : (Data → Option Chain) → Members → Option Chain
vlen_of chain ms =
    if has_only (codes "index_codecs" ∷ codes "data_codecs" ∷ codes "index_data_type" ∷ codes "index_location" ∷ []) ms
    then vlen_with (option_and_then chain (get_member (codes "index_codecs") ms)) (option_and_then chain (get_member (codes "data_codecs") ms)) (width_in (get_member (codes "index_data_type") ms)) (location_in (get_member (codes "index_location") ms))
    else None

-- `optional` with the chains of its mask and of its data
abbrev pub optional_with : Option Chain → Option Chain → Option Chain
optional_with mask values = option_and_then (λ m. option_map (λ v. optional m v) values) mask

-- `optional` with what its configuration gives, by the chain that each list of codecs says
abbrev pub optional_of : (Data → Option Chain) → Members → Option Chain
optional_of chain ms =
    if has_only (codes "mask_codecs" ∷ codes "data_codecs" ∷ []) ms
    then optional_with (option_and_then chain (get_member (codes "mask_codecs") ms)) (option_and_then chain (get_member (codes "data_codecs") ms))
    else None
