-- What the configurations of `vlen` and `optional` give (this project's profile).
use Rattle.std.specs.Prelude.{ℕ, List, [], ◌∷◌, codes, if◌then◌else◌, Option, None, option_map, option_and_then}
use Rattle.serde_json.specs.Data.{Members}
use Rattle.serde_json.specs.Find.{get_member, as_array}
use Rattle.zarr_grids_metadata.specs.ExtensionPoints.{ExtensionPoint}
use Rattle.zarr_grids_metadata.specs.Members.{has_only}
use Rattle.zarr_codecs_meaning.specs.Chains.{Location}
use Rattle.zarr_codecs_metadata.specs.Chains.{points_in}
use Rattle.zarr_codecs_metadata.specs.Sections.{width_in, location_in}

-- what `vlen` is configured by: the extension points of its index and of its data, the width of the index's numbers in bits, and where the index stands
pub record VlenPoints : Type 0 where
  pub index : List ExtensionPoint
  pub content : List ExtensionPoint
  pub width : ℕ
  pub location : Location

-- what `optional` is configured by: the extension points of its mask and of its data
pub record OptionalPoints : Type 0 where
  pub mask : List ExtensionPoint
  pub content : List ExtensionPoint

-- the extension points that the member with this name lists
abbrev pub listed_points : List ℕ → Members → Option (List ExtensionPoint)
listed_points name ms = option_and_then points_in (option_and_then as_array (get_member name ms))

-- the width of the index's numbers and where the index stands, where a configuration has only the members of `vlen`
abbrev pub vlen_index_in : Members → Option (ℕ × Location)
vlen_index_in ms =
    if has_only (codes "index_codecs" ∷ codes "data_codecs" ∷ codes "index_data_type" ∷ codes "index_location" ∷ []) ms
    then option_and_then (λ width. option_map (λ location. (width, location)) (location_in (get_member (codes "index_location") ms))) (width_in (get_member (codes "index_data_type") ms))
    else None

-- what a configuration of `vlen` gives
abbrev pub vlen_points_in : Members → Option VlenPoints
vlen_points_in ms =
    option_and_then (λ told. option_and_then (λ index. option_map (λ content. record { index = index; content = content; width = told.0; location = told.1 })
    (listed_points (codes "data_codecs") ms)) (listed_points (codes "index_codecs") ms)) (vlen_index_in ms)

-- what a configuration of `optional` gives
abbrev pub optional_points_in : Members → Option OptionalPoints
optional_points_in ms =
    if has_only (codes "mask_codecs" ∷ codes "data_codecs" ∷ []) ms
    then option_and_then (λ mask. option_map (λ content. record { mask = mask; content = content }) (listed_points (codes "data_codecs") ms)) (listed_points (codes "mask_codecs") ms)
    else None
