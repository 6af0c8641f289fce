-- Configurations of `vlen` and `optional` read from their members, and read back.
use Rattle.std.proofs.Common.{◌≡◌, ◌∙◌, ℕ, List, [], ◌∷◌, codes, Bool, true, false, if◌then◌else◌, ap, refl, Option, Some, None, option_map, option_and_then}
use Rattle.serde_json.specs.Data.{Members, string}
use Rattle.zarr_grids_metadata.specs.ExtensionPoints.{ExtensionPoint, extension_point, written_point}
use Rattle.zarr_grids_metadata.specs.Members.{has_only}
use Rattle.zarr_codecs_meaning.specs.Chains.{Location}
use Rattle.zarr_codecs_meaning.specs.Chains.Location.{at_start, at_end}
use Rattle.zarr_codecs_metadata.specs.Chains.{points_in}
use Rattle.zarr_codecs_metadata.specs.Sections.{width_in}
use Rattle.zarr_codecs_configurations.specs.Reading.{VlenPoints, OptionalPoints, listed_points, vlen_index_in, vlen_points_in, optional_points_in}
use Rattle.zarr_codecs_configurations.specs.Written.{points_list, width_name, vlen_members, optional_members}

abbrev given : ℕ × Location → List ExtensionPoint → List ExtensionPoint → VlenPoints
given told index content = record { index = index; content = content; width = told.0; location = told.1 }

-- the lists of a configuration, after what it tells of its index
pub vlen_read : (ms : Members) (told : ℕ × Location) (index : List ExtensionPoint) (o : Option (List ExtensionPoint)) → vlen_index_in ms ≡ Some told → listed_points (codes "index_codecs") ms ≡ Some index → listed_points (codes "data_codecs") ms ≡ o
    → vlen_points_in ms ≡ option_map (given told index) o
vlen_read ms told index o at is last =
    ap (option_and_then (λ told. option_and_then (λ index. option_map (given told index) (listed_points (codes "data_codecs") ms)) (listed_points (codes "index_codecs") ms))) at
    ∙ (ap (option_and_then (λ index. option_map (given told index) (listed_points (codes "data_codecs") ms))) is ∙ ap (option_map (given told index)) last)

pub optional_read : (ms : Members) (mask : List ExtensionPoint) (o : Option (List ExtensionPoint)) → has_only (codes "mask_codecs" ∷ codes "data_codecs" ∷ []) ms ≡ true → listed_points (codes "mask_codecs") ms ≡ Some mask → listed_points (codes "data_codecs") ms ≡ o
    → optional_points_in ms ≡ option_map (λ content. record { mask = mask; content = content }) o
optional_read ms mask o only is last =
    let values : Option (List ExtensionPoint) → Option (List ExtensionPoint) → Option OptionalPoints = λ m v. option_and_then (λ mask. option_map (λ content. record { mask = mask; content = content }) v) m in
    ap (λ (b : Bool). if b then values (listed_points (codes "mask_codecs") ms) (listed_points (codes "data_codecs") ms) else None) only
    ∙ (ap (λ m. values m (listed_points (codes "data_codecs") ms)) is ∙ ap (λ v. values (Some mask) v) last)

-- ---- what is written is read back

point_back : (name : List ℕ) (configuration : Option Members) (flag : Bool) →
    extension_point (written_point (record { name = name; configuration = configuration; must_understand = flag })) ≡ Some (record { name = name; configuration = configuration; must_understand = flag })
point_back name None true = refl
point_back name None false = refl
point_back name (Some ms) true = refl
point_back name (Some ms) false = refl

list_back : (points : List ExtensionPoint) → points_in (points_list points) ≡ Some points
list_back [] = refl
list_back (point ∷ points) =
    ap (option_and_then (λ p. option_map (λ ps. p ∷ ps) (points_in (points_list points)))) (point_back point.name point.configuration point.must_understand) ∙ ap (option_map (λ ps. point ∷ ps)) (list_back points)

-- the numbers of an index have one of two widths
abbrev pub IsWidth : ℕ → Type 0
IsWidth width = width_in (Some (string (width_name width))) ≡ Some width

told_back : (v : VlenPoints) → IsWidth v.width → vlen_index_in (vlen_members v) ≡ Some (v.width, v.location)
told_back v is = at v.location is where
  at : (location : Location) → IsWidth v.width → vlen_index_in (vlen_members (record v { location = location })) ≡ Some (v.width, location)
  at at_start is = ap (option_map (λ width. (width, at_start))) is
  at at_end is = ap (option_map (λ width. (width, at_end))) is

pub vlen_back : (v : VlenPoints) → IsWidth v.width → vlen_points_in (vlen_members v) ≡ Some v
vlen_back v is = vlen_read (vlen_members v) (v.width, v.location) v.index (Some v.content) (told_back v is) (list_back v.index) (list_back v.content)

pub optional_back : (v : OptionalPoints) → optional_points_in (optional_members v) ≡ Some v
optional_back v = optional_read (optional_members v) v.mask (Some v.content) refl (list_back v.mask) (list_back v.content)
