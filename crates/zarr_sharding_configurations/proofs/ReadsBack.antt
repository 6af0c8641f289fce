-- The configuration of `sharding_indexed` read from its members, and read back.
use Rattle.std.proofs.Common.{◌≡◌, ◌∙◌, ℕ, ◌<◌, List, [], ◌∷◌, map, codes, Bool, true, false, ap, refl, Option, Some, None, option_map, option_and_then}
use Rattle.serde_json.specs.Data.{Members}
use Rattle.serde_json.specs.Find.{get_member}
use Rattle.serde_json.specs.View.{items_of}
use Rattle.zarr_grids_boxes.specs.Boxes.{product}
use Rattle.zarr_grids_metadata.specs.ExtensionPoints.{ExtensionPoint, extension_point, written_point}
use Rattle.zarr_codecs_meaning.specs.Chains.{Location}
use Rattle.zarr_codecs_meaning.specs.Chains.Location.{at_start, at_end}
use Rattle.zarr_codecs_metadata.specs.ArrayCodecs.{naturals_of}
use Rattle.zarr_codecs_metadata.specs.Chains.{points_in}
use Rattle.zarr_codecs_configurations.specs.Written.{points_list}
use Rattle.zarr_sharding_metadata.specs.Metadata.{ShardPoints, none_zero, points_listed, shard_location_in, shard_points_in, subchunk_in}
use Rattle.zarr_sharding_configurations.specs.Written.{shard_members, size_data}
use Rattle.zarr_sharding_configurations.proofs.Sizes.{positive_sizes}

abbrev given : Location → List ℕ → List ExtensionPoint → List ExtensionPoint → ShardPoints
given location subchunk inner index = record { subchunk = subchunk; inner = inner; index = index; location = location }

-- what a configuration gives, by the parts of it
abbrev by_parts : Option (List ℕ) → Option (List ExtensionPoint) → Option (List ExtensionPoint) → Option Location → Option ShardPoints
by_parts subchunk inner index location = option_and_then (λ l. option_and_then (λ s. option_and_then (λ i. option_map (given l s i) index) inner) subchunk) location

-- a configuration of which a part is none gives nothing
pub no_location : (ms : Members) → shard_location_in ms ≡ None → shard_points_in ms ≡ None
no_location ms one = ap (by_parts (option_and_then subchunk_in (get_member (codes "chunk_shape") ms)) (points_listed (codes "codecs") ms) (points_listed (codes "index_codecs") ms)) one

pub all_parts : (ms : Members) (l : Location) (s : Option (List ℕ)) (i x : Option (List ExtensionPoint)) → shard_location_in ms ≡ Some l → option_and_then subchunk_in (get_member (codes "chunk_shape") ms) ≡ s
    → points_listed (codes "codecs") ms ≡ i → points_listed (codes "index_codecs") ms ≡ x → shard_points_in ms ≡ by_parts s i x (Some l)
all_parts ms l s i x one two three four =
    ap (λ (o : Option Location × Option (List ℕ) × Option (List ExtensionPoint) × Option (List ExtensionPoint)). by_parts o.1 o.2 o.3 o.0) (λ k. (one k, two k, three k, four k))

-- ---- what is written is read back

point_back : (name : List ℕ) (configuration : Option Members) (flag : Bool) →
    extension_point (written_point (record { name = name; configuration = configuration; must_understand = flag })) ≡ Some (record { name = name; configuration = configuration; must_understand = flag })
point_back name None true = refl
point_back name None false = refl
point_back name (Some ms) true = refl
point_back name (Some ms) false = refl

list_back : (points : List ExtensionPoint) → points_in (points_list points) ≡ Some points
list_back [] = refl
list_back (point ∷ points) =
    ap (option_and_then (λ p. option_map (λ ps. p ∷ ps) (points_in (points_list points)))) (point_back point.name point.configuration point.must_understand) ∙ ap (option_map (λ ps. point ∷ ps)) (list_back points)

sizes_back : (sizes : List ℕ) → naturals_of (items_of (map size_data sizes)) ≡ Some sizes
sizes_back [] = refl
sizes_back (size ∷ sizes) = ap (option_map (λ ns. size ∷ ns)) (sizes_back sizes)

location_back : (v : ShardPoints) → shard_location_in (shard_members v) ≡ Some v.location
location_back v = at v.location where
  at : (location : Location) → shard_location_in (shard_members (record v { location = location })) ≡ Some location
  at at_start = refl
  at at_end = refl

pub shard_back : (v : ShardPoints) → 0 < product v.subchunk → shard_points_in (shard_members v) ≡ Some v
shard_back v positive =
    all_parts (shard_members v) v.location (Some v.subchunk) (Some v.inner) (Some v.index) (location_back v) (ap (option_and_then none_zero) (sizes_back v.subchunk) ∙ positive_sizes v.subchunk positive) (list_back v.inner) (list_back v.index)
