-- What the metadata of shards says (Zarr sharding codec, "Configuration parameters"; how deep shards nest is this project's profile).
use Rattle.std.specs.Prelude.{ℕ, zero, suc, List, [], ◌∷◌, codes, Bool, bytes_eq, ◌==◌, if◌then◌else◌, Option, Some, None, option_map, option_and_then}
use Rattle.std.specs.List.{list_any}
use Rattle.serde_json.specs.Data.{Data, Members}
use Rattle.serde_json.specs.Find.{get_member, as_str, as_array}
use Rattle.zarr_grids_metadata.specs.ExtensionPoints.{ExtensionPoint, configuration_members}
use Rattle.zarr_grids_metadata.specs.Members.{has_only}
use Rattle.zarr_codecs_meaning.specs.Chains.{Location, Chain}
use Rattle.zarr_codecs_meaning.specs.Chains.Location.{at_end}
use Rattle.zarr_codecs_meaning.specs.Chains.Chain.{sharded}
use Rattle.zarr_codecs_metadata.specs.Allowed.{allowed}
use Rattle.zarr_codecs_metadata.specs.ArrayCodecs.{naturals_of}
use Rattle.zarr_codecs_metadata.specs.Chains.{ReadsCodec, ReadsCodecs, array_to_bytes_in, chain_by, chain_of, points_in}
use Rattle.zarr_codecs_metadata.specs.Sections.{location_named}

-- ---- the configuration

-- what `sharding_indexed` is configured by: the shape of its subchunks, the extension points of their codecs and of the index's, and where the index stands
pub record ShardPoints : Type 0 where
  pub subchunk : List ℕ
  pub inner : List ExtensionPoint
  pub index : List ExtensionPoint
  pub location : Location

-- sizes, where none of them is 0
abbrev pub none_zero : List ℕ → Option (List ℕ)
none_zero sizes = if list_any (λ size. size == 0) sizes then None else Some sizes

-- the subchunk shape that a member gives: numbers, none of them 0
abbrev pub subchunk_in : Data → Option (List ℕ)
subchunk_in d = option_and_then none_zero (option_and_then naturals_of (as_array d))

-- where a member says that the index stands: at the end, where there is no such member
abbrev pub index_location_in : Option Data → Option Location
index_location_in None = Some at_end
index_location_in (Some d) = option_and_then location_named (as_str d)

-- where the index stands, where a configuration has only the members of `sharding_indexed`
abbrev pub shard_location_in : Members → Option Location
shard_location_in ms =
    if has_only (codes "chunk_shape" ∷ codes "codecs" ∷ codes "index_codecs" ∷ codes "index_location" ∷ []) ms
    then index_location_in (get_member (codes "index_location") ms) else None

-- the extension points that the member with this name lists
abbrev pub points_listed : List ℕ → Members → Option (List ExtensionPoint)
points_listed name ms = option_and_then points_in (option_and_then as_array (get_member name ms))

-- what a configuration of `sharding_indexed` gives
abbrev pub shard_points_in : Members → Option ShardPoints
shard_points_in ms =
    option_and_then (λ location. option_and_then (λ subchunk. option_and_then (λ inner. option_map (λ index. record { subchunk = subchunk; inner = inner; index = index; location = location })
    (points_listed (codes "index_codecs") ms)) (points_listed (codes "codecs") ms)) (option_and_then subchunk_in (get_member (codes "chunk_shape") ms))) (shard_location_in ms)

-- ---- the codec

-- the shard that a configuration gives, by the chains that extension points say for its subchunks, and for its index
abbrev pub shard_of : (List ExtensionPoint → Option Chain) → (List ExtensionPoint → Option Chain) → ShardPoints → Option Chain
shard_of inner index given = option_and_then (λ i. option_map (λ x. sharded given.subchunk i x given.location) (index given.index)) (inner given.inner)

-- the shard that the members of a configuration give
abbrev pub sharding_of : (List ExtensionPoint → Option Chain) → (List ExtensionPoint → Option Chain) → Members → Option Chain
sharding_of inner index ms = option_and_then (shard_of inner index) (shard_points_in ms)

-- whether a name is that of a shard
abbrev pub names_shard : List ℕ → Bool
names_shard name = bytes_eq name (codes "sharding_indexed")

-- the array to bytes codec that an extension point is, with at most so many shards in one another: none stands in `vlen`, in `optional` or in a shard's index
abbrev pub array_to_bytes_of : ReadsCodecs → ℕ → ReadsCodec
array_to_bytes_of reads zero point = array_to_bytes_in reads point
array_to_bytes_of reads (suc shards) point =
    if names_shard point.name then sharding_of (chain_by reads (array_to_bytes_of reads shards)) (chain_of reads) (configuration_members point.configuration)
    else array_to_bytes_in reads point

-- the chain that extension points say, with at most so many shards in one another, where its array to array codecs stand only where they may
abbrev pub chain_within : ReadsCodecs → ℕ → List ExtensionPoint → Option Chain
chain_within reads shards points = option_and_then allowed (chain_by reads (array_to_bytes_of reads shards) points)

-- the chain that extension points say, of at most two shards in one another
abbrev pub array_chain_of : ReadsCodecs → List ExtensionPoint → Option Chain
array_chain_of reads points = chain_within reads 2 points
