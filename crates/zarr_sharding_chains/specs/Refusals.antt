-- Why extension points are refused as the chain of an array (Zarr sharding codec, "Configuration parameters"; which refusal comes is this project's profile).
use Rattle.std.specs.Prelude.{◌≡◌, ◌⊎◌, ℕ, zero, suc, List, [], ◌∷◌, length, drop, Bool, true, false, Option, Some, None, MatchBool, MatchOption}
use Rattle.zarr_grids_metadata.specs.ExtensionPoints.{ExtensionPoint, configuration_members}
use Rattle.zarr_grids_metadata.specs.declared.error.PluginCreateError.{PluginCreateError}
use Rattle.zarr_grids_metadata.specs.declared.error.PluginCreateError.TheVariants as plugin
use Rattle.zarr_codecs_meaning.specs.Chains.{Chain}
use Rattle.zarr_codecs_metadata.specs.Chains.{ReadsCodecs, allowed_chain, any_too_deep}
use Rattle.zarr_codecs_array_to_array.specs.Refusals.{cause_of, names_array_codec}
use Rattle.zarr_codecs_around.specs.ArrayMetadata.{array_codecs_of}
use Rattle.zarr_codecs_around.specs.Codecs.{codecs_in}
use Rattle.zarr_codecs_chains.specs.Plain.{RefusesPlain}
use Rattle.zarr_codecs_chains.specs.Refusals.{RefusesChain}
use Rattle.zarr_sharding_metadata.specs.Metadata.{chain_within, names_shard, shard_of, shard_points_in}
use Rattle.zarr_sharding_metadata.specs.Nesting.{shard_stands}
use Rattle.zarr_sharding_codec.specs.Configured.{RefusesShard}

-- what extension points say as the chain of a shard's subchunks
abbrev pub ReadsInner : Type 0
ReadsInner = List ExtensionPoint → Option Chain

-- why extension points are refused as the chain of a shard's subchunks
abbrev pub RefusesInner : Type 1
RefusesInner = List ExtensionPoint → PluginCreateError → Type 0

-- the chains of a shard's subchunks: what extension points say, and why others are refused
pub record InnerChains : Type 1 where
  pub reads : ReadsInner
  pub refuses : RefusesInner

-- the chains that are read so and refused so
abbrev pub inner_chains : ReadsInner → RefusesInner → InnerChains
inner_chains reads refuses = record { reads = reads; refuses = refuses }

-- the first cause where something is so, else the second
abbrev pub EitherCause : Bool → Type 0 → Type 0 → Type 0
EitherCause true one other = one
EitherCause false one other = other

-- why a shard, and the caller's codecs after it, are refused: the shard's configuration is not one of its name's, the codecs of its subchunks or of its index are refused, or one of the caller's: then the cause is the caller's
abbrev pub RefusesNamed : ReadsCodecs → InnerChains → ExtensionPoint → List ExtensionPoint → PluginCreateError → Type 0
RefusesNamed reads inner point points cause =
    MatchOption (shard_points_in (configuration_members point.configuration)) (cause ≡ plugin.MetadataInvalid)
    (λ given. RefusesShard inner.reads inner.refuses (RefusesChain reads) given cause ⊎ ((chain : Chain) × (shard_of inner.reads (allowed_chain reads) given ≡ Some chain) × (codecs_in reads points ≡ None)))

-- why extension points are refused as a shard and the caller's codecs after it: there are none, the first is refused by its name, or the shard or what stands after it is refused
abbrev pub RefusesFirst : ReadsCodecs → ReadsInner → RefusesInner → List ExtensionPoint → PluginCreateError → Type 0
RefusesFirst reads inner refuses [] cause = cause ≡ plugin.MetadataInvalid
RefusesFirst reads inner refuses (point ∷ points) cause = EitherCause (names_shard point.name) (RefusesNamed reads (inner_chains inner refuses) point points cause) (cause ≡ cause_of (names_array_codec point.name))

-- why extension points are refused as a chain in which a shard stands: what follows the codecs between arrays is
abbrev pub RefusesSharded : ReadsCodecs → ReadsInner → RefusesInner → List ExtensionPoint → PluginCreateError → Type 0
RefusesSharded reads inner refuses points cause = RefusesFirst reads inner refuses (drop (length (array_codecs_of points)) points) cause

-- why extension points are refused as a chain of at most so many shards in one another: a shard in which a chain of one shard less stands is refused, a chain without shards, or a shard that is one too many
abbrev pub RefusesWithin : ReadsCodecs → ℕ → List ExtensionPoint → PluginCreateError → Type 0
RefusesWithin reads zero points cause = RefusesPlain reads points cause
RefusesWithin reads (suc shards) points cause = EitherCause (shard_stands points) (RefusesSharded reads (chain_within reads shards) (RefusesWithin reads shards) points cause) (RefusesChain reads points cause)

-- why extension points are refused as the chain of an array: as one of at most two shards in one another
abbrev pub RefusesArray : ReadsCodecs → List ExtensionPoint → PluginCreateError → Type 0
RefusesArray reads points cause = RefusesWithin reads 2 points cause

-- why a caller's extension points are refused as the chain of an array: one of them nests deeper than is read, which is tested first, or they say no such chain
abbrev pub RefusesReadArray : ReadsCodecs → List ExtensionPoint → PluginCreateError → Type 0
RefusesReadArray reads points cause = MatchBool (any_too_deep points) (cause ≡ plugin.TooDeep) (RefusesArray reads points cause)
