-- Chains without shards, where shards might stand (Zarr sharding codec; which refusal comes is this project's profile).
use Rattle.std.specs.Prelude.{◌≡◌, List, Bool, true, false}
use Rattle.zarr_grids_metadata.specs.ExtensionPoints.{ExtensionPoint}
use Rattle.zarr_grids_metadata.specs.declared.error.PluginCreateError.{PluginCreateError}
use Rattle.zarr_grids_metadata.specs.declared.error.PluginCreateError.TheVariants as plugin
use Rattle.zarr_codecs_metadata.specs.Chains.{ReadsCodecs}
use Rattle.zarr_sharding_metadata.specs.Nesting.{shard_stands}
use Rattle.zarr_codecs_chains.specs.Refusals.{RefusesChain}

-- why a refusal comes where no shard may stand: one stands there, or the given cause
abbrev pub RefusesUnless : Bool → Type 0 → PluginCreateError → Type 0
RefusesUnless true refused cause = cause ≡ plugin.TooDeep
RefusesUnless false refused cause = refused

-- why extension points are refused as a chain without shards: they name one, or they say no chain
abbrev pub RefusesPlain : ReadsCodecs → List ExtensionPoint → PluginCreateError → Type 0
RefusesPlain reads points cause = RefusesUnless (shard_stands points) (RefusesChain reads points cause) cause
