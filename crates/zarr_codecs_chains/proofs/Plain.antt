-- Chains without shards, where shards might stand.
use Rattle.std.proofs.Common.{◌≡◌, List, Bool, true, false, refl, sym, subst}
use Rattle.zarr_grids_metadata.specs.ExtensionPoints.{ExtensionPoint}
use Rattle.zarr_grids_metadata.specs.declared.error.PluginCreateError.{PluginCreateError}
use Rattle.zarr_grids_metadata.specs.declared.error.PluginCreateError.TheVariants as plugin
use Rattle.zarr_codecs_metadata.specs.Chains.{ReadsCodecs}
use Rattle.zarr_sharding_metadata.specs.Nesting.{shard_stands}
use Rattle.zarr_codecs_chains.specs.Plain.{RefusesPlain, RefusesUnless}
use Rattle.zarr_codecs_chains.specs.Refusals.{RefusesChain}

-- a shard that stands where none may is too deep
pub too_deep : (reads : ReadsCodecs) (points : List ExtensionPoint) → shard_stands points ≡ true → RefusesPlain reads points plugin.TooDeep
too_deep reads points stands = subst (λ (b : Bool). RefusesUnless b (RefusesChain reads points plugin.TooDeep) plugin.TooDeep) (sym stands) refl

-- where none stands, a chain is refused as without shards
pub as_plain : (reads : ReadsCodecs) (points : List ExtensionPoint) (cause : PluginCreateError) → shard_stands points ≡ false → RefusesChain reads points cause → RefusesPlain reads points cause
as_plain reads points cause none refused = subst (λ (b : Bool). RefusesUnless b (RefusesChain reads points cause) cause) (sym none) refused
