-- Why extension points are refused as codecs (Zarr core specification, "Codecs"; which refusal comes is this project's profile).
use Rattle.std.specs.Prelude.{◌≡◌, ◌⊎◌, ℕ, List, [], ◌∷◌, codes, bytes_eq, Bool, true, false, ◌||◌, if◌then◌else◌, is_some, Option, Some, None, option_map, MatchBool}
use Rattle.zarr_grids_metadata.specs.ExtensionPoints.{ExtensionPoint, configuration_members}
use Rattle.zarr_grids_metadata.specs.declared.error.PluginCreateError.{PluginCreateError}
use Rattle.zarr_grids_metadata.specs.declared.error.PluginCreateError.TheVariants as plugin
use Rattle.zarr_codecs_meaning.specs.Chains.{ArrayCodec, Chain}
use Rattle.zarr_codecs_meaning.specs.Fits.{takes_each_shape}
use Rattle.zarr_codecs_metadata.specs.Allowed.{has_no_array_codec, is_allowed}
use Rattle.zarr_codecs_metadata.specs.ArrayCodecs.{array_codec_in}
use Rattle.zarr_codecs_metadata.specs.Chains.{ReadsCodecs, any_too_deep, array_to_bytes_in, chain_of, is_too_deep}
use Rattle.zarr_codecs_metadata.specs.Sections.{names_vlen, names_optional}
use Rattle.zarr_codecs_array_to_array.specs.Refusals.{names_array_codec}
use Rattle.zarr_codecs_configurations.specs.Reading.{VlenPoints, OptionalPoints, vlen_points_in, optional_points_in}
use Rattle.zarr_codecs_around.specs.Codecs.{codecs_in}
use Rattle.zarr_codecs_chains.specs.Configured.{optional_too_deep, vlen_too_deep}
use Rattle.zarr_codecs_chains.specs.Reading.{leaf_in}

-- whether a name is that of a codec between arrays and bytes that holds no chains
abbrev pub names_leaf : List ℕ → Bool
names_leaf name = bytes_eq name (codes "bytes") || bytes_eq name (codes "packbits")

-- whether a name is that of a codec between arrays and bytes
abbrev pub names_array_to_bytes : List ℕ → Bool
names_array_to_bytes name = names_leaf name || (names_vlen name || names_optional name)

-- the lists of codecs that `vlen` is configured by: those of its index, and those of its data
abbrev pub lists_of_vlen : VlenPoints → List ExtensionPoint × List ExtensionPoint
lists_of_vlen given = (given.index, given.content)

-- the lists of codecs that `optional` is configured by: those of its mask, and those of its data
abbrev pub lists_of_optional : OptionalPoints → List ExtensionPoint × List ExtensionPoint
lists_of_optional given = (given.mask, given.content)

-- the two lists of codecs in the configuration of a codec that holds chains; None where it holds none, or its configuration is not one of its name's
abbrev pub lists_in : ExtensionPoint → Option (List ExtensionPoint × List ExtensionPoint)
lists_in point =
    if names_vlen point.name then option_map lists_of_vlen (vlen_points_in (configuration_members point.configuration))
    else (if names_optional point.name then option_map lists_of_optional (optional_points_in (configuration_members point.configuration)) else None)

-- whether the configuration of a codec between arrays and bytes is one of its name's, whatever the codecs in its lists are
abbrev pub is_configured : ExtensionPoint → Bool
is_configured point = is_some (lists_in point) || is_some (leaf_in point)

mutual
  -- why extension points are refused as a chain
  pub data RefusedChain (reads : ReadsCodecs) : List ExtensionPoint → PluginCreateError → Type 0 where
    -- there is no codec between arrays and bytes
    ends : RefusedChain reads [] plugin.MetadataInvalid
    -- the configuration of a codec between arrays is not one of its name's
    array_codec : (point : ExtensionPoint) (points : List ExtensionPoint) → names_array_codec point.name ≡ true → array_codec_in point ≡ None → RefusedChain reads (point ∷ points) plugin.MetadataInvalid
    -- what follows a codec between arrays is refused
    later : (point : ExtensionPoint) (points : List ExtensionPoint) (codec : ArrayCodec) (cause : PluginCreateError) → array_codec_in point ≡ Some codec → RefusedChain reads points cause → RefusedChain reads (point ∷ points) cause
    -- the codec between arrays and bytes is refused
    first : (point : ExtensionPoint) (points : List ExtensionPoint) (cause : PluginCreateError) → names_array_codec point.name ≡ false → RefusedCodec reads point cause → RefusedChain reads (point ∷ points) cause
    -- one of the caller's codecs is refused: the cause is the caller's
    others : (point : ExtensionPoint) (points : List ExtensionPoint) (chain : Chain) (cause : PluginCreateError) → names_array_codec point.name ≡ false → array_to_bytes_in reads point ≡ Some chain → codecs_in reads points ≡ None
        → RefusedChain reads (point ∷ points) cause

  -- why an extension point is refused as a codec between arrays and bytes
  pub data RefusedCodec (reads : ReadsCodecs) : ExtensionPoint → PluginCreateError → Type 0 where
    -- its name is that of none; so is that of a shard, which stands in no chain of this kind
    unknown : (point : ExtensionPoint) → names_array_to_bytes point.name ≡ false → RefusedCodec reads point plugin.NameUnsupported
    -- its configuration is not one of its name's
    configuration : (point : ExtensionPoint) → names_array_to_bytes point.name ≡ true → is_configured point ≡ false → RefusedCodec reads point plugin.MetadataInvalid
    -- the first chain inside of it is refused
    inner : (point : ExtensionPoint) (one two : List ExtensionPoint) (cause : PluginCreateError) → lists_in point ≡ Some (one, two) → RefusedChain reads one cause → RefusedCodec reads point cause
    -- the second one is refused
    content : (point : ExtensionPoint) (one two : List ExtensionPoint) (chain : Chain) (cause : PluginCreateError) → lists_in point ≡ Some (one, two) → chain_of reads one ≡ Some chain → RefusedChain reads two cause
        → RefusedCodec reads point cause

-- a chain is said of which this does not hold
abbrev pub IsSaidBut : Option Chain → (Chain → Bool) → Type 0
IsSaidBut said holds = (chain : Chain) × (said ≡ Some chain) × (holds chain ≡ false)

-- why extension points are refused as a chain: as a chain of any codecs, or since array to array codecs stand where none may
abbrev pub RefusesChain : ReadsCodecs → List ExtensionPoint → PluginCreateError → Type 0
RefusesChain reads points cause = RefusedChain reads points cause ⊎ ((cause ≡ plugin.MetadataInvalid) × IsSaidBut (chain_of reads points) is_allowed)

-- why a caller's extension points are refused as a chain: one of them nests deeper than is read, which is tested first, or they say no chain
abbrev pub RefusesRead : ReadsCodecs → List ExtensionPoint → PluginCreateError → Type 0
RefusesRead reads points cause = MatchBool (any_too_deep points) (cause ≡ plugin.TooDeep) (RefusesChain reads points cause)

-- why an extension point is refused as a codec between arrays and bytes: as any such codec, or since array to array codecs stand where none may
abbrev pub RefusesCodec : ReadsCodecs → ExtensionPoint → PluginCreateError → Type 0
RefusesCodec reads point cause = RefusedCodec reads point cause ⊎ ((cause ≡ plugin.MetadataInvalid) × IsSaidBut (array_to_bytes_in reads point) is_allowed)

-- why a caller's extension point is refused as a codec between arrays and bytes: it nests deeper than is read, which is tested first, or it says no such codec
abbrev pub RefusesReadCodec : ReadsCodecs → ExtensionPoint → PluginCreateError → Type 0
RefusesReadCodec reads point cause = MatchBool (is_too_deep point) (cause ≡ plugin.TooDeep) (RefusesCodec reads point cause)

-- why `vlen` is not made of what it is configured by: a chain is refused, or that of the data has a codec between arrays
abbrev pub RefusesVlen : ReadsCodecs → VlenPoints → PluginCreateError → Type 0
RefusesVlen reads given cause =
    RefusesChain reads given.index cause ⊎ (RefusesChain reads given.content cause ⊎ ((cause ≡ plugin.MetadataInvalid) × IsSaidBut (chain_of reads given.content) has_no_array_codec))

-- why `optional` is not made of what it is configured by: a chain is refused, or that of the elements, or a chain inside of it, has a codec between arrays
abbrev pub RefusesOptional : ReadsCodecs → OptionalPoints → PluginCreateError → Type 0
RefusesOptional reads given cause =
    RefusesChain reads given.mask cause ⊎ (RefusesChain reads given.content cause ⊎ ((cause ≡ plugin.MetadataInvalid) × IsSaidBut (chain_of reads given.content) takes_each_shape))

-- why a caller's configuration of `vlen` is refused: a codec in it nests deeper than is read, which is tested first, or no `vlen` is made of it
abbrev pub RefusesReadVlen : ReadsCodecs → VlenPoints → PluginCreateError → Type 0
RefusesReadVlen reads given cause = MatchBool (vlen_too_deep given) (cause ≡ plugin.TooDeep) (RefusesVlen reads given cause)

-- why a caller's configuration of `optional` is refused: a codec in it nests deeper than is read, which is tested first, or no `optional` is made of it
abbrev pub RefusesReadOptional : ReadsCodecs → OptionalPoints → PluginCreateError → Type 0
RefusesReadOptional reads given cause = MatchBool (optional_too_deep given) (cause ≡ plugin.TooDeep) (RefusesOptional reads given cause)
