-- Codecs that hold chains, as their configurations give them (this project's profile).
use Rattle.std.specs.Prelude.{Bool, ◌||◌, Option, Some, None, option_and_then, if◌then◌else◌}
use Rattle.zarr_codecs_meaning.specs.Chains.{Chain}
use Rattle.zarr_codecs_meaning.specs.Chains.Chain.{bytes, vlen, optional}
use Rattle.zarr_codecs_meaning.specs.Chains.Endianness.{little}
use Rattle.zarr_codecs_meaning.specs.Fits.{takes_each_shape}
use Rattle.zarr_codecs_metadata.specs.Allowed.{has_no_array_codec}
use Rattle.zarr_codecs_metadata.specs.Chains.{ReadsCodecs, allowed_chain, any_too_deep}
use Rattle.zarr_codecs_configurations.specs.Reading.{VlenPoints, OptionalPoints}

-- the chain of `bytes` with the lowest byte first
abbrev pub little_bytes : Chain
little_bytes = bytes (Some little)

-- `vlen` as a configuration gives it: its chains are allowed, and that of the data has no array to array codec
abbrev pub configured_vlen : ReadsCodecs → VlenPoints → Option Chain
configured_vlen reads given =
    option_and_then (λ index. option_and_then (λ content. if has_no_array_codec content then Some (vlen index content given.width given.location) else None) (allowed_chain reads given.content)) (allowed_chain reads given.index)

-- `optional` as a configuration gives it: its chains are allowed, and that of the elements has no array to array codec, nor has a chain inside of it
abbrev pub configured_optional : ReadsCodecs → OptionalPoints → Option Chain
configured_optional reads given =
    option_and_then (λ mask. option_and_then (λ content. if takes_each_shape content then Some (optional mask content) else None) (allowed_chain reads given.content)) (allowed_chain reads given.mask)

-- whether a codec that `vlen` is configured by, for its index or its data, nests deeper than is read
abbrev pub vlen_too_deep : VlenPoints → Bool
vlen_too_deep given = any_too_deep given.index || any_too_deep given.content

-- whether a codec that `optional` is configured by, for its mask or its elements, nests deeper than is read
abbrev pub optional_too_deep : OptionalPoints → Bool
optional_too_deep given = any_too_deep given.mask || any_too_deep given.content
