-- What the metadata of codecs says (Zarr core specification, "Codecs"; the names of codecs are this project's profile).
use Rattle.std.specs.Prelude.{ℕ, zero, suc, ◌+◌, List, [], ◌∷◌, codes, bytes_eq, nat_lt, Bool, if◌then◌else◌, Option, Some, None, option_map, option_and_then}
use Rattle.std.specs.List.{list_any}
use Rattle.serde_json.specs.Data.{Data, Items, no_items, item, Members, members_depth}
use Rattle.serde_json.specs.Find.{get_member, as_str, as_array}
use Rattle.zarr_grids_metadata.specs.ExtensionPoints.{ExtensionPoint, extension_point, configuration_members}
use Rattle.zarr_grids_metadata.specs.Members.{has_only}
use Rattle.zarr_codecs_meaning.specs.Chains.{ByteCodec, Endianness, Chain}
use Rattle.zarr_codecs_meaning.specs.Chains.Endianness.{little, big}
use Rattle.zarr_codecs_meaning.specs.Chains.Chain.{bytes, after_array_codec, then_bytes}
use Rattle.zarr_codecs_metadata.specs.ArrayCodecs.{array_codec_in}
use Rattle.zarr_codecs_metadata.specs.Allowed.{allowed}
use Rattle.zarr_codecs_metadata.specs.PackBits.{packbits_of}
use Rattle.zarr_codecs_metadata.specs.Sections.{names_vlen, names_optional, vlen_of, optional_of}

-- what a caller's bytes codecs are, by their metadata: none where no codec has it
abbrev pub ReadsCodecs : Type 0
ReadsCodecs = ExtensionPoint → Option ByteCodec

-- the byte order that a text names
abbrev pub endianness_named : List ℕ → Option Endianness
endianness_named name = if bytes_eq name (codes "little") then Some little else (if bytes_eq name (codes "big") then Some big else None)

-- the byte order that a member gives, where it is there
abbrev pub endian_in : Option Data → Option (Option Endianness)
endian_in None = Some None
endian_in (Some d) = option_map Some (option_and_then endianness_named (as_str d))

-- `bytes` with the byte order that its configuration gives
abbrev pub bytes_of : Members → Option Chain
bytes_of ms = if has_only (codes "endian" ∷ []) ms then option_map bytes (endian_in (get_member (codes "endian") ms)) else None

-- `bytes`, where an extension point names it
abbrev pub bytes_in : ExtensionPoint → Option Chain
bytes_in point = if bytes_eq point.name (codes "bytes") then bytes_of (configuration_members point.configuration) else None

-- ---- chains, by their array to bytes codec

-- a chain, and after it the caller's codecs that extension points say
abbrev pub with_byte_codecs : ReadsCodecs → Chain → List ExtensionPoint → Option Chain
with_byte_codecs reads chain [] = Some chain
with_byte_codecs reads chain (point ∷ points) = option_and_then (λ codec. with_byte_codecs reads (then_bytes chain codec) points) (reads point)

-- what an extension point says as an array to bytes codec
abbrev pub ReadsCodec : Type 0
ReadsCodec = ExtensionPoint → Option Chain

-- the chain that extension points say: an array to bytes codec, and then bytes to bytes codecs
abbrev pub bytes_chain_by : ReadsCodecs → ReadsCodec → List ExtensionPoint → Option Chain
bytes_chain_by reads codec [] = None
bytes_chain_by reads codec (point ∷ points) = option_and_then (λ chain. with_byte_codecs reads chain points) (codec point)

-- the chain that extension points say: array to array codecs, an array to bytes codec, and then bytes to bytes codecs
abbrev pub chain_by : ReadsCodecs → ReadsCodec → List ExtensionPoint → Option Chain
chain_by reads codec [] = None
chain_by reads codec (point ∷ points) =
    elim (array_codec_in point) [ Some first ↦ option_map (after_array_codec first) (chain_by reads codec points) | None ↦ bytes_chain_by reads codec (point ∷ points) ]

-- the extension points that a list says, where each of its values says one
abbrev pub points_in : Items → Option (List ExtensionPoint)
points_in no_items = Some []
points_in (item d ds) = option_and_then (λ point. option_map (λ points. point ∷ points) (points_in ds)) (extension_point d)

-- the chain that a list of extension points says
abbrev pub listed_chain_by : ReadsCodecs → ReadsCodec → Data → Option Chain
listed_chain_by reads codec d = option_and_then (chain_by reads codec) (option_and_then points_in (as_array d))

-- ---- chains inside of chains

-- the array to bytes codec that an extension point is, by the chain that each list of codecs in its configuration says
abbrev pub array_to_bytes_by : (Data → Option Chain) → ReadsCodec
array_to_bytes_by chain point =
    let ms = configuration_members point.configuration in
    if bytes_eq point.name (codes "bytes") then bytes_of ms
    else (if bytes_eq point.name (codes "packbits") then packbits_of ms
    else (if names_vlen point.name then vlen_of chain ms
    else (if names_optional point.name then optional_of chain ms else None)))

-- the array to bytes codec that an extension point is, where chains nest fewer than so many levels deep in it
abbrev pub array_to_bytes_within : ReadsCodecs → ℕ → ReadsCodec
array_to_bytes_within reads zero point = None
array_to_bytes_within reads (suc levels) point = array_to_bytes_by (listed_chain_by reads (array_to_bytes_within reads levels)) point

-- how deep the members of an extension point's configuration nest
abbrev pub point_depth : ExtensionPoint → ℕ
point_depth point = members_depth (configuration_members point.configuration)

-- how deep arrays and objects may nest in metadata, as in a document (this project's profile)
abbrev pub depth_limit : ℕ
depth_limit = 127

-- whether an extension point nests deeper than is read: the object that it is counts as one level, and its configuration as one
abbrev pub is_too_deep : ExtensionPoint → Bool
is_too_deep point = nat_lt depth_limit (2 + point_depth point)

-- whether one of several extension points nests deeper than is read
abbrev pub any_too_deep : List ExtensionPoint → Bool
any_too_deep points = list_any is_too_deep points

-- the array to bytes codec that an extension point is, however deep chains nest in it
abbrev pub array_to_bytes_in : ReadsCodecs → ReadsCodec
array_to_bytes_in reads point = array_to_bytes_within reads (suc (point_depth point)) point

-- ---- the chain of a document

-- the chain that extension points say, without array to array codecs
abbrev pub bytes_chain_of : ReadsCodecs → List ExtensionPoint → Option Chain
bytes_chain_of reads points = bytes_chain_by reads (array_to_bytes_in reads) points

-- the chain that extension points say
abbrev pub chain_of : ReadsCodecs → List ExtensionPoint → Option Chain
chain_of reads points = chain_by reads (array_to_bytes_in reads) points

-- the chain that a list of extension points says, as in the configuration of `vlen`
abbrev pub listed_chain : ReadsCodecs → Data → Option Chain
listed_chain reads d = listed_chain_by reads (array_to_bytes_in reads) d

-- the chain that extension points say, where its array to array codecs stand only where they may
abbrev pub allowed_chain : ReadsCodecs → List ExtensionPoint → Option Chain
allowed_chain reads points = option_and_then allowed (chain_of reads points)

-- the chain that the member `codecs` says
abbrev pub chain_in : ReadsCodecs → Data → Option Chain
chain_in reads d = option_and_then (allowed_chain reads) (option_and_then points_in (as_array d))
