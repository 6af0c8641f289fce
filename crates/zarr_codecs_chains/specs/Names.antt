-- The names of codecs that hold chains, and the codecs that keep the names of metadata (this project's profile).
use Rattle.std.specs.Prelude.{◌≡◌, ℕ, List, [], ◌∷◌, codes, Option, Some, None}
use Rattle.zarr_grids_metadata.specs.ExtensionPoints.{ExtensionPoint, configuration_members}
use Rattle.zarr_codecs_array_to_array.specs.Names.{written_codec}
use Rattle.zarr_codecs_array_to_array.specs.declared.codec.ArrayToArrayCodec.{ArrayToArrayCodec}
use Rattle.zarr_codecs_array_to_array.specs.declared.name.CodecName.{CodecName}
use Rattle.zarr_codecs_array_to_array.specs.declared.name.CodecName.TheVariants as names
pub use Rattle.zarr_codecs_around.specs.Copies.{WritesAlike}
use Rattle.zarr_codecs_configurations.specs.Reading.{listed_points}
use Rattle.zarr_codecs_chains.specs.declared.array_to_bytes.ArrayToBytesCodec.{ArrayToBytesCodec}
use Rattle.zarr_codecs_chains.specs.declared.array_to_bytes.ArrayToBytesCodec.TheVariants.{Bytes, PackBits, Vlen', Optional'}
use Rattle.zarr_codecs_chains.specs.declared.chain.CodecChain.{CodecChain}
use Rattle.zarr_codecs_chains.specs.declared.optional.OptionalCodec.{OptionalCodec}
use Rattle.zarr_codecs_chains.specs.declared.vlen.VlenCodec.{VlenCodec}

-- the names of `vlen`
abbrev pub name_of_vlen : CodecName → List ℕ
name_of_vlen names.Default = codes "vlen"
name_of_vlen names.Alias = codes "zarrs.vlen"

-- the names of `optional`
abbrev pub name_of_optional : CodecName → List ℕ
name_of_optional names.Default = codes "optional"
name_of_optional names.Alias = codes "zarrs.optional"

-- the name that a codec `vlen` keeps
abbrev pub vlen_name : {B : Type 0} → VlenCodec B → List ℕ
vlen_name codec = name_of_vlen codec.name

-- the name that a codec `optional` keeps
abbrev pub optional_name : {B : Type 0} → OptionalCodec B → List ℕ
optional_name codec = name_of_optional codec.name

-- extension points begin with the names of array codecs, and the one after these names an array to bytes codec
abbrev pub NameAll : List ArrayToArrayCodec → (ExtensionPoint → Type 0) → List ExtensionPoint → Type 0
NameAll [] names_codec [] = ⊥
NameAll [] names_codec (point ∷ points) = names_codec point
NameAll (codec ∷ codecs) names_codec [] = ⊥
NameAll (codec ∷ codecs) names_codec (point ∷ points) = ((written_codec codec).name ≡ point.name) × NameAll codecs names_codec points

-- the same of a list in a configuration
abbrev pub ListNames : List ArrayToArrayCodec → (ExtensionPoint → Type 0) → Option (List ExtensionPoint) → Type 0
ListNames codecs names_codec None = ⊥
ListNames codecs names_codec (Some points) = NameAll codecs names_codec points

-- an extension point has the name that an array to bytes codec keeps, and the lists in its configuration have those of the chains inside of it
abbrev pub Names : {B : Type 0} → ArrayToBytesCodec B → ExtensionPoint → Type 0
Names (Bytes codec) point = Unit {0}
Names (PackBits codec) point = Unit {0}
Names (Vlen' p before index after first content last width location name) point =
    (name_of_vlen name ≡ point.name) × ListNames before.items (Names index) (listed_points (codes "index_codecs") (configuration_members point.configuration))
    × ListNames first.items (Names content) (listed_points (codes "data_codecs") (configuration_members point.configuration))
Names (Optional' p before mask after first content last name) point =
    (name_of_optional name ≡ point.name) × ListNames before.items (Names mask) (listed_points (codes "mask_codecs") (configuration_members point.configuration))
    × ListNames first.items (Names content) (listed_points (codes "data_codecs") (configuration_members point.configuration))

-- extension points have the names that the codecs of a chain keep
abbrev pub NamesChain : {B : Type 0} → CodecChain B → List ExtensionPoint → Type 0
NamesChain chain points = NameAll chain.array_to_array.items (Names chain.others.array_to_bytes) points

-- an extension point has the name that a codec `vlen` keeps, and its lists have those of its chains
abbrev pub NamesVlen : {B : Type 0} → VlenCodec B → ExtensionPoint → Type 0
NamesVlen codec point =
    (vlen_name codec ≡ point.name)
    × ListNames codec.index_codecs.array_to_array.items (Names codec.index_codecs.others.array_to_bytes) (listed_points (codes "index_codecs") (configuration_members point.configuration))
    × ListNames codec.data_codecs.array_to_array.items (Names codec.data_codecs.others.array_to_bytes) (listed_points (codes "data_codecs") (configuration_members point.configuration))

-- the same of a codec `optional`
abbrev pub NamesOptional : {B : Type 0} → OptionalCodec B → ExtensionPoint → Type 0
NamesOptional codec point =
    (optional_name codec ≡ point.name)
    × ListNames codec.mask_codecs.array_to_array.items (Names codec.mask_codecs.others.array_to_bytes) (listed_points (codes "mask_codecs") (configuration_members point.configuration))
    × ListNames codec.data_codecs.array_to_array.items (Names codec.data_codecs.others.array_to_bytes) (listed_points (codes "data_codecs") (configuration_members point.configuration))
