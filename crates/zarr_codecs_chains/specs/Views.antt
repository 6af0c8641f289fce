-- What the codecs and the chains of `src/` stand for.
use Rattle.std.specs.Prelude.{◌≡◌, List, ◌∷◌, ◌++◌, map, true, refl}
use Rattle.std.proofs.Common.{◌∙◌}
use Rattle.zarr_grids_metadata.specs.ExtensionPoints.{ExtensionPoint}
use Rattle.zarr_codecs_meaning.specs.Chains as chains
use Rattle.zarr_codecs_meaning.specs.Chains.{ByteCodec, Chain}
use Rattle.zarr_codecs_meaning.specs.Fits.{is_plain}
use Rattle.zarr_codecs_meaning.specs.Laws.{IsLawful, IsLawfulChain}
use Rattle.zarr_codecs_bytes.specs.Views.{bytes_chain, bytes_point}
use Rattle.zarr_codecs_around.specs.Views.{array_points, chain_between, codecs_of, lawful_after, lawful_between, lawful_with, plain_before, plain_with, points_between, with_array_codecs, with_codecs}
use Rattle.zarr_codecs_packbits.specs.Metadata.{packbits_point}
use Rattle.zarr_codecs_packbits.specs.Views.{packbits_chain}
use Rattle.zarr_codecs_chains.specs.Names.{name_of_vlen, name_of_optional}
use Rattle.zarr_codecs_chains.specs.declared.array_to_bytes.ArrayToBytesCodec.{ArrayToBytesCodec}
use Rattle.zarr_codecs_chains.specs.declared.array_to_bytes.ArrayToBytesCodec.TheVariants.{Bytes, PackBits, Vlen', Optional'}
use Rattle.zarr_codecs_sections.specs.Views.{width_of, location_of}
use Rattle.zarr_codecs_configurations.specs.Reading.{VlenPoints, OptionalPoints}
use Rattle.zarr_codecs_configurations.specs.Written.{vlen_point, optional_point}
use Rattle.zarr_codecs_chains.specs.declared.vlen.VlenCodec.{VlenCodec}
use Rattle.zarr_codecs_chains.specs.declared.optional.OptionalCodec.{OptionalCodec}
use Rattle.zarr_codecs_chains.specs.declared.bytes_chain.BytesChain.{BytesChain}
use Rattle.zarr_codecs_chains.specs.declared.chain.CodecChain.{CodecChain}

-- the chain of an array to bytes codec alone
abbrev pub codec_chain : {B : Type 0} → (B → ByteCodec) → ArrayToBytesCodec B → Chain
codec_chain meaning (Bytes codec) = bytes_chain codec
codec_chain meaning (PackBits codec) = packbits_chain codec
codec_chain meaning (Vlen' p before index after first content last width location name) =
    chains.Chain.vlen (chain_between meaning before.items (codec_chain meaning index) after.items) (chain_between meaning first.items (codec_chain meaning content) last.items) (width_of width) (location_of location)
codec_chain meaning (Optional' p before mask after first content last name) =
    chains.Chain.optional (chain_between meaning before.items (codec_chain meaning mask) after.items) (chain_between meaning first.items (codec_chain meaning content) last.items)

-- a chain without array codecs
abbrev pub bytes_meaning : {B : Type 0} → (B → ByteCodec) → BytesChain B → Chain
bytes_meaning meaning chain = with_codecs (codec_chain meaning chain.array_to_bytes) (map meaning chain.bytes_to_bytes.items)

-- the chain
abbrev pub meaning_of : {B : Type 0} → (B → ByteCodec) → CodecChain B → Chain
meaning_of meaning chain = with_array_codecs (codecs_of chain.array_to_array.items) (bytes_meaning meaning chain.others)

-- the chain of `vlen` alone
abbrev pub vlen_chain : {B : Type 0} → (B → ByteCodec) → VlenCodec B → Chain
vlen_chain meaning codec = chains.Chain.vlen (meaning_of meaning codec.index_codecs) (meaning_of meaning codec.data_codecs) (width_of codec.index_data_type) (location_of codec.index_location)

-- the chain of `optional` alone
abbrev pub optional_chain : {B : Type 0} → (B → ByteCodec) → OptionalCodec B → Chain
optional_chain meaning codec = chains.Chain.optional (meaning_of meaning codec.mask_codecs) (meaning_of meaning codec.data_codecs)

-- an array to bytes codec alone is lawful
pub codec_lawful : {B : Type 0} (meaning : B → ByteCodec) → ((codec : B) → IsLawful (meaning codec)) → (codec : ArrayToBytesCodec B) → IsLawfulChain (codec_chain meaning codec)
codec_lawful meaning each (Bytes codec) = tt
codec_lawful meaning each (PackBits codec) = tt
codec_lawful meaning each (Vlen' p before index after first content last width location name) =
    (lawful_between meaning each before.items (codec_chain meaning index) after.items (codec_lawful meaning each index), lawful_between meaning each first.items (codec_chain meaning content) last.items (codec_lawful meaning each content))
codec_lawful meaning each (Optional' p before mask after first content last name) =
    (lawful_between meaning each before.items (codec_chain meaning mask) after.items (codec_lawful meaning each mask), lawful_between meaning each first.items (codec_chain meaning content) last.items (codec_lawful meaning each content))

-- each chain without array codecs is lawful, where the caller's codecs are
pub bytes_lawful : {B : Type 0} (meaning : B → ByteCodec) → ((codec : B) → IsLawful (meaning codec)) → (chain : BytesChain B) → IsLawfulChain (bytes_meaning meaning chain)
bytes_lawful meaning each chain = lawful_with meaning each (codec_chain meaning chain.array_to_bytes) chain.bytes_to_bytes.items (codec_lawful meaning each chain.array_to_bytes)

-- each chain is lawful, where the caller's codecs are
pub lawful_of : {B : Type 0} (meaning : B → ByteCodec) → ((codec : B) → IsLawful (meaning codec)) → (chain : CodecChain B) → IsLawfulChain (meaning_of meaning chain)
lawful_of meaning each chain = lawful_after (codecs_of chain.array_to_array.items) (bytes_meaning meaning chain.others) (bytes_lawful meaning each chain.others)

-- an array to bytes codec makes no shard
pub codec_plain : {B : Type 0} (meaning : B → ByteCodec) (codec : ArrayToBytesCodec B) → is_plain (codec_chain meaning codec) ≡ true
codec_plain meaning (Bytes codec) = refl
codec_plain meaning (PackBits codec) = refl
codec_plain meaning (Vlen' p before index after first content last width location name) = refl
codec_plain meaning (Optional' p before mask after first content last name) = refl

-- so no chain does
pub bytes_plain : {B : Type 0} (meaning : B → ByteCodec) (chain : BytesChain B) → is_plain (bytes_meaning meaning chain) ≡ true
bytes_plain meaning chain = plain_with (codec_chain meaning chain.array_to_bytes) (map meaning chain.bytes_to_bytes.items) ∙ codec_plain meaning chain.array_to_bytes

-- also with array codecs
pub chain_plain : {B : Type 0} (meaning : B → ByteCodec) (chain : CodecChain B) → is_plain (meaning_of meaning chain) ≡ true
chain_plain meaning chain = plain_before (codecs_of chain.array_to_array.items) (bytes_meaning meaning chain.others) ∙ bytes_plain meaning chain.others

-- the metadata of an array to bytes codec
abbrev pub codec_point : {B : Type 0} → (B → ExtensionPoint) → ArrayToBytesCodec B → ExtensionPoint
codec_point described (Bytes codec) = bytes_point codec.endian
codec_point described (PackBits codec) = packbits_point codec
codec_point described (Vlen' p before index after first content last width location name) =
    vlen_point (name_of_vlen name)
    (record { index = points_between described before.items (codec_point described index) after.items; content = points_between described first.items (codec_point described content) last.items; width = width_of width; location = location_of location })
codec_point described (Optional' p before mask after first content last name) =
    optional_point (name_of_optional name)
    (record { mask = points_between described before.items (codec_point described mask) after.items; content = points_between described first.items (codec_point described content) last.items })

-- the metadata of the codecs of a chain without array codecs, in their order
abbrev pub bytes_points : {B : Type 0} → (B → ExtensionPoint) → BytesChain B → List ExtensionPoint
bytes_points described chain = codec_point described chain.array_to_bytes ∷ map described chain.bytes_to_bytes.items

-- the metadata of the codecs, in their order
abbrev pub points_of : {B : Type 0} → (B → ExtensionPoint) → CodecChain B → List ExtensionPoint
points_of described chain = array_points chain.array_to_array.items ++ bytes_points described chain.others

-- what `vlen` is configured by
abbrev pub given_to_vlen : {B : Type 0} → (B → ExtensionPoint) → VlenCodec B → VlenPoints
given_to_vlen described codec = record { index = points_of described codec.index_codecs; content = points_of described codec.data_codecs; width = width_of codec.index_data_type; location = location_of codec.index_location }

-- what `optional` is configured by
abbrev pub given_to_optional : {B : Type 0} → (B → ExtensionPoint) → OptionalCodec B → OptionalPoints
given_to_optional described codec = record { mask = points_of described codec.mask_codecs; content = points_of described codec.data_codecs }
