-- The parts of chains, and of the codecs that hold chains.
use Rattle.std.specs.Prelude.{List}
use Rattle.zarr_codecs_array_to_array.specs.declared.codec.ArrayToArrayCodec.{ArrayToArrayCodec}
use Rattle.zarr_codecs_sections.specs.declared.index.VlenIndexDataType.{VlenIndexDataType}
use Rattle.zarr_codecs_sections.specs.declared.index.VlenIndexLocation.{VlenIndexLocation}
use Rattle.zarr_codecs_chains.specs.declared.array_to_bytes.ArrayToBytesCodec.{ArrayToBytesCodec}
use Rattle.zarr_codecs_chains.specs.declared.chain.CodecChain.{CodecChain}
use Rattle.zarr_codecs_chains.specs.declared.optional.OptionalCodec.{OptionalCodec}
use Rattle.zarr_codecs_chains.specs.declared.vlen.VlenCodec.{VlenCodec}

-- the array to array codecs of a chain
abbrev pub arrays_of : {B : Type 0} → CodecChain B → List ArrayToArrayCodec
arrays_of chain = chain.array_to_array.items

-- its array to bytes codec
abbrev pub codec_of : {B : Type 0} → CodecChain B → ArrayToBytesCodec B
codec_of chain = chain.others.array_to_bytes

-- its bytes to bytes codecs
abbrev pub bytes_of : {B : Type 0} → CodecChain B → List B
bytes_of chain = chain.others.bytes_to_bytes.items

-- the chain of the index of `vlen`
abbrev pub vlen_index : {B : Type 0} → VlenCodec B → CodecChain B
vlen_index codec = codec.index_codecs

-- the chain of its joined data
abbrev pub vlen_data : {B : Type 0} → VlenCodec B → CodecChain B
vlen_data codec = codec.data_codecs

-- the type of its index's numbers
abbrev pub vlen_data_type : {B : Type 0} → VlenCodec B → VlenIndexDataType
vlen_data_type codec = codec.index_data_type

-- where its index stands
abbrev pub vlen_location : {B : Type 0} → VlenCodec B → VlenIndexLocation
vlen_location codec = codec.index_location

-- the chain of the mask of `optional`
abbrev pub optional_mask : {B : Type 0} → OptionalCodec B → CodecChain B
optional_mask codec = codec.mask_codecs

-- the chain of its elements that are present
abbrev pub optional_data : {B : Type 0} → OptionalCodec B → CodecChain B
optional_data codec = codec.data_codecs
