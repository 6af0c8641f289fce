-- What an encoder of parts stands for.
use base.Fml.{GName}
use Rattle.std.specs.Prelude.{◌≡◌, ℕ, List, Option}
use Rattle.zarr_codecs_meaning.specs.Chains.{Chain}
use Rattle.zarr_codecs_traits.specs.Arrays.{Coded, coded_array, Update, update_of}
use Rattle.zarr_codecs_arrays.specs.Views.{payload_of}
use Rattle.zarr_codecs_arrays.specs.declared.array_bytes.ArrayBytes.{ArrayBytes}
use Rattle.zarr_codecs_traits.specs.Indexers.{asked_of}
use Rattle.zarr_codecs_traits.specs.declared.indexer.Indexer.{Indexer}
use Rattle.zarr_codecs_traits.specs.declared.array_part.WholeArray.{WholeArray}
use Rattle.zarr_codecs_coders.specs.declared.encoder.CodecPartialEncoder.{CodecPartialEncoder}

-- the codec by which parts are encoded
abbrev pub codec_of : {C E : Type 0} → CodecPartialEncoder C E → C
codec_of encoder = encoder.codec.now

-- the source that holds the value of the array, as it is now
abbrev pub source_of : {C E : Type 0} → CodecPartialEncoder C E → E
source_of encoder = encoder.source.now

-- the reference to that source that was lent
abbrev pub reference_of : {C E : Type 0} → CodecPartialEncoder C E → GName
reference_of encoder = encoder.source.ghost_name

-- the array of which parts are encoded
abbrev pub array_of : {C E : Type 0} → CodecPartialEncoder C E → WholeArray
array_of encoder = encoder.array

-- that array, by the chain that the codec does
abbrev pub coded_in : {C E : Type 0} → (C → Chain) → CodecPartialEncoder C E → Coded
coded_in meaning encoder = coded_array (meaning (codec_of encoder)) (array_of encoder)

-- the second is the first after a call, but for what the source holds: the codec, the array and the lent reference stay
pub record IsEncoder {C E : Type 0} (old new : CodecPartialEncoder C E) : Type 0 where
  pub same_reference : reference_of new ≡ reference_of old
  pub codec : codec_of new ≡ codec_of old
  pub elements : (array_of new).elements.now ≡ (array_of old).elements.now
  pub shape : (array_of new).shape.now ≡ (array_of old).shape.now

-- elements that are given for places of the array, before they are put into what the source holds
abbrev pub update_in : {C E : Type 0} → (E → Option (List ℕ)) → CodecPartialEncoder C E → Indexer → ArrayBytes → Update
update_in contents encoder indexer bytes = update_of (asked_of indexer) (payload_of bytes) (contents (source_of encoder))
