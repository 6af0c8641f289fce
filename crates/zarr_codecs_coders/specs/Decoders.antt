-- What a decoder of parts stands for.
use base.Fml.{GName}
use Rattle.std.specs.Prelude.{◌≡◌}
use Rattle.zarr_codecs_meaning.specs.Chains.{Chain}
use Rattle.zarr_codecs_traits.specs.Arrays.{Coded, coded_array}
use Rattle.zarr_codecs_traits.specs.declared.array_part.WholeArray.{WholeArray}
use Rattle.zarr_codecs_coders.specs.declared.decoder.CodecPartialDecoder.{CodecPartialDecoder}

-- the codec by which parts are decoded
abbrev pub codec_of : {C D : Type 0} → CodecPartialDecoder C D → C
codec_of decoder = decoder.codec.now

-- the source that holds the value of the array, as it is now
abbrev pub source_of : {C D : Type 0} → CodecPartialDecoder C D → D
source_of decoder = decoder.source.now

-- the reference to that source that was lent
abbrev pub reference_of : {C D : Type 0} → CodecPartialDecoder C D → GName
reference_of decoder = decoder.source.ghost_name

-- the array of which parts are decoded
abbrev pub array_of : {C D : Type 0} → CodecPartialDecoder C D → WholeArray
array_of decoder = decoder.array

-- that array, by the chain that the codec does
abbrev pub coded_in : {C D : Type 0} → (C → Chain) → CodecPartialDecoder C D → Coded
coded_in meaning decoder = coded_array (meaning (codec_of decoder)) (array_of decoder)

-- the second is the first after a call, but for what the source holds: the codec, the array and the lent reference stay
pub record IsDecoder {C D : Type 0} (old new : CodecPartialDecoder C D) : Type 0 where
  pub same_reference : reference_of new ≡ reference_of old
  pub codec : codec_of new ≡ codec_of old
  pub elements : (array_of new).elements.now ≡ (array_of old).elements.now
  pub shape : (array_of new).shape.now ≡ (array_of old).shape.now
