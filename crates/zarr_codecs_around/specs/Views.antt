-- What stands around a codec between arrays and bytes: array codecs before it, and bytes codecs after it.
use Rattle.std.specs.Prelude.{◌≡◌, List, [], ◌∷◌, ◌++◌, map, refl}
use Rattle.zarr_grids_metadata.specs.ExtensionPoints.{ExtensionPoint}
use Rattle.zarr_codecs_meaning.specs.Chains as chains
use Rattle.zarr_codecs_meaning.specs.Chains.{ArrayCodec, ByteCodec, Chain}
use Rattle.zarr_codecs_meaning.specs.Fits.{is_plain}
use Rattle.zarr_codecs_meaning.specs.Laws.{IsLawful, IsLawfulChain}
use Rattle.zarr_codecs_array_to_array.specs.Names.{written_codec}
use Rattle.zarr_codecs_array_to_array.specs.Views.{codec_of}
use Rattle.zarr_codecs_array_to_array.specs.declared.codec.ArrayToArrayCodec.{ArrayToArrayCodec}
use Rattle.zarr_codecs_around.specs.declared.array_codecs.AfterArrayCodecs.{AfterArrayCodecs}

-- a chain, and after it bytes codecs in their order
abbrev pub with_codecs : Chain → List ByteCodec → Chain
with_codecs chain [] = chain
with_codecs chain (codec ∷ codecs) = with_codecs (chains.Chain.then_bytes chain codec) codecs

-- array codecs in their order, and after them a chain
abbrev pub with_array_codecs : List ArrayCodec → Chain → Chain
with_array_codecs [] chain = chain
with_array_codecs (codec ∷ codecs) chain = chains.Chain.after_array_codec codec (with_array_codecs codecs chain)

-- what array codecs do
abbrev pub codecs_of : List ArrayToArrayCodec → List ArrayCodec
codecs_of codecs = map codec_of codecs

-- a codec after the array codecs that come before it
abbrev pub chain_after : {A : Type 0} → (A → Chain) → AfterArrayCodecs A → Chain
chain_after meaning codecs = with_array_codecs (codecs_of codecs.array_to_array.now) (meaning codecs.rest.now)

-- array codecs in their order, a chain, and bytes codecs in their order
abbrev pub chain_between : {B : Type 0} → (B → ByteCodec) → List ArrayToArrayCodec → Chain → List B → Chain
chain_between meaning before chain after = with_array_codecs (codecs_of before) (with_codecs chain (map meaning after))

-- a chain stays lawful with lawful codecs after it
pub lawful_with : {B : Type 0} (meaning : B → ByteCodec) → ((codec : B) → IsLawful (meaning codec)) → (chain : Chain) (codecs : List B) → IsLawfulChain chain → IsLawfulChain (with_codecs chain (map meaning codecs))
lawful_with meaning each chain [] lawful = lawful
lawful_with meaning each chain (codec ∷ codecs) lawful = lawful_with meaning each (chains.Chain.then_bytes chain (meaning codec)) codecs (lawful, each codec)

-- a chain stays lawful with array codecs before it
pub lawful_after : (codecs : List ArrayCodec) (chain : Chain) → IsLawfulChain chain → IsLawfulChain (with_array_codecs codecs chain)
lawful_after [] chain lawful = lawful
lawful_after (codec ∷ codecs) chain lawful = lawful_after codecs chain lawful

-- and with both
pub lawful_between : {B : Type 0} (meaning : B → ByteCodec) → ((codec : B) → IsLawful (meaning codec)) → (before : List ArrayToArrayCodec) (chain : Chain) (after : List B) → IsLawfulChain chain → IsLawfulChain (chain_between meaning before chain after)
lawful_between meaning each before chain after lawful = lawful_after (codecs_of before) (with_codecs chain (map meaning after)) (lawful_with meaning each chain after lawful)

-- bytes codecs after a chain add no shard to it
pub plain_with : (chain : Chain) (codecs : List ByteCodec) → is_plain (with_codecs chain codecs) ≡ is_plain chain
plain_with chain [] = refl
plain_with chain (codec ∷ codecs) = plain_with (chains.Chain.then_bytes chain codec) codecs

-- nor do array codecs before it
pub plain_before : (codecs : List ArrayCodec) (chain : Chain) → is_plain (with_array_codecs codecs chain) ≡ is_plain chain
plain_before [] chain = refl
plain_before (codec ∷ codecs) chain = plain_before codecs chain

-- the metadata of array codecs, in their order
abbrev pub array_points : List ArrayToArrayCodec → List ExtensionPoint
array_points codecs = map written_codec codecs

-- the metadata of array codecs, of an array to bytes codec, and of bytes codecs, in their order
abbrev pub points_between : {B : Type 0} → (B → ExtensionPoint) → List ArrayToArrayCodec → ExtensionPoint → List B → List ExtensionPoint
points_between described before point after = array_points before ++ (point ∷ map described after)
