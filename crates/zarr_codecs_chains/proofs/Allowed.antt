-- Where the array codecs of a chain stand, by its parts.
use Rattle.std.proofs.Common.{◌≡◌, ℕ, suc, arith, List, [], ◌∷◌, length, map, Bool, true, false, ◌==◌, refl, ◌∙◌, sym}
use Rattle.std.proofs.lemmas.Bool.Decides.{Decides-eqb}
use Rattle.zarr_codecs_meaning.specs.Chains.{ArrayCodec, ByteCodec, Chain}
use Rattle.zarr_codecs_meaning.specs.Chains.Chain.{then_bytes}
use Rattle.zarr_codecs_array_to_array.specs.declared.codec.ArrayToArrayCodec.{ArrayToArrayCodec}
use Rattle.zarr_codecs_metadata.specs.Allowed.{has_no_array_codec, is_allowed}
use Rattle.zarr_codecs_around.specs.Views.{chain_between, codecs_of, with_array_codecs, with_codecs}
use Rattle.zarr_codecs_chains.specs.Views.{codec_chain}
use Rattle.zarr_codecs_chains.specs.declared.array_to_bytes.ArrayToBytesCodec.{ArrayToBytesCodec}
use Rattle.zarr_codecs_chains.specs.declared.array_to_bytes.ArrayToBytesCodec.TheVariants.{Bytes, PackBits, Vlen', Optional'}

allowed_with : (chain : Chain) (codecs : List ByteCodec) → is_allowed (with_codecs chain codecs) ≡ is_allowed chain
allowed_with chain [] = refl
allowed_with chain (codec ∷ codecs) = allowed_with (then_bytes chain codec) codecs

allowed_after : (codecs : List ArrayCodec) (chain : Chain) → is_allowed (with_array_codecs codecs chain) ≡ is_allowed chain
allowed_after [] chain = refl
allowed_after (codec ∷ codecs) chain = allowed_after codecs chain

-- codecs before and after an array to bytes codec change nothing
pub allowed_between : {B : Type 0} (meaning : B → ByteCodec) (before : List ArrayToArrayCodec) (chain : Chain) (after : List B) → is_allowed chain ≡ is_allowed (chain_between meaning before chain after)
allowed_between meaning before chain after = sym (allowed_after (codecs_of before) (with_codecs chain (map meaning after)) ∙ allowed_with chain (map meaning after))

has_none_with : (chain : Chain) (codecs : List ByteCodec) → has_no_array_codec (with_codecs chain codecs) ≡ has_no_array_codec chain
has_none_with chain [] = refl
has_none_with chain (codec ∷ codecs) = has_none_with (then_bytes chain codec) codecs

codec_has_none : {B : Type 0} (meaning : B → ByteCodec) (codec : ArrayToBytesCodec B) → has_no_array_codec (codec_chain meaning codec) ≡ true
codec_has_none meaning (Bytes codec) = refl
codec_has_none meaning (PackBits codec) = refl
codec_has_none meaning (Vlen' p before index after first content last width location name) = refl
codec_has_none meaning (Optional' p before mask after first content last name) = refl

not_empty : (n : ℕ) → (suc n == 0) ≡ false
not_empty n = at (suc n == 0) refl where
  at : (b : Bool) → (suc n == 0) ≡ b → (suc n == 0) ≡ false
  at true e = let h : suc n ≡ 0 = (Decides-eqb (suc n) 0).0 e in absurd (omega arith)
  at false e = e

-- a chain itself has no array codec where its list of them is empty
pub none_between : {B : Type 0} (meaning : B → ByteCodec) (before : List ArrayToArrayCodec) (codec : ArrayToBytesCodec B) (after : List B) → (length before == 0) ≡ has_no_array_codec (chain_between meaning before (codec_chain meaning codec) after)
none_between meaning [] codec after = sym (has_none_with (codec_chain meaning codec) (map meaning after) ∙ codec_has_none meaning codec)
none_between meaning (first ∷ before) codec after = not_empty (length before)
