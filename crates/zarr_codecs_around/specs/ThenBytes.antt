-- A codec between arrays and bytes, and bytes codecs after it.
use Rattle.std.specs.Prelude.{◌≡◌, List, Bool, IsTrue, map, true}
use Rattle.std.proofs.Common.{◌∙◌, sym}
use Rattle.zarr_codecs_meaning.specs.Chains.{ByteCodec, Chain}
use Rattle.zarr_codecs_meaning.specs.Fits.{is_plain}
use Rattle.zarr_codecs_meaning.specs.Laws.{IsLawful, IsLawfulChain}
use Rattle.zarr_codecs_around.specs.Views.{lawful_with, plain_with, with_codecs}
use Rattle.zarr_codecs_around.specs.declared.then_bytes.ThenBytes.{ThenBytes}

-- the codec between arrays and bytes
abbrev pub codec_of : {A B : Type 0} → ThenBytes A B → A
codec_of codec = codec.codec

-- the bytes codecs after it
abbrev pub bytes_of : {A B : Type 0} → ThenBytes A B → List B
bytes_of codec = codec.bytes_to_bytes.items

-- the chain of both
abbrev pub then_meaning : {A B : Type 0} → (A → Chain) → (B → ByteCodec) → ThenBytes A B → Chain
then_meaning meaning bytes codec = with_codecs (meaning (codec_of codec)) (map bytes (bytes_of codec))

-- whether what is made of elements depends on these alone: what the codec before the bytes codecs makes does
abbrev pub then_function : {A B : Type 0} → (A → Bool) → ThenBytes A B → Bool
then_function is_function codec = is_function (codec_of codec)

-- the chain of both is lawful, where all of them are
pub then_lawful : {A B : Type 0} (meaning : A → Chain) → ((codec : A) → IsLawfulChain (meaning codec)) → (bytes : B → ByteCodec) → ((codec : B) → IsLawful (bytes codec)) → (codec : ThenBytes A B) → IsLawfulChain (then_meaning meaning bytes codec)
then_lawful meaning first bytes each codec = lawful_with bytes each (meaning (codec_of codec)) (bytes_of codec) (first (codec_of codec))

-- where both make no shard, what is made of elements depends on these alone
pub then_plain : {A B : Type 0} (meaning : A → Chain) (is_function : A → Bool) → ((codec : A) → is_plain (meaning codec) ≡ true → IsTrue (is_function codec)) → (bytes : B → ByteCodec) → (codec : ThenBytes A B)
    → is_plain (then_meaning meaning bytes codec) ≡ true → IsTrue (then_function is_function codec)
then_plain meaning is_function first bytes codec is = first (codec_of codec) (sym (plain_with (meaning (codec_of codec)) (map bytes (bytes_of codec))) ∙ is)
