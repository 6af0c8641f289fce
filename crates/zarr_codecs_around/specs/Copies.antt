-- What a copy keeps of what stands around a codec.
use Rattle.std.specs.Prelude.{◌≡◌, List, map}
use Rattle.zarr_grids_metadata.specs.ExtensionPoints.{ExtensionPoint}
use Rattle.zarr_codecs_meaning.specs.Chains.{ByteCodec}
use Rattle.zarr_codecs_around.specs.ThenBytes.{bytes_of, codec_of}
use Rattle.zarr_codecs_around.specs.declared.then_bytes.ThenBytes.{ThenBytes}

-- the caller's codecs that do the same are written as the same extension point
abbrev pub WritesAlike : {B : Type 0} → (B → ByteCodec) → (B → ExtensionPoint) → Type 0
WritesAlike {B} meaning described = (a b : B) → meaning a ≡ meaning b → described a ≡ described b

-- the caller's codecs of one list are written as those of another
abbrev pub AreWrittenAlike : {B : Type 0} → (B → ByteCodec) → List B → List B → Type 0
AreWrittenAlike {B} meaning codecs copies = (described : B → ExtensionPoint) → WritesAlike meaning described → map described copies ≡ map described codecs

-- a codec with bytes codecs after it is a copy: its codec is, and its bytes codecs are written alike
abbrev pub then_copied : {A B : Type 0} → (A → A → Type 0) → (B → ByteCodec) → ThenBytes A B → ThenBytes A B → Type 0
then_copied copied bytes codec copy = copied (codec_of codec) (codec_of copy) × AreWrittenAlike bytes (bytes_of codec) (bytes_of copy)
