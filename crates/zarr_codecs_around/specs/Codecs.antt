-- Bytes codecs one after another.
use Rattle.std.specs.Prelude.{◌≡◌, ℕ, List, [], ◌∷◌, Option, Some, option_map, option_and_then, Bool, false, ◌||◌, IsTrue, Result, Ok, Err}
use Rattle.zarr_grids_metadata.specs.ExtensionPoints.{ExtensionPoint}
use Rattle.zarr_codecs_meaning.specs.Chains as chains
use Rattle.zarr_codecs_meaning.specs.Chains.{ByteCodec}
use Rattle.zarr_codecs_arrays.specs.declared.error.CodecError.{CodecError}
use Rattle.zarr_codecs_arrays.specs.declared.error.CodecError.TheVariants as error
use Rattle.zarr_codecs_traits.specs.Representations.{known_size}
use Rattle.zarr_codecs_meaning.specs.Fits.{is_too_long}
use Rattle.zarr_codecs_traits.specs.declared.bytes_representation.BytesRepresentation.{BytesRepresentation}

-- what codecs make of bytes, each of what the one before it made; None where one of them refuses
abbrev pub all_encoded : List ByteCodec → List ℕ → Option (List ℕ)
all_encoded [] bytes = Some bytes
all_encoded (codec ∷ codecs) bytes = option_and_then (all_encoded codecs) (codec.encode bytes)

-- what codecs undo bytes to, the last codec first; None where one of them finds damage
abbrev pub all_decoded : List ByteCodec → List ℕ → Option (List ℕ)
all_decoded [] bytes = Some bytes
all_decoded (codec ∷ codecs) bytes = option_and_then codec.decode (all_decoded codecs bytes)

-- what is known of the size of what codecs make, by what is known of the size of what the first is given
abbrev pub all_represented : List ByteCodec → chains.BytesRepresentation → chains.BytesRepresentation
all_represented [] known = known
all_represented (codec ∷ codecs) known = all_represented codecs (codec.representation known)

-- whether one of these sizes is told to be 2^63 or more
abbrev pub any_too_long : List ByteCodec → chains.BytesRepresentation → Bool
any_too_long [] known = false
any_too_long (codec ∷ codecs) known = is_too_long (codec.representation known) || any_too_long codecs (codec.representation known)

-- what codecs tell of the size of what they make, where none tells too long a size, or that one does
abbrev pub RepresentsAll : List ByteCodec → chains.BytesRepresentation → Result BytesRepresentation CodecError → Type 0
RepresentsAll codecs known (Ok told) = (known_size told ≡ all_represented codecs known) × (any_too_long codecs known ≡ false)
RepresentsAll codecs known (Err error.Size) = IsTrue (any_too_long codecs known)
RepresentsAll codecs known (Err e) = ⊥

-- the codecs that extension points say, in their order; None where one of them says none
abbrev pub codecs_in : (ExtensionPoint → Option ByteCodec) → List ExtensionPoint → Option (List ByteCodec)
codecs_in reads [] = Some []
codecs_in reads (point ∷ points) = option_and_then (λ codec. option_map (λ codecs. codec ∷ codecs) (codecs_in reads points)) (reads point)
