-- Elements as bytes, packed and unpacked.
use Rattle.std.specs.Prelude.{◌≡◌, ℕ, zero, suc, ◌+◌, ◌*◌, ◌/◌, ◌%◌, ◌^◌, ◌<◌, List, [], ◌∷◌, length, take, drop, Option, unwrap_or, true}
use Rattle.std.specs.List.{flat_map, list_all, range_with_len}
use Rattle.zarr_codecs_arrays.specs.declared.error.CodecError.{CodecError}
use Rattle.zarr_codecs_arrays.specs.declared.error.CodecError.TheVariants as error
use Rattle.zarr_codecs_types.specs.Views.{components_of, sign_of}
use Rattle.zarr_codecs_types.specs.declared.data_type.Component as declared
use Rattle.zarr_codecs_packbits.specs.Views.{packbits_chain}
use Rattle.zarr_codecs_packbits.specs.declared.codec.PackBitsCodec.{PackBitsCodec}
use Rattle.zarr_codecs_packbits.specs.declared.kept.KeptBits.{KeptBits}
use Rattle.zarr_codecs_meaning.specs.Numbers.{digits, number}
use Rattle.zarr_codecs_meaning.specs.Types.{DataType, Component, components, bytes_in, cell_bytes, extended, unsigned}
use Rattle.zarr_codecs_meaning.specs.Encoding.{element_bits, element_of_bits}
use Rattle.zarr_codecs_meaning.specs.Fits.{bits_fit, bits_in, fits, kept_bits, last_kept}
use Rattle.zarr_codecs_meaning.specs.Payloads.{fixed_cells}

-- the kept bits of the elements that bytes are
abbrev pub kept_of : ℕ → Option ℕ → List Component → List ℕ → List ℕ
kept_of first last parts bytes = flat_map (λ cell. element_bits first last parts (cell_bytes cell)) (fixed_cells (bytes_in parts) bytes)

-- the bytes of the element at a place of a list of kept bits
abbrev pub element_in : ℕ → Option ℕ → List Component → List ℕ → ℕ → List ℕ
element_in first last parts bits place = element_of_bits first last parts (take (bits_in first last parts) (drop (place * bits_in first last parts) bits))

-- the bytes of so many elements of a list of kept bits
abbrev pub bytes_of : ℕ → Option ℕ → List Component → ℕ → List ℕ → List ℕ
bytes_of first last parts count bits = flat_map (element_in first last parts bits) (range_with_len 0 count)

-- the codec suits arrays of a type of these components
pub record Suits (codec : PackBitsCodec) (type : DataType) (parts : List declared.Component) : Type 0 where
  pub are : components_of parts ≡ components type
  pub fit : fits (packbits_chain codec) type [] ≡ true
  pub keeps : list_all (bits_fit (unwrap_or codec.first_bit 0) codec.last_bit) (components_of parts) ≡ true

-- why a value is not decoded to 2^63 elements or more: it is shorter than what so many are packed to, or they are too many
abbrev pub IsUncounted : List ℕ → CodecError → Type 0
IsUncounted value error.Damage = length value < 2 ^ 60
IsUncounted value error.Size = Unit {0}
IsUncounted value e = ⊥

-- so many bits of each of some bytes, from the first one that is kept on
abbrev pub bits_from : ℕ → ℕ → List ℕ → List ℕ
bits_from first count bytes = flat_map (λ b. digits 2 count (b / 2 ^ first)) bytes

-- an element is one component of one byte, of which these bits are kept
pub record AreSingle (first : ℕ) (last : Option ℕ) (parts : List Component) (kept : KeptBits) : Type 0 where
  pub part : Component
  pub one : parts ≡ part ∷ []
  pub byte : part.byte_count ≡ 1
  pub from : kept.first ≡ first
  pub many : kept.count ≡ kept_bits first last part
  pub ends : last_kept last part + 1 ≡ kept.first + kept.count
  pub sign : part.sign ≡ sign_of kept.sign

-- the lowest bit alone is kept, of elements without a sign
pub record IsLowestBit (kept : KeptBits) : Type 0 where
  pub lowest : kept.first ≡ 0
  pub single : kept.count ≡ 1
  pub plain : sign_of kept.sign ≡ unsigned

-- the byte of an element of one byte whose kept bits write a number
abbrev pub byte_restored : KeptBits → ℕ → ℕ
byte_restored kept n = extended (sign_of kept.sign) (kept.first + kept.count) 1 (n * 2 ^ kept.first) % 256

-- so many elements of one byte, of their kept bits one after another
abbrev pub bytes_restored : KeptBits → ℕ → List ℕ → List ℕ
bytes_restored kept zero bits = []
bytes_restored kept (suc n) bits = byte_restored kept (number 2 (take kept.count bits)) ∷ bytes_restored kept n (drop kept.count bits)
