-- What codecs tell of the size of what they make.
use Rattle.std.specs.Prelude.{◌≡◌, ◌⊎◌, ℕ, List, true, false, IsTrue, Result, Ok, Err}
use Rattle.zarr_grids_boxes.specs.Boxes.{product}
use Rattle.zarr_codecs_meaning.specs.Chains as chains
use Rattle.zarr_codecs_meaning.specs.Chains.{Chain}
use Rattle.zarr_codecs_meaning.specs.Chains.BytesRepresentation.{fixed_size, bounded_size, unbounded_size}
use Rattle.zarr_codecs_meaning.specs.Fits.{fits, is_too_long, representation_of, tells_too_long}
use Rattle.zarr_codecs_meaning.specs.Types.{DataType, IsTooLarge}
use Rattle.zarr_codecs_arrays.specs.declared.error.CodecError.{CodecError}
use Rattle.zarr_codecs_arrays.specs.declared.error.CodecError.TheVariants as error
use Rattle.zarr_codecs_traits.specs.declared.bytes_representation.BytesRepresentation.{BytesRepresentation}
use Rattle.zarr_codecs_traits.specs.declared.bytes_representation.BytesRepresentation.TheVariants.{FixedSize, BoundedSize, UnboundedSize}

-- what is known of a size
abbrev pub known_size : BytesRepresentation → chains.BytesRepresentation
known_size (FixedSize size) = fixed_size size
known_size (BoundedSize size) = bounded_size size
known_size UnboundedSize = unbounded_size

-- what is told of a size, or that it is too long
abbrev pub Represents : chains.BytesRepresentation → Result BytesRepresentation CodecError → Type 0
Represents told (Ok known) = known_size known ≡ told
Represents told (Err error.Size) = IsTrue (is_too_long told)
Represents told (Err e) = ⊥

-- what is told of a size below 2^63, or that it is too long
abbrev pub RepresentsShort : chains.BytesRepresentation → Result BytesRepresentation CodecError → Type 0
RepresentsShort told (Ok known) = (known_size known ≡ told) × (is_too_long told ≡ false)
RepresentsShort told (Err e) = Represents told (Err e)

-- what the type and the shape of an array tell of the size of what it is encoded to, where no codec tells a size of 2^63 or more
pub record IsRepresented (chain : Chain) (type : DataType) (shape : List ℕ) (known : BytesRepresentation) : Type 0 where
  pub fit : fits chain type shape ≡ true
  pub is : known_size known ≡ representation_of chain type shape
  pub short : tells_too_long chain type shape ≡ false

-- what is told of the size of what an array is encoded to, or why nothing is
abbrev pub RepresentsArray : Chain → DataType → List ℕ → Result BytesRepresentation CodecError → Type 0
RepresentsArray chain type shape (Ok known) = IsRepresented chain type shape known
RepresentsArray chain type shape (Err error.Fit) = fits chain type shape ≡ false
RepresentsArray chain type shape (Err error.Size) = IsTooLarge type (product shape) ⊎ IsTrue (tells_too_long chain type shape)
RepresentsArray chain type shape (Err error.Memory) = Unit {0}
RepresentsArray chain type shape (Err e) = ⊥
