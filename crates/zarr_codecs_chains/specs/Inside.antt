-- What the chains inside of a codec answer.
use Rattle.std.specs.Prelude.{◌≡◌, ◌<◌, ℕ, List, [], ◌∷◌, length, Option, Some, None, Result, Ok, Err, Vec}
use Rattle.std.specs.declared.alloc.Global.{Global}
use Rattle.zarr_codecs_meaning.specs.Chains.{Chain}
use Rattle.zarr_codecs_meaning.specs.Encoding.{encoded, unless_none}
use Rattle.zarr_codecs_meaning.specs.Payloads.{cells_in}
use Rattle.zarr_codecs_meaning.specs.Refusals.{CodecRefuses, PassesIndex}
use Rattle.zarr_codecs_meaning.specs.Types.{DataType, uint8, Cell, Elements, zero_filled}
use Rattle.zarr_codecs_arrays.specs.Views.{payload_of}
use Rattle.zarr_codecs_arrays.specs.declared.array_bytes.ArrayBytes.{ArrayBytes}
use Rattle.zarr_codecs_arrays.specs.declared.error.CodecError.{CodecError}
use Rattle.zarr_codecs_arrays.specs.declared.error.CodecError.TheVariants as error
use Rattle.zarr_codecs_sections.specs.Laws.{content_of}
use Rattle.zarr_codecs_sections.specs.Marks.{AreMarked}
use Rattle.zarr_codecs_sections.specs.Outcomes.{offsets_read}

-- the elements that a section is decoded to, or that it is decoded to none
abbrev pub FindsInner : Option (List Cell) → DataType → Result ArrayBytes CodecError → Type 0
FindsInner found type (Ok bytes) = (cells : List Cell) × (found ≡ Some cells) × (cells_in type (payload_of bytes) ≡ Some cells)
FindsInner found type (Err error.Damage) = found ≡ None
FindsInner found type (Err error.Memory) = Unit {0}
FindsInner found type (Err e) = ⊥

-- the offsets that an index is decoded to, or that it is decoded to none
abbrev pub FindsOffsets : Option (List Cell) → Result (Vec ℕ Global) CodecError → Type 0
FindsOffsets found (Ok offsets) = (cells : List Cell) × (found ≡ Some cells) × (offsets.items ≡ offsets_read cells)
FindsOffsets found (Err error.Damage) = found ≡ None
FindsOffsets found (Err error.Memory) = Unit {0}
FindsOffsets found (Err e) = ⊥

-- what a chain makes of the elements of a section, or why it makes nothing
abbrev pub MakesInner : Chain → Elements → List ℕ → List Cell → Result (Vec ℕ Global) CodecError → Type 0
MakesInner chain elements shape cells (Ok value) = encoded chain elements shape cells ≡ Some value.items
MakesInner chain elements shape cells (Err error.Codec) = CodecRefuses chain elements shape cells
MakesInner chain elements shape cells (Err error.Size) = PassesIndex chain elements shape cells
MakesInner chain elements shape cells (Err error.Memory) = Unit {0}
MakesInner chain elements shape cells (Err e) = ⊥

-- what a chain makes of the elements of a section, which is nothing where there are none, or why it makes nothing
abbrev pub MakesSome : Chain → DataType → List Cell → Result (Vec ℕ Global) CodecError → Type 0
MakesSome chain type cells (Ok value) = unless_none cells (encoded chain (zero_filled type) (length cells ∷ []) cells) ≡ Some value.items
MakesSome chain type cells (Err error.Codec) = (0 < length cells) × CodecRefuses chain (zero_filled type) (length cells ∷ []) cells
MakesSome chain type cells (Err error.Size) = (0 < length cells) × PassesIndex chain (zero_filled type) (length cells ∷ []) cells
MakesSome chain type cells (Err error.Memory) = Unit {0}
MakesSome chain type cells (Err e) = ⊥

-- what a chain makes of the joined bytes of elements of variable length, or why it makes nothing
abbrev pub MakesContent : Chain → List Cell → Result (Vec ℕ Global) CodecError → Type 0
MakesContent chain cells result = MakesSome chain uint8 (content_of cells) result

-- the elements that a section is decoded to, put to where marks are 1, or that it is decoded to none
abbrev pub FindsMarked : Option (List Cell) → DataType → List ℕ → Result ArrayBytes CodecError → Type 0
FindsMarked found type marks (Ok bytes) = (cells : List Cell) × (found ≡ Some cells) × AreMarked type marks cells (payload_of bytes)
FindsMarked found type marks (Err error.Damage) = found ≡ None
FindsMarked found type marks (Err error.Memory) = Unit {0}
FindsMarked found type marks (Err e) = ⊥
