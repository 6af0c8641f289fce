-- What calls that take apart and put together elements answer.
use Rattle.std.specs.Prelude.{◌≡◌, ℕ, ◌+◌, ◌^◌, ◌≤◌, List, map, length, flat_map, Option, Some, None, Result, Ok, Err, true, nat_lt}
use Rattle.std.specs.List.{filter_map, list_all}
use Rattle.zarr_codecs_meaning.specs.Numbers.{number}
use Rattle.zarr_codecs_meaning.specs.Types.{DataType, bool, integer, unsigned, uint8, is_variable, is_value, Cell, of_bytes, cell_bytes}
use Rattle.zarr_codecs_meaning.specs.Payloads.{Payload, fixed, cells_in}
use Rattle.zarr_codecs_meaning.specs.Encoding.{last_number, number_cells, byte_cells, mask_cell, present_cell}
use Rattle.zarr_codecs_meaning.specs.Decoding.{elements_of}
use Rattle.zarr_codecs_meaning.specs.Refusals.{offsets_of}
use Rattle.zarr_codecs_arrays.specs.Outcomes.{IsValid}
use Rattle.zarr_codecs_arrays.specs.Views.{payload_of}
use Rattle.zarr_codecs_arrays.specs.declared.array_bytes.ArrayBytes.{ArrayBytes}
use Rattle.zarr_codecs_arrays.specs.declared.error.CodecError.{CodecError}
use Rattle.zarr_codecs_arrays.specs.declared.error.CodecError.TheVariants as error
use Rattle.zarr_codecs_sections.specs.Marks.{AreMarked}
use Rattle.zarr_codecs_sections.specs.declared.splitting.SplitOptions.{SplitOptions}

-- ---- `vlen`

-- elements of an index are the offsets of elements of variable length, and numbers of this width in bits can tell them
pub record IsIndexed (width : ℕ) (cells : List Cell) (payload : Payload) : Type 0 where
  pub near : nat_lt (last_number 0 (offsets_of cells)) (2 ^ width) ≡ true
  pub valid : IsValid (integer unsigned width) payload (length cells + 1) (number_cells width (offsets_of cells))

-- what the offsets of elements of variable length are as elements of an index, or that numbers of this width in bits cannot tell the last one
abbrev pub Indexes : ℕ → List Cell → Result ArrayBytes CodecError → Type 0
Indexes width cells (Ok made) = IsIndexed width cells (payload_of made)
Indexes width cells (Err error.Size) = 2 ^ width ≤ last_number 0 (offsets_of cells)
Indexes width cells (Err error.Memory) = Unit {0}
Indexes width cells (Err e) = ⊥

-- bytes are those of elements of variable length, one after another, and each is a value of `uint8`
pub record IsContent (cells : List Cell) (bytes : List ℕ) : Type 0 where
  pub is : bytes ≡ flat_map cell_bytes cells
  pub valid : IsValid uint8 (fixed bytes) (length bytes) (byte_cells bytes)

-- the numbers that elements of an index are
abbrev pub offsets_read : List Cell → List ℕ
offsets_read cells = map (λ offset. number 256 (cell_bytes offset)) cells

-- elements of variable length are those that offsets cut out of bytes
pub record IsCut (offsets content : List ℕ) (payload : Payload) : Type 0 where
  pub texts : List (List ℕ)
  pub are : elements_of (λ long. Some content) offsets ≡ Some texts
  pub lists : (type : DataType) → is_variable type ≡ true → cells_in type payload ≡ Some (map of_bytes texts)

-- the elements of variable length that offsets cut out of bytes, or that they cut none
abbrev pub Cuts : List ℕ → List ℕ → Option ArrayBytes → Type 0
Cuts offsets content (Some made) = IsCut offsets content (payload_of made)
Cuts offsets content None = elements_of (λ long. Some content) offsets ≡ None

-- ---- `optional`

-- the elements of an optional type that are encoded are split: their mask, and an element below for each mark, where those are present whose marks are 1; these are values
pub record IsSplit (inner : DataType) (cells : List Cell) (parts : SplitOptions) : Type 0 where
  pub mask : IsValid bool (fixed parts.mask.items) (length cells) (map mask_cell cells)
  pub below : AreMarked inner parts.marks.items (filter_map present_cell cells) (payload_of parts.below)
  pub values : list_all (is_value inner) (filter_map present_cell cells) ≡ true
