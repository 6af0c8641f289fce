-- Parts of an array that are asked for.
use Rattle.std.specs.Prelude.{◌≡◌, ◌<◌, ℕ, ◌*◌, List, Option, None, Some, Bool, false, Result, length, Vec}
use Rattle.std.specs.declared.alloc.Global.{Global}
use Rattle.zarr_grids_boxes.specs.Boxes.{Region, product}
use Rattle.zarr_grids_boxes.specs.Subsets.{region_of}
use Rattle.zarr_codecs_meaning.specs.Types.{Cell, components, bytes_in}
use Rattle.zarr_codecs_meaning.specs.Chains.{Chain}
use Rattle.zarr_codecs_meaning.specs.Decoding.{decoded}
use Rattle.zarr_codecs_meaning.specs.Encoding.{encoded}
use Rattle.zarr_codecs_meaning.specs.Fits.{fits}
use Rattle.zarr_codecs_meaning.specs.Payloads.{fixed_cells}
use Rattle.zarr_codecs_meaning.specs.Places.{gather}
use Rattle.zarr_codecs_arrays.specs.Views.{elements_of}
use Rattle.zarr_codecs_arrays.specs.declared.array_bytes.ArrayBytes.{ArrayBytes}
use Rattle.zarr_codecs_arrays.specs.declared.error.CodecError.{CodecError}
use Rattle.zarr_codecs_traits.specs.Indexers.{in_box, listed, numbers_of}
use Rattle.zarr_codecs_traits.specs.Arrays.{coded}
use Rattle.zarr_codecs_traits.specs.Outcomes.{DecodesPart}
use Rattle.zarr_codecs_traits.specs.PartEncoding.{cells_with_box}
use Rattle.zarr_codecs_traits.specs.ReadBytes.{most_of_numbers, most_read}
use Rattle.zarr_codecs_traits.specs.Patches.{Patch, any_too_far, patched}
use Rattle.zarr_codecs_bytes.specs.declared.part.ListedPart.{ListedPart}
use Rattle.zarr_codecs_bytes.specs.declared.part.BoxPart.{BoxPart}

-- whether a chain suits the array of a part
abbrev pub fits_part : Chain → BoxPart → Bool
fits_part chain part = fits chain (elements_of part.elements.now).type part.shape.now

-- how many bytes an element of a part has
abbrev pub part_width : BoxPart → ℕ
part_width part = bytes_in (components (elements_of part.elements.now).type)

-- the elements of a part, of what is stored, or why there are none
abbrev pub GivesPart : Chain → Option (List ℕ) → BoxPart → Result ArrayBytes CodecError → Type 0
GivesPart chain stored part result = DecodesPart (coded chain (elements_of part.elements.now) part.shape.now) stored (in_box (region_of part.region.now)) result

-- how many bytes are taken at most of what is stored, for the elements of a part
abbrev pub most_of_part : Chain → Option (List ℕ) → BoxPart → ℕ
most_of_part chain stored part = most_read chain (elements_of part.elements.now).type part.shape.now stored (in_box (region_of part.region.now))

-- an array whose elements have one width: that width, the elements' bytes, and the array's shape
pub record FixedArray : Type 0 where
  pub width : ℕ
  pub value : List ℕ
  pub shape : List ℕ

-- an array of this shape, whose elements of this width have these bytes
abbrev pub fixed_array : ℕ → List ℕ → List ℕ → FixedArray
fixed_array width value shape = record { width = width; value = value; shape = shape }

-- the bytes of the elements at the places of a box, of an array; what is past the end of the array's bytes is `other`
pub record IsExtracted (array : FixedArray) (region : Region) (other : Cell) (extracted : List ℕ) : Type 0 where
  pub long : length extracted ≡ product region.shape * array.width
  pub elements : fixed_cells array.width extracted ≡ gather other (fixed_cells array.width array.value) (numbers_of array.shape region)

-- the bytes of a part's elements, of a value of as many bytes as the array's elements have
pub record HasPart (part : BoxPart) (value extracted : List ℕ) : Type 0 where
  pub whole : length value ≡ product part.shape.now * part_width part
  pub are : (other : Cell) → IsExtracted (fixed_array (part_width part) value part.shape.now) (region_of part.region.now) other extracted

-- patches that replace the elements of a part by others, which have these bytes: of a value that is decoded they make what the elements are then encoded to
pub record PatchesPart (chain : Chain) (part : BoxPart) (given : List ℕ) (patches : List Patch) : Type 0 where
  pub near : any_too_far patches ≡ false
  pub encodes : (value : List ℕ) (before : List Cell) → decoded chain (elements_of part.elements.now) part.shape.now value ≡ Some before
      → encoded chain (elements_of part.elements.now) part.shape.now (cells_with_box part.shape.now (elements_of part.elements.now).fill (region_of part.region.now) (fixed_cells (part_width part) given) before) ≡ Some (patched value patches)

-- ---- elements that are asked for by their numbers

-- whether a chain suits their array
abbrev pub fits_listed : Chain → ListedPart → Bool
fits_listed chain part = fits chain (elements_of part.elements.now).type part.shape.now

-- how many bytes an element has
abbrev pub listed_width : ListedPart → ℕ
listed_width part = bytes_in (components (elements_of part.elements.now).type)

-- the elements with these numbers, of what is stored, or why there are none
abbrev pub GivesListed : Chain → Option (List ℕ) → ListedPart → Result ArrayBytes CodecError → Type 0
GivesListed chain stored part result = DecodesPart (coded chain (elements_of part.elements.now) part.shape.now) stored (listed part.numbers.now) result

-- how many bytes are taken at most of what is stored, for the elements with these numbers
abbrev pub most_of_listed : Chain → Option (List ℕ) → ListedPart → ℕ
most_of_listed chain stored part = most_of_numbers chain (elements_of part.elements.now).type part.shape.now stored part.numbers.now

-- the bytes of the elements with these numbers, of the elements that a value holds, each of one width
pub record IsListed (width : ℕ) (value numbers extracted : List ℕ) : Type 0 where
  pub long : length extracted ≡ length numbers * width
  pub elements : (other : Cell) → fixed_cells width extracted ≡ gather other (fixed_cells width value) numbers

-- the bytes of a part's elements, of a value of as many bytes as the array's elements have
pub record HasListed (part : ListedPart) (value extracted : List ℕ) : Type 0 where
  pub positive : 0 < listed_width part
  pub whole : length value ≡ product part.shape.now * listed_width part
  pub are : IsListed (listed_width part) value part.numbers.now extracted

-- bytes were found, those of a part's elements
abbrev pub HasFound : ListedPart → List ℕ → Option (Vec ℕ Global) → Type 0
HasFound part value None = ⊥
HasFound part value (Some extracted) = HasListed part value extracted.items
