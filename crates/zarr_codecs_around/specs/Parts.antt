-- Parts of an array that are read and written by a codec after array codecs.
use Rattle.std.specs.Prelude.{◌≡◌, ℕ, Bool, List, Option, Result, OnOk}
use Rattle.zarr_grids_boxes.specs.Subsets.{region_of}
use Rattle.zarr_codecs_meaning.specs.Chains.{Chain}
use Rattle.zarr_codecs_meaning.specs.Partial.{encodes_in_part}
use Rattle.zarr_codecs_arrays.specs.Views.{elements_of, payload_of}
use Rattle.zarr_codecs_arrays.specs.declared.array_bytes.ArrayBytes.{ArrayBytes}
use Rattle.zarr_codecs_arrays.specs.declared.error.CodecError.{CodecError}
use Rattle.zarr_codecs_traits.specs.Arrays.{Coded, Update, coded, coded_part, update_of}
use Rattle.zarr_codecs_traits.specs.Indexers.{in_box, listed}
use Rattle.zarr_codecs_traits.specs.PartWriting.{NotEncodedInto}
use Rattle.zarr_codecs_traits.specs.ShardWrites.{GivesWriting, LeavesParts}
use Rattle.zarr_codecs_traits.specs.declared.array_part.ArrayPart.{ArrayPart}
use Rattle.zarr_codecs_bytes.specs.declared.part.ListedPart.{ListedPart}
use Rattle.zarr_codecs_around.specs.Views.{chain_after}
use Rattle.zarr_codecs_around.specs.declared.array_codecs.AfterArrayCodecs.{AfterArrayCodecs}
use Rattle.zarr_codecs_around.specs.declared.boxes.BoxPart.{BoxPart}

-- the array of a part, by array codecs and the codec after them
abbrev pub part_in : {A : Type 0} → (A → Chain) → AfterArrayCodecs A → ArrayPart → Coded
part_in meaning codecs part = coded_part (chain_after meaning codecs) part

-- the same, where the part is a box
abbrev pub boxed_in : {A : Type 0} → (A → Chain) → AfterArrayCodecs A → BoxPart → Coded
boxed_in meaning codecs part = coded (chain_after meaning codecs) (elements_of part.elements.now) part.shape.now

-- elements that are given for the places of a box, before they are put into what is stored
abbrev pub update_boxed : BoxPart → ArrayBytes → Option (List ℕ) → Update
update_boxed part bytes stored = update_of (in_box (region_of part.subset.now)) (payload_of bytes) stored

-- the array of elements that are asked for by their numbers
abbrev pub coded_listed : Chain → ListedPart → Coded
coded_listed chain part = coded chain (elements_of part.elements.now) part.shape.now

-- elements that are given for places by their numbers, before they are put into what is stored
abbrev pub update_listed : ListedPart → ArrayBytes → Option (List ℕ) → Update
update_listed part bytes stored = update_of (listed part.numbers.now) (payload_of bytes) stored

-- the array codecs don't keep the codec after them from being encoded in part: no `reshape` stands before a shard
abbrev pub IsAsRest : {A : Type 0} → (A → Chain) → AfterArrayCodecs A → Type 0
IsAsRest meaning codecs = encodes_in_part (chain_after meaning codecs) ≡ encodes_in_part (meaning codecs.rest.now)

-- a source at a write: what is stored afterwards, whether it writes ranges without the value, and how many bytes it has given before and after
pub record SourceWrite : Type 0 where
  pub new : Option (List ℕ)
  pub ranges : Bool
  pub before : ℕ
  pub after : ℕ

-- the same, put together
abbrev pub source_write : Option (List ℕ) → Bool → ℕ → ℕ → SourceWrite
source_write new ranges before after = record { new = new; ranges = ranges; before = before; after = after }

-- what a write in part leaves of what was stored, or why it isn't done, and how many bytes it takes
pub record WritesPart {A : Type 0} (array : Coded) (update : Update) (source : SourceWrite) (result : Result A CodecError) : Type 0 where
  pub parts : OnOk result (LeavesParts array update source.new)
  pub cause : NotEncodedInto array update result
  pub given : GivesWriting array update source.ranges source.before source.after
