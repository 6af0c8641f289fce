-- What a write in part leaves of a value, and how many bytes it takes of it.
use Rattle.std.specs.Prelude.{◌≡◌, ◌⊎◌, ℕ, ◌+◌, ◌≤◌, List, map, Option, Bool, true, MatchBool, MatchOption, if◌then◌else◌}
use Rattle.zarr_codecs_meaning.specs.Chains.{Chain}
use Rattle.zarr_codecs_meaning.specs.Chains.Chain.{bytes, packbits, vlen, optional, after_array_codec, then_bytes, sharded}
use Rattle.zarr_codecs_meaning.specs.Encoding.{base_of, index_size}
use Rattle.zarr_codecs_meaning.specs.Fits.{is_lossless}
use Rattle.zarr_codecs_meaning.specs.Partial.{encodes_in_part}
use Rattle.zarr_codecs_meaning.specs.Places.{encoded_shape, index_shape, parts_of, position_of, source_places}
use Rattle.zarr_codecs_meaning.specs.Types.{DataType, Elements, uint64}
use Rattle.zarr_sharding_changes.specs.Changes.{Change}
use Rattle.zarr_sharding_changes.specs.Gapless.{IsGapless}
use Rattle.zarr_sharding_changes.specs.HeldShards.{IsAppendedTo, held_in}
use Rattle.zarr_codecs_traits.specs.Arrays.{Coded, Update}
use Rattle.zarr_codecs_traits.specs.Indexers.{numbers_asked}
use Rattle.zarr_codecs_traits.specs.PartWriting.{AfterPut, AfterWrite, AreNewSlices, IsPlaced, LacksRoom, write_moved, write_of}
use Rattle.zarr_codecs_traits.specs.ReadBytes.{most_of_numbers}
use Rattle.zarr_codecs_traits.specs.Sources.{value_length}
use Rattle.zarr_codecs_traits.specs.Writes.{most_to_patch}

-- ---- what is left

-- of the shard that a chain makes those subchunks changed that one of the places of a write lies in: each got a new slice, which was made of its cells and stands behind the data part, or none where they are all fill. Each other subchunk keeps its pair and its slice, and nothing else was written. Of a chain without a shard it says nothing
abbrev pub Appends : Chain → Elements → List ℕ → AfterWrite → Option (List ℕ) → Type 0
Appends (bytes order) elements shape write new = Unit {0}
Appends (packbits padding first last) elements shape write new = Unit {0}
Appends (vlen index «data» width location) elements shape write new = Unit {0}
Appends (optional mask values) elements shape write new = Unit {0}
Appends (after_array_codec codec chain) elements shape write new = Appends chain elements (encoded_shape codec shape) (write_moved codec elements.fill shape write) new
Appends (then_bytes chain codec) elements shape write new = Unit {0}
Appends (sharded subchunk inner index location) elements shape write new =
    let base = base_of location (index_size index (index_shape shape subchunk)) in
    is_lossless index uint64 ≡ true
    → (changes : List Change) × AreNewSlices inner elements (parts_of shape subchunk) write changes
    × IsAppendedTo (held_in subchunk index location shape) base changes write.stored new

-- the parts that a write meets are appended to what is stored, and all others stay
abbrev pub AppendsParts : Coded → Update → Option (List ℕ) → Type 0
AppendsParts array update new = AfterPut array update (λ after. Appends array.chain array.elements array.shape (write_of array update after) new)

-- what is stored has no gaps, if anything is
abbrev pub IsStoredGapless : Chain → List ℕ → Option (List ℕ) → Type 0
IsStoredGapless chain shape stored = MatchOption stored (Unit {0}) (IsGapless chain shape)

-- what a write leaves of what was stored: where the chain is encoded in part, the parts that it doesn't meet, unless there was no room for the new slices; else, and then, a value that is written anew without gaps
pub record LeavesParts (array : Coded) (update : Update) (new : Option (List ℕ)) : Type 0 where
  -- no present slice lay outside the data part
  pub placed : IsPlaced array.chain array.shape update.stored
  pub parts : MatchBool (encodes_in_part array.chain) (AppendsParts array update new ⊎ (LacksRoom array update × IsStoredGapless array.chain array.shape new)) (IsStoredGapless array.chain array.shape new)

-- ---- how many bytes are taken

-- how many bytes a chain that is encoded in part takes at most of what is stored, to write at the places with these numbers: of a shard its index and the slices that they lie in; of `bytes` none
abbrev pub most_for_parts : Chain → DataType → List ℕ → Option (List ℕ) → List ℕ → ℕ
most_for_parts (bytes order) type shape stored numbers = 0
most_for_parts (packbits padding first last) type shape stored numbers = value_length stored
most_for_parts (vlen index «data» width location) type shape stored numbers = value_length stored
most_for_parts (optional mask values) type shape stored numbers = value_length stored
most_for_parts (after_array_codec codec chain) type shape stored numbers = most_for_parts chain type (encoded_shape codec shape) stored (map (λ n. position_of n (source_places codec shape)) numbers)
most_for_parts (then_bytes chain codec) type shape stored numbers = value_length stored
most_for_parts (sharded subchunk inner index location) type shape stored numbers = most_of_numbers (sharded subchunk inner index location) type shape stored numbers

-- the same for a write of any chain: one that isn't encoded in part takes the whole value
abbrev pub most_to_write : Coded → Update → ℕ
most_to_write array update =
    if encodes_in_part array.chain then most_for_parts array.chain array.elements.type array.shape update.stored (numbers_asked array.shape update.asked) else value_length update.stored

-- how many bytes of the value a source gives at most to have ranges of it written: a chain that isn't encoded in part writes none, but sets the value whole
abbrev pub most_patched : Coded → Update → Bool → ℕ
most_patched array update ranges = if encodes_in_part array.chain then most_to_patch ranges update.stored else 0

-- whether the second is the count of bytes given after a write; it is told whether the source writes ranges without giving its value. At most as many more are given as the write takes, and as the source gives to have ranges written; where there was no room for new slices, the value is read as well, and set whole
abbrev pub GivesWriting : Coded → Update → Bool → ℕ → ℕ → Type 0
GivesWriting array update ranges before after =
    (after ≤ before + most_to_write array update + most_patched array update ranges) ⊎ (LacksRoom array update × (after ≤ before + most_to_write array update + value_length update.stored))
