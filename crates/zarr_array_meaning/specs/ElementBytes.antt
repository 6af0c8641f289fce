-- The bytes of a chunk's elements in what is stored for it.
use Rattle.std.specs.Prelude.{◌≡◌, ℕ, ◌*◌, List, [], take, drop, Option, true, false, MatchOption}
use Rattle.zarr_grids_boxes.specs.Boxes.{Region, is_in_box}
use Rattle.zarr_codecs_meaning.specs.Chains.{Chain}
use Rattle.zarr_codecs_meaning.specs.Chains.Chain.{bytes, packbits, vlen, optional, after_array_codec, then_bytes, sharded}
use Rattle.zarr_codecs_meaning.specs.Places.{encoded_shape, position_of, source_places}
use Rattle.zarr_codecs_meaning.specs.Types.{DataType, bytes_in, components}
use Rattle.zarr_array_meaning.specs.Chunks.{number_in}
use Rattle.zarr_array_meaning.specs.Writes.{Write}

-- the bytes in which the element at a place stands in a value of `bytes`, whatever they are; an array codec before it moves the place. Of other chains there are none
abbrev pub element_bytes : Chain → DataType → List ℕ → List ℕ → ℕ → List ℕ
element_bytes (bytes order) type shape value place = take (bytes_in (components type)) (drop (place * bytes_in (components type)) value)
element_bytes (packbits padding first last) type shape value place = []
element_bytes (vlen index «data» width location) type shape value place = []
element_bytes (optional mask values) type shape value place = []
element_bytes (after_array_codec codec chain) type shape value place = element_bytes chain type (encoded_shape codec shape) value (position_of place (source_places codec shape))
element_bytes (then_bytes chain codec) type shape value place = []
element_bytes (sharded subchunk inner index location) type shape value place = []

-- each element of a chunk outside of a write's box has the same bytes in two values
abbrev pub HaveBytesAlike : Write → Region → List ℕ → List ℕ → Type 0
HaveBytesAlike write box value made = (place : List ℕ) → is_in_box write.region.start write.region.shape place ≡ false → is_in_box box.start box.shape place ≡ true
    → element_bytes write.array.document.chain write.array.document.elements.type box.shape made (number_in box place)
    ≡ element_bytes write.array.document.chain write.array.document.elements.type box.shape value (number_in box place)

-- a chunk that had a value has one after a write, with the same bytes for each element outside of the box
abbrev pub KeepsBytes : Write → Region → Option (List ℕ) → Option (List ℕ) → Type 0
KeepsBytes write box stored made = MatchOption stored (Unit {0}) (λ value. MatchOption made ⊥ (HaveBytesAlike write box value))
