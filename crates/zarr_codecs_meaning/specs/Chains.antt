-- Codec chains, as data: what a chain does is said of it by recursion.
use Rattle.std.specs.Prelude.{ℕ, List, Option}

-- what is known of the size of bytes before they are made: the size, the most that it can be, or nothing
pub data BytesRepresentation : Type 0 where
  fixed_size : ℕ → BytesRepresentation
  bounded_size : ℕ → BytesRepresentation
  unbounded_size : BytesRepresentation

-- a codec on bytes that a caller brings: what it makes of bytes, unless it refuses; what it undoes bytes to, unless they are damaged;
-- and what is known of the size of what it makes, by what is known of the size of what it is given
pub record ByteCodec : Type 0 where
  pub encode : List ℕ → Option (List ℕ)
  pub decode : List ℕ → Option (List ℕ)
  pub representation : BytesRepresentation → BytesRepresentation

-- one entry of a new shape: a size, the product of the sizes of some dimensions of the old shape, or what is left over
pub data ShapeEntry : Type 0 where
  size_entry : ℕ → ShapeEntry
  product_entry : List ℕ → ShapeEntry
  left_over : ShapeEntry

-- an array to array codec (`transpose`: Zarr core specification; `reshape`, `squeeze`: this project's profile)
pub data ArrayCodec : Type 0 where
  -- dimension i of the encoded array is the dimension of the decoded one that stands at i in the order
  transpose : List ℕ → ArrayCodec
  reshape : List ShapeEntry → ArrayCodec
  squeeze : ArrayCodec

-- which byte of a component comes first: the lowest, or the highest
pub data Endianness : Type 0 where
  little : Endianness
  big : Endianness

-- where `packbits` writes the number of its padding bits
pub data Padding : Type 0 where
  no_padding_byte : Padding
  first_byte : Padding
  last_byte : Padding

-- where an index stands among the bytes of its codec
pub data Location : Type 0 where
  at_start : Location
  at_end : Location

-- a codec chain: the array to array codecs in their order, the array to bytes codec, and the bytes to bytes codecs in their order
-- (`bytes`: Zarr core specification; `sharded`: Zarr sharding codec; `packbits`, `vlen`, `optional`: this project's profile)
pub data Chain : Type 0 where
  bytes : Option Endianness → Chain
  -- where the padding is told, the first bit that is kept, and the last one (the highest of the component where none is given)
  packbits : Padding → ℕ → Option ℕ → Chain
  -- the chains of the index and of the data, the width in bits of the index's unsigned integers, and where the index stands
  vlen : Chain → Chain → ℕ → Location → Chain
  -- the chains of the mask and of the data
  optional : Chain → Chain → Chain
  -- an array to array codec, and then a chain
  after_array_codec : ArrayCodec → Chain → Chain
  -- a chain, and then a bytes to bytes codec
  then_bytes : Chain → ByteCodec → Chain
  -- the subchunk shape, the chains of the subchunks and of the index, and where the index stands
  sharded : List ℕ → Chain → Chain → Location → Chain
