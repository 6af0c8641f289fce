-- How many bytes of a value are read for some elements of its array.
use Rattle.std.specs.Prelude.{ℕ, ◌+◌, ◌-◌, ◌*◌, ◌/◌, ◌==◌, min, List, [], ◌∷◌, length, map, Option, None, Some, unwrap_or, not, ◌&&◌, nat_le, if◌then◌else◌}
use Rattle.zarr_codecs_meaning.specs.Chains.{Chain}
use Rattle.zarr_codecs_meaning.specs.Chains.Chain.{bytes, packbits, vlen, optional, after_array_codec, then_bytes, sharded}
use Rattle.zarr_codecs_meaning.specs.Chains.Padding.{no_padding_byte, first_byte, last_byte}
use Rattle.zarr_codecs_meaning.specs.Decoding.{decoded, is_absent, pairs_in}
use Rattle.zarr_codecs_meaning.specs.Encoding.{Pair, index_size}
use Rattle.zarr_codecs_meaning.specs.Fits.{bits_in}
use Rattle.zarr_codecs_meaning.specs.Places.{Part, encoded_shape, index_shape, parts_of, position_of, source_places}
use Rattle.zarr_codecs_meaning.specs.Types.{DataType, bytes_in, components, uint64, zero_filled}
use Rattle.zarr_codecs_traits.specs.Indexers.{Asked, numbers_asked}
use Rattle.zarr_codecs_traits.specs.PartWriting.{is_met}

-- how many bytes the elements with these numbers touch, of so many bits each, one after another: each from the byte of its first bit to that of its last, and the element with the number `next` from the byte after those of the one before it
abbrev pub bytes_touched : ℕ → ℕ → List ℕ → ℕ
bytes_touched bits next [] = 0
bytes_touched bits next (n ∷ ns) = ((n + 1) * bits + 7) / 8 - (if n == next then (n * bits + 7) / 8 else n * bits / 8) + bytes_touched bits (n + 1) ns

-- how many bytes the slice of a pair has in a value of so many bytes: none where the subchunk is absent, or the pair ends past the end
abbrev pub slice_length : ℕ → Pair → ℕ
slice_length total pair = if not (is_absent pair) && nat_le (pair.0 + pair.1) total then pair.1 else 0

-- how many bytes the slices have of the subchunks that one of the places with these numbers lies in, by the pairs of a value of so many bytes: each pair is counted once, also where two name the same slice
abbrev pub slices_met : ℕ → List ℕ → List Part → List Pair → ℕ
slices_met total numbers [] pairs = 0
slices_met total numbers (part ∷ parts) [] = 0
slices_met total numbers (part ∷ parts) (pair ∷ pairs) = (if is_met numbers part then slice_length total pair else 0) + slices_met total numbers parts pairs

-- how many bytes are taken at most of a value for the elements with these numbers: theirs alone where the chain ends in `bytes` or in `packbits` without a padding byte, and never more than it has; of a shard those of its index and of the slices that they lie in; where bytes codecs follow, all
abbrev pub bytes_of_numbers : Chain → DataType → List ℕ → List ℕ → List ℕ → ℕ
bytes_of_numbers (bytes order) type shape numbers value = min (length numbers * bytes_in (components type)) (length value)
bytes_of_numbers (packbits no_padding_byte first last) type shape numbers value = min (bytes_touched (bits_in first last (components type)) 0 numbers) (length value)
bytes_of_numbers (packbits first_byte first last) type shape numbers value = length value
bytes_of_numbers (packbits last_byte first last) type shape numbers value = length value
bytes_of_numbers (vlen index «data» width location) type shape numbers value = length value
bytes_of_numbers (optional mask values) type shape numbers value = length value
bytes_of_numbers (after_array_codec codec chain) type shape numbers value = bytes_of_numbers chain type (encoded_shape codec shape) (map (λ n. position_of n (source_places codec shape)) numbers) value
bytes_of_numbers (then_bytes chain codec) type shape numbers value = length value
bytes_of_numbers (sharded subchunk inner index location) type shape numbers value =
    let pairs_shape = index_shape shape subchunk in
    index_size index pairs_shape + slices_met (length value) numbers (parts_of shape subchunk) (unwrap_or (pairs_in (decoded index (zero_filled uint64) pairs_shape) location (index_size index pairs_shape) value) [])

-- how many bytes of a value, if there is one, are taken at most for the elements with these numbers
abbrev pub most_of_numbers : Chain → DataType → List ℕ → Option (List ℕ) → List ℕ → ℕ
most_of_numbers chain type shape None numbers = 0
most_of_numbers chain type shape (Some value) numbers = bytes_of_numbers chain type shape numbers value

-- how many bytes of a value, if there is one, are taken at most for the elements at the places that are asked for
abbrev pub most_read : Chain → DataType → List ℕ → Option (List ℕ) → Asked → ℕ
most_read chain type shape contents asked = most_of_numbers chain type shape contents (numbers_asked shape asked)
