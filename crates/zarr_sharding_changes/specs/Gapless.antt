-- Values without gaps.
use Rattle.std.specs.Prelude.{◌≡◌, ℕ, List, [], ◌∷◌, Some, true, MatchBool, MatchOption}
use Rattle.zarr_codecs_meaning.specs.Chains.{Chain}
use Rattle.zarr_codecs_meaning.specs.Chains.Chain.{bytes, packbits, vlen, optional, after_array_codec, then_bytes, sharded}
use Rattle.zarr_codecs_meaning.specs.Decoding.{decoded, is_absent, pairs_in, slice_at}
use Rattle.zarr_codecs_meaning.specs.Encoding.{Pair, index_size}
use Rattle.zarr_codecs_meaning.specs.Fits.{is_lossless, is_plain}
use Rattle.zarr_codecs_meaning.specs.Making.{none_overlap}
use Rattle.zarr_codecs_meaning.specs.Places.{Part, encoded_shape, index_shape, parts_of}
use Rattle.zarr_codecs_meaning.specs.Types.{uint64, zero_filled}
use Rattle.zarr_sharding_changes.specs.Compactions.{nothing_to_gain, shard_compaction}

-- each present slice of a shard has no gaps, by the shape of its subchunk
abbrev pub AreGapless : (List ℕ → List ℕ → Type 0) → List ℕ → List Part → List Pair → Type 0
AreGapless gapless value [] pairs = Unit {0}
AreGapless gapless value (part ∷ parts) [] = Unit {0}
AreGapless gapless value (part ∷ parts) (pair ∷ pairs) =
    MatchBool (is_absent pair) (Unit {0}) (MatchOption (slice_at value pair) ⊥ (gapless part.shape)) × AreGapless gapless value parts pairs

-- a value has no gaps. A shard whose index keeps every bit is as long as its index and its present slices together, so that compaction gains nothing, no two of these share a byte, and none of them has gaps either; bytes codecs are undone before. Of a chain without a shard it says nothing
abbrev pub IsGapless : Chain → List ℕ → List ℕ → Type 0
IsGapless (bytes order) shape value = Unit {0}
IsGapless (packbits padding first last) shape value = Unit {0}
IsGapless (vlen index «data» width location) shape value = Unit {0}
IsGapless (optional mask values) shape value = Unit {0}
IsGapless (after_array_codec codec chain) shape value = IsGapless chain (encoded_shape codec shape) value
IsGapless (then_bytes chain codec) shape value = MatchBool (is_plain chain) (Unit {0}) ((inside : List ℕ) × (codec.decode value ≡ Some inside) × IsGapless chain shape inside)
IsGapless (sharded subchunk inner index location) shape value =
    let pairs_shape = index_shape shape subchunk in
    is_lossless index uint64 ≡ true → (shard_compaction subchunk index location shape value ≡ nothing_to_gain)
    × ((pairs : List Pair) × (pairs_in (decoded index (zero_filled uint64) pairs_shape) location (index_size index pairs_shape) value ≡ Some pairs)
    × (none_overlap pairs ≡ true) × AreGapless (IsGapless inner) value (parts_of shape subchunk) pairs)
