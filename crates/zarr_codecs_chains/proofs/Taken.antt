-- How many bytes of a value are taken at most.
use Rattle.std.proofs.Common.{◌≡◌, ℕ, ◌+◌, ◌≤◌, List, refl, true, Option}
use Rattle.zarr_codecs_meaning.specs.Chains.{Chain}
use Rattle.zarr_codecs_meaning.specs.Chains.Chain.{bytes, packbits, vlen, optional, after_array_codec, then_bytes, sharded}
use Rattle.zarr_codecs_meaning.specs.Types.{DataType}
use Rattle.zarr_codecs_traits.specs.Indexers.{Asked}
use Rattle.zarr_codecs_traits.specs.ReadBytes.{most_read}
use Rattle.zarr_codecs_traits.specs.Sources.{value_length}
use Rattle.zarr_codecs_around.proofs.Taken.{all_most}
use Rattle.zarr_codecs_chains.specs.Selecting.{reads_whole}

pub whole_most : (chain : Chain) (type : DataType) (shape : List ℕ) (contents : Option (List ℕ)) (asked : Asked) (old new : ℕ) → reads_whole chain ≡ true → new ≤ old + value_length contents → new ≤ old + most_read chain type shape contents asked
whole_most (bytes order) type shape contents asked old new whole h = absurd (cc)
whole_most (packbits padding first last) type shape contents asked old new whole h = absurd (cc)
whole_most (vlen index «data» width location) type shape contents asked old new whole h = all_most (vlen index «data» width location) type shape contents asked old new (λ ns value. refl) h
whole_most (optional mask values) type shape contents asked old new whole h = all_most (optional mask values) type shape contents asked old new (λ ns value. refl) h
whole_most (after_array_codec codec chain) type shape contents asked old new whole h = absurd (cc)
whole_most (then_bytes chain codec) type shape contents asked old new whole h = absurd (cc)
whole_most (sharded subchunk inner index location) type shape contents asked old new whole h = absurd (cc)
