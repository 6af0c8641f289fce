-- What a chain of codecs around a shard stands for.
use Rattle.std.specs.Prelude.{◌≡◌, List, Bool, IsTrue, map, true}
use Rattle.std.proofs.Common.{◌∙◌, sym}
use Rattle.std.proofs.lemmas.Bool.{false≢true}
use Rattle.zarr_grids_metadata.specs.ExtensionPoints.{ExtensionPoint}
use Rattle.zarr_codecs_meaning.specs.Chains.{ByteCodec, Chain}
use Rattle.zarr_codecs_meaning.specs.Fits.{is_plain}
use Rattle.zarr_codecs_meaning.specs.Laws.{IsLawful, IsLawfulChain}
use Rattle.zarr_codecs_array_to_array.specs.declared.codec.ArrayToArrayCodec.{ArrayToArrayCodec}
use Rattle.zarr_codecs_around.specs.Copies.{AreWrittenAlike, WritesAlike}
use Rattle.zarr_codecs_around.specs.Views.{array_points, codecs_of, lawful_after, plain_before, plain_with, with_array_codecs}
use Rattle.zarr_codecs_around.specs.ThenBytes as then
use Rattle.zarr_codecs_chains.specs.Views.{lawful_of, meaning_of, points_of}
use Rattle.zarr_codecs_chains.specs.declared.chain.CodecChain.{CodecChain}
use Rattle.zarr_sharding_codec.specs.Views.{index_of, inner_of, makes_a_function, order_of, shard_chain}
use Rattle.zarr_sharding_codec.specs.declared.codec.ShardingCodec.{ShardingCodec}
use Rattle.zarr_sharding_chains.specs.declared.sharded_chain.ShardedChain.{ShardedChain}

-- the array codecs before the shard
abbrev pub arrays_of : {B I : Type 0} → ShardedChain B I → List ArrayToArrayCodec
arrays_of chain = chain.array_to_array.items

-- the codec of the shard
abbrev pub shard_of : {B I : Type 0} → ShardedChain B I → ShardingCodec I (CodecChain B)
shard_of chain = then.codec_of chain.others

-- the bytes codecs after it
abbrev pub bytes_of : {B I : Type 0} → ShardedChain B I → List B
bytes_of chain = then.bytes_of chain.others

-- the shard, and the bytes codecs after it
abbrev pub others_meaning : {B I : Type 0} → (I → Chain) → (B → ByteCodec) → ShardedChain B I → Chain
others_meaning inner bytes chain = then.then_meaning (shard_chain inner (meaning_of bytes)) bytes chain.others

-- array codecs, a shard, and bytes codecs
abbrev pub sharded_meaning : {B I : Type 0} → (I → Chain) → (B → ByteCodec) → ShardedChain B I → Chain
sharded_meaning inner bytes chain = with_array_codecs (codecs_of (arrays_of chain)) (others_meaning inner bytes chain)

-- whether what is made of elements depends on these alone: the subchunks are written row-major, and what their codecs make does
abbrev pub sharded_function : {B I : Type 0} → (I → Bool) → ShardedChain B I → Bool
sharded_function inner chain = makes_a_function inner (λ index. true) (shard_of chain)

-- a chain around a shard is lawful, where the codecs of its subchunks and the caller's are
pub sharded_lawful : {B I : Type 0} (inner : I → Chain) → ((codec : I) → IsLawfulChain (inner codec)) → (meaning : B → ByteCodec) → ((codec : B) → IsLawful (meaning codec)) → (chain : ShardedChain B I)
    → IsLawfulChain (sharded_meaning inner meaning chain)
sharded_lawful inner first meaning each chain =
    lawful_after (codecs_of (arrays_of chain)) (others_meaning inner meaning chain)
    (then.then_lawful (shard_chain inner (meaning_of meaning)) (λ codec. (first (inner_of codec), lawful_of meaning each (index_of codec))) meaning each chain.others)

-- no chain around a shard makes none
pub sharded_plain : {B I : Type 0} (inner : I → Chain) (is_function : I → Bool) (meaning : B → ByteCodec) (chain : ShardedChain B I) → is_plain (sharded_meaning inner meaning chain) ≡ true → IsTrue (sharded_function is_function chain)
sharded_plain inner is_function meaning chain is =
    let shard = shard_chain inner (meaning_of meaning) (shard_of chain) in
    absurd (false≢true (sym (plain_before (codecs_of (arrays_of chain)) (others_meaning inner meaning chain) ∙ plain_with shard (map meaning (bytes_of chain))) ∙ is))

-- a chain around a shard is a copy: its array codecs are written alike, the codecs of its subchunks are a copy, those of its index and the caller's are written alike, and its subchunks are written in the same order
pub record IsShardedCopy {B I : Type 0} (inner : I → I → Type 0) (bytes : B → ByteCodec) (chain copy : ShardedChain B I) : Type 0 where
  pub arrays : array_points (arrays_of copy) ≡ array_points (arrays_of chain)
  pub subchunks : inner (inner_of (shard_of chain)) (inner_of (shard_of copy))
  pub index : (described : B → ExtensionPoint) → WritesAlike bytes described → points_of described (index_of (shard_of copy)) ≡ points_of described (index_of (shard_of chain))
  pub order : order_of (shard_of copy) ≡ order_of (shard_of chain)
  pub others : AreWrittenAlike bytes (bytes_of chain) (bytes_of copy)

-- chains around shards have the same codecs, each under the name that it keeps: those of the subchunks have, by this, and all others are the same
pub record HaveSameCodecs {B I : Type 0} (inner : I → I → Type 0) (chain other : ShardedChain B I) : Type 0 where
  pub arrays : arrays_of other ≡ arrays_of chain
  pub subchunks : inner (inner_of (shard_of chain)) (inner_of (shard_of other))
  pub index : index_of (shard_of other) ≡ index_of (shard_of chain)
  pub others : bytes_of other ≡ bytes_of chain
