-- Chains without shards: what they make of elements depends on these alone.
use Rattle.std.proofs.Common.{◌≡◌, ◌∙◌, map, refl, sym, IsTrue, true, false}
use Rattle.std.proofs.lemmas.Bool.{true≢false}
use Rattle.zarr_codecs_meaning.specs.Chains.{ByteCodec, Chain}
use Rattle.zarr_codecs_meaning.specs.Fits.{is_plain}
use Rattle.zarr_codecs_around.specs.Views.{codecs_of}
use Rattle.zarr_codecs_chains.specs.Views.{meaning_of}
use Rattle.zarr_sharding_codec.specs.Views.{shard_chain}
use Rattle.zarr_sharding_chains.specs.ArrayChains.{array_function, array_meaning}
use Rattle.zarr_sharding_chains.specs.Views.{arrays_of, bytes_of, shard_of, sharded_meaning}
use Rattle.zarr_sharding_chains.specs.declared.sharded_chain.ShardedChain.{ShardedChain}
use Rattle.zarr_sharding_chains.specs.declared.array_chain.ArrayChain.{ArrayChain}
use Rattle.zarr_sharding_chains.specs.declared.array_chain.ArrayChain.TheVariants.{Plain, Sharded, Nested}
use Rattle.zarr_sharding_chains.proofs.Telling.{shards_between}

-- a chain around a shard makes shards
pub makes_shards : {B I : Type 0} (inner : I → Chain) (bytes : B → ByteCodec) (chain : ShardedChain B I) → is_plain (sharded_meaning inner bytes chain) ≡ false
makes_shards inner bytes chain = shards_between (codecs_of (arrays_of chain)) (shard_chain inner (meaning_of bytes) (shard_of chain)) (map bytes (bytes_of chain)) refl

-- so one that makes none stands around no shard
pub plain_function : {B : Type 0} (meaning : B → ByteCodec) (chain : ArrayChain B) → is_plain (array_meaning meaning chain) ≡ true → IsTrue (array_function chain)
plain_function meaning (Plain chain) plain = refl
plain_function meaning (Sharded chain) plain = absurd (true≢false (sym plain ∙ makes_shards (meaning_of meaning) meaning chain))
plain_function meaning (Nested chain) plain = absurd (true≢false (sym plain ∙ makes_shards (sharded_meaning (meaning_of meaning) meaning) meaning chain))
