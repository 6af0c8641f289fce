-- What the chain of an array stands for.
use Rattle.std.specs.Prelude.{◌≡◌, List, [], ◌∷◌, Bool, IsTrue, refl, true}
use Rattle.zarr_codecs_meaning.specs.Chains.{ByteCodec, Chain}
use Rattle.zarr_codecs_meaning.specs.Fits.{is_plain}
use Rattle.zarr_codecs_meaning.specs.Laws.{IsLawful, IsLawfulChain}
use Rattle.zarr_codecs_options.specs.declared.subchunk_write_order.SubchunkWriteOrder.{SubchunkWriteOrder}
use Rattle.zarr_codecs_chains.specs.Views.{lawful_of, meaning_of}
use Rattle.zarr_sharding_codec.specs.Views.{inner_of, order_of}
use Rattle.zarr_sharding_chains.specs.Views.{HaveSameCodecs, shard_of, sharded_function, sharded_lawful, sharded_meaning, sharded_plain}
use Rattle.zarr_sharding_chains.specs.declared.array_chain.ArrayChain.{ArrayChain}
use Rattle.zarr_sharding_chains.specs.declared.array_chain.ArrayChain.TheVariants.{Plain, Sharded, Nested}

-- the chain
abbrev pub array_meaning : {B : Type 0} → (B → ByteCodec) → ArrayChain B → Chain
array_meaning bytes (Plain chain) = meaning_of bytes chain
array_meaning bytes (Sharded chain) = sharded_meaning (meaning_of bytes) bytes chain
array_meaning bytes (Nested chain) = sharded_meaning (sharded_meaning (meaning_of bytes) bytes) bytes chain

-- whether what the chain makes of elements depends on these alone
abbrev pub array_function : {B : Type 0} → ArrayChain B → Bool
array_function (Plain chain) = true
array_function (Sharded chain) = sharded_function (λ inner. true) chain
array_function (Nested chain) = sharded_function (sharded_function (λ inner. true)) chain

-- the chain is lawful, where the caller's codecs are
pub array_lawful : {B : Type 0} (meaning : B → ByteCodec) → ((codec : B) → IsLawful (meaning codec)) → (chain : ArrayChain B) → IsLawfulChain (array_meaning meaning chain)
array_lawful meaning each (Plain chain) = lawful_of meaning each chain
array_lawful meaning each (Sharded chain) = sharded_lawful (meaning_of meaning) (lawful_of meaning each) meaning each chain
array_lawful meaning each (Nested chain) = sharded_lawful (sharded_meaning (meaning_of meaning) meaning) (sharded_lawful (meaning_of meaning) (lawful_of meaning each) meaning each) meaning each chain

-- where the chain makes no shard, what it makes of elements depends on these alone
pub array_plain : {B : Type 0} (meaning : B → ByteCodec) (chain : ArrayChain B) → is_plain (array_meaning meaning chain) ≡ true → IsTrue (array_function chain)
array_plain meaning (Plain chain) is = refl
array_plain meaning (Sharded chain) is = sharded_plain (meaning_of meaning) (λ inner. true) meaning chain is
array_plain meaning (Nested chain) is = sharded_plain (sharded_meaning (meaning_of meaning) meaning) (sharded_function (λ inner. true)) meaning chain is

-- the orders in which the subchunks of its shards are written, from the outermost inwards
abbrev pub array_orders : {B : Type 0} → ArrayChain B → List SubchunkWriteOrder
array_orders (Plain chain) = []
array_orders (Sharded chain) = order_of (shard_of chain) ∷ []
array_orders (Nested chain) = order_of (shard_of chain) ∷ (order_of (shard_of (inner_of (shard_of chain))) ∷ [])

-- two chains have the same codecs, each under the name that it keeps: of their shards the orders of writing alone may differ
abbrev pub array_same_codecs : {B : Type 0} → ArrayChain B → ArrayChain B → Type 0
array_same_codecs (Plain chain) (Plain other) = other ≡ chain
array_same_codecs (Sharded chain) (Sharded other) = HaveSameCodecs (λ inner same. same ≡ inner) chain other
array_same_codecs (Nested chain) (Nested other) = HaveSameCodecs (HaveSameCodecs (λ inner same. same ≡ inner)) chain other
array_same_codecs chain other = ⊥
