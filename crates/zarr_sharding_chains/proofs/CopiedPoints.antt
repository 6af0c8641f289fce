-- Copies of chains around shards are written as what they are copies of.
use Rattle.std.proofs.Common.{◌≡◌, ◌∙◌, List, [], ◌∷◌, map, ap, ap₂, refl, subst, sym}
use Rattle.zarr_grids_metadata.specs.ExtensionPoints.{ExtensionPoint}
use Rattle.zarr_codecs_meaning.specs.Chains.{ArrayCodec, ByteCodec, Chain}
use Rattle.zarr_codecs_meaning.specs.Chains.Chain.{bytes, packbits, vlen, optional, after_array_codec, then_bytes, sharded}
use Rattle.zarr_codecs_around.specs.Copies.{WritesAlike}
use Rattle.zarr_codecs_around.specs.Views.{codecs_of, with_array_codecs, with_codecs}
use Rattle.zarr_codecs_chains.specs.Views.{meaning_of, points_of}
use Rattle.zarr_codecs_chains.specs.declared.chain.CodecChain.{CodecChain}
use Rattle.zarr_sharding_codec.specs.Views.{inner_of, place_of_index, shard_chain, subchunk_of}
use Rattle.zarr_sharding_chains.specs.Metadata.{IsArrayCopy, sharded_points, sharding_point}
use Rattle.zarr_sharding_chains.specs.Views.{IsShardedCopy, arrays_of, bytes_of, others_meaning, shard_of, sharded_meaning}
use Rattle.zarr_sharding_chains.specs.declared.array_chain.ArrayChain.{ArrayChain}
use Rattle.zarr_sharding_chains.specs.declared.array_chain.ArrayChain.TheVariants.{Nested, Sharded}
use Rattle.zarr_sharding_chains.specs.declared.sharded_chain.ShardedChain.{ShardedChain}

-- what is kept of the codecs of subchunks that are no shards
abbrev pub PlainCopy : {B : Type 0} → (B → ByteCodec) → CodecChain B → CodecChain B → Type 0
PlainCopy {B} meaning codec copy = (described : B → ExtensionPoint) → WritesAlike meaning described → points_of described copy ≡ points_of described codec

-- the outermost shard of a chain, or its codec between arrays and bytes
abbrev shard_in : Chain → Chain
shard_in (bytes order) = bytes order
shard_in (packbits padding first last) = packbits padding first last
shard_in (vlen index «data» width location) = vlen index «data» width location
shard_in (optional mask values) = optional mask values
shard_in (after_array_codec codec chain) = shard_in chain
shard_in (then_bytes chain codec) = shard_in chain
shard_in (sharded subchunk inner index location) = sharded subchunk inner index location

in_before : (codecs : List ArrayCodec) (chain : Chain) → shard_in (with_array_codecs codecs chain) ≡ shard_in chain
in_before [] chain = refl
in_before (codec ∷ codecs) chain = in_before codecs chain

in_after : (chain : Chain) (codecs : List ByteCodec) → shard_in (with_codecs chain codecs) ≡ shard_in chain
in_after chain [] = refl
in_after chain (codec ∷ codecs) = in_after (then_bytes chain codec) codecs

shard_told : {B I : Type 0} (inner : I → Chain) (meaning : B → ByteCodec) (chain : ShardedChain B I) → shard_in (sharded_meaning inner meaning chain) ≡ shard_chain inner (meaning_of meaning) (shard_of chain)
shard_told inner meaning chain =
    in_before (codecs_of (arrays_of chain)) (others_meaning inner meaning chain) ∙ in_after (shard_chain inner (meaning_of meaning) (shard_of chain)) (map meaning (bytes_of chain))

-- chains that do the same have shards that do the same
pub same_shards : {B I : Type 0} (inner : I → Chain) (meaning : B → ByteCodec) (chain copy : ShardedChain B I) → sharded_meaning inner meaning copy ≡ sharded_meaning inner meaning chain
    → shard_chain inner (meaning_of meaning) (shard_of copy) ≡ shard_chain inner (meaning_of meaning) (shard_of chain)
same_shards inner meaning chain copy same = sym (shard_told inner meaning copy) ∙ (ap shard_in same ∙ shard_told inner meaning chain)

-- a copy of a chain around a shard is written alike where the codecs of its subchunks are
pub sharded_alike : {B I : Type 0} (inner : I → Chain) (kept : I → I → Type 0) (points : I → List ExtensionPoint) (meaning : B → ByteCodec) (described : B → ExtensionPoint) (chain copy : ShardedChain B I) → WritesAlike meaning described
    → sharded_meaning inner meaning copy ≡ sharded_meaning inner meaning chain → IsShardedCopy kept meaning chain copy → points (inner_of (shard_of copy)) ≡ points (inner_of (shard_of chain)) → sharded_points points described copy ≡ sharded_points points described chain
sharded_alike inner kept points meaning described chain copy alike same copied inside =
    let shards = same_shards inner meaning chain copy same in
    let subchunk : subchunk_of (shard_of copy) ≡ subchunk_of (shard_of chain) = cc in
    let place : place_of_index (shard_of copy) ≡ place_of_index (shard_of chain) = cc in
    let index = copied.index described alike in
    let point : sharding_point points described (shard_of copy) ≡ sharding_point points described (shard_of chain) = cc in
    let others = copied.others described alike in
    let arrays = copied.arrays in cc

-- the copy of a chain with one shard is one
pub sharded_copy : {B : Type 0} (meaning : B → ByteCodec) (whole : ArrayChain B) (chain copy : ShardedChain B (CodecChain B)) → whole ≡ Sharded chain → sharded_meaning (meaning_of meaning) meaning copy ≡ sharded_meaning (meaning_of meaning) meaning chain
    → IsShardedCopy (PlainCopy meaning) meaning chain copy → IsArrayCopy meaning whole (Sharded copy)
sharded_copy {B} meaning whole chain copy is same copied =
    subst (λ (from : ArrayChain B). IsArrayCopy meaning from (Sharded copy)) (sym is) (record {
      written = λ described alike. sharded_alike (meaning_of meaning) (PlainCopy meaning) (points_of described) meaning described chain copy alike same copied (copied.subchunks described alike);
      orders = ap (λ order. order ∷ []) copied.order;
    })

-- the copy of a chain with a shard whose subchunks are shards is one
pub nested_copy : {B : Type 0} (meaning : B → ByteCodec) (whole : ArrayChain B) (chain copy : ShardedChain B (ShardedChain B (CodecChain B))) → whole ≡ Nested chain
    → sharded_meaning (sharded_meaning (meaning_of meaning) meaning) meaning copy ≡ sharded_meaning (sharded_meaning (meaning_of meaning) meaning) meaning chain
    → IsShardedCopy (λ one other. IsShardedCopy (PlainCopy meaning) meaning one other) meaning chain copy → IsArrayCopy meaning whole (Nested copy)
nested_copy {B} meaning whole chain copy is same copied =
    let plain = meaning_of meaning in
    let middle = sharded_meaning plain meaning in
    let shards = same_shards middle meaning chain copy same in
    let inside : middle (inner_of (shard_of copy)) ≡ middle (inner_of (shard_of chain)) = cc in
    let inner = inner_of (shard_of chain) in
    let inner_copy = inner_of (shard_of copy) in
    subst (λ (from : ArrayChain B). IsArrayCopy meaning from (Nested copy)) (sym is) (record {
      written = λ described alike. sharded_alike middle (λ one other. IsShardedCopy (PlainCopy meaning) meaning one other) (sharded_points (points_of described) described) meaning described chain copy alike same copied
          (sharded_alike plain (PlainCopy meaning) (points_of described) meaning described inner inner_copy alike inside copied.subchunks (copied.subchunks.subchunks described alike));
      orders = ap₂ (λ one other. one ∷ (other ∷ [])) copied.order copied.subchunks.order;
    })
