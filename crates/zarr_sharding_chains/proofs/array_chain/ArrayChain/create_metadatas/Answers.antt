use Rattle.std.proofs.Common.{◌≡◌, map, subst, sym, true, Some}
use Rattle.std.specs.Prelude.{IfOk}
use Rattle.std.proofs.lemmas.Result.{IfOk-weaker}
use Rattle.zarr_grids_metadata.specs.Views.{point_of}
use Rattle.zarr_codecs_metadata.specs.Allowed.{is_allowed}
use Rattle.zarr_codecs_metadata.specs.Chains.{allowed_chain}
use Rattle.zarr_codecs_chains.specs.Views.{meaning_of}
use Rattle.zarr_sharding_metadata.specs.Metadata.{array_chain_of}
use Rattle.zarr_sharding_metadata.specs.Nesting.{sharded_chain_of}
use Rattle.zarr_sharding_chains.specs.ArrayChains.{array_meaning}
use Rattle.zarr_sharding_chains.specs.Views.{sharded_meaning}
use Rattle.zarr_sharding_chains.proofs.ShardsNest.{nested_array, plain_array, sharded_array}
use Rattle.zarr_sharding_chains.proofs.array_chain.ArrayChain.create_metadatas.Goals as goal

pub returns-in-Plain-clause-made_again : goal.returns-in-Plain-clause-made_again
returns-in-Plain-clause-made_again g c = λ allowed.
    let b = g.B.BytesToBytesCodecTraits in
    let chain = meaning_of b.meaning c.in-Plain.chain in
    let inside = subst (λ s. is_allowed (array_meaning b.meaning s) ≡ true) c.in-Plain.is allowed in
    let made = IfOk-weaker c.create_metadatas.result (λ codecs. allowed_chain b.reads (map point_of codecs.items) ≡ Some chain) (λ codecs. array_chain_of b.reads (map point_of codecs.items) ≡ Some chain)
    (λ codecs said. plain_array b.reads (map point_of codecs.items) chain said) (c.create_metadatas.ensures.made_again inside) in
    subst (λ s. IfOk c.create_metadatas.result (λ codecs. array_chain_of b.reads (map point_of codecs.items) ≡ Some (array_meaning b.meaning s))) (sym c.in-Plain.is) made

pub returns-in-Sharded-clause-made_again : goal.returns-in-Sharded-clause-made_again
returns-in-Sharded-clause-made_again g c = λ allowed.
    let b = g.B.BytesToBytesCodecTraits in
    let chain = sharded_meaning (meaning_of b.meaning) b.meaning c.in-Sharded.chain in
    let inside = subst (λ s. is_allowed (array_meaning b.meaning s) ≡ true) c.in-Sharded.is allowed in
    let made = IfOk-weaker c.codec_metadatas.result (λ codecs. sharded_chain_of b.reads (allowed_chain b.reads) (map point_of codecs.items) ≡ Some chain) (λ codecs. array_chain_of b.reads (map point_of codecs.items) ≡ Some chain)
    (λ codecs said. sharded_array b.reads (map point_of codecs.items) chain said) (c.codec_metadatas.ensures.made_again inside) in
    subst (λ s. IfOk c.codec_metadatas.result (λ codecs. array_chain_of b.reads (map point_of codecs.items) ≡ Some (array_meaning b.meaning s))) (sym c.in-Sharded.is) made

pub returns-in-Nested-clause-made_again : goal.returns-in-Nested-clause-made_again
returns-in-Nested-clause-made_again g c = λ allowed.
    let b = g.B.BytesToBytesCodecTraits in
    let chain = sharded_meaning (sharded_meaning (meaning_of b.meaning) b.meaning) b.meaning c.in-Nested.chain in
    let inside = subst (λ s. is_allowed (array_meaning b.meaning s) ≡ true) c.in-Nested.is allowed in
    let made = IfOk-weaker c.codec_metadatas-in-Nested.result (λ codecs. sharded_chain_of b.reads (sharded_chain_of b.reads (allowed_chain b.reads)) (map point_of codecs.items) ≡ Some chain) (λ codecs. array_chain_of b.reads (map point_of codecs.items) ≡ Some chain)
    (λ codecs said. nested_array b.reads (map point_of codecs.items) chain said) (c.codec_metadatas-in-Nested.ensures.made_again inside) in
    subst (λ s. IfOk c.codec_metadatas-in-Nested.result (λ codecs. array_chain_of b.reads (map point_of codecs.items) ≡ Some (array_meaning b.meaning s))) (sym c.in-Nested.is) made
