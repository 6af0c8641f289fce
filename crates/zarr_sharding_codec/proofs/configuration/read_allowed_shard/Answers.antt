use Rattle.std.proofs.Common.{◌≡◌, ◌∙◌, List, map, ap, sym, subst, inl, inr, Some, None}
use Rattle.zarr_grids_metadata.specs.Views.{point_of}
use Rattle.zarr_grids_metadata.specs.declared.metadata.MetadataV3.{MetadataV3}
use Rattle.zarr_codecs_meaning.specs.Chains.Chain.{sharded}
use Rattle.zarr_sharding_configurations.specs.Views.{shard_points}
use Rattle.zarr_sharding_codec.proofs.Configured.{no_inner, shard_made}
use Rattle.zarr_sharding_codec.proofs.configuration.read_allowed_shard.Goals as goal

pub returns-in-Err-clause-err : goal.returns-in-Err-clause-err
returns-in-Err-clause-err g c = λ other.
    let reads = g.I.ChainOfMetadata.reads in
    no_inner reads g.X.IndexChainOfMetadata.reads (shard_points c.args.configuration.now) (ap (λ (ms : List MetadataV3). reads (map point_of ms)) (sym c.as_slice-inner.ensures.value) ∙ c.in-Err.ensures.err other)

pub returns-in-Err-clause-refused : goal.returns-in-Err-clause-refused
returns-in-Err-clause-refused g c = λ other.
    inl (subst (λ (ms : List MetadataV3). g.I.ChainOfMetadata.refuses (map point_of ms) c.in-Err.error) c.as_slice-inner.ensures.value (c.in-Err.ensures.refused other))

pub returns-in-Err-read_index_metadata-clause-err : goal.returns-in-Err-read_index_metadata-clause-err
returns-in-Err-read_index_metadata-clause-err g c = λ other.
    let x = g.X.IndexChainOfMetadata in
    let reads = g.I.ChainOfMetadata.reads in
    let v = shard_points c.args.configuration.now in
    let inner = g.I.ArrayToBytesCodecTraits.meaning c.in-Ok.inner_codecs in
    let one : reads v.inner ≡ Some inner = ap (λ (ms : List MetadataV3). reads (map point_of ms)) (sym c.as_slice-inner.ensures.value) ∙ c.in-Ok.ensures.ok in
    let two : x.reads v.index ≡ None = ap (λ (ms : List MetadataV3). x.reads (map point_of ms)) (sym c.as_slice-index.ensures.value) ∙ c.in-Err-read_index_metadata.ensures.err other in
    shard_made reads x.reads v (Some inner) None one two

pub returns-in-Err-read_index_metadata-clause-refused : goal.returns-in-Err-read_index_metadata-clause-refused
returns-in-Err-read_index_metadata-clause-refused g c = λ other.
    let x = g.X.IndexChainOfMetadata in
    let reads = g.I.ChainOfMetadata.reads in
    let v = shard_points c.args.configuration.now in
    let inner = g.I.ArrayToBytesCodecTraits.meaning c.in-Ok.inner_codecs in
    let one : reads v.inner ≡ Some inner = ap (λ (ms : List MetadataV3). reads (map point_of ms)) (sym c.as_slice-inner.ensures.value) ∙ c.in-Ok.ensures.ok in
    inr (inner, one, subst (λ (ms : List MetadataV3). x.refuses (map point_of ms) c.in-Err-read_index_metadata.error) c.as_slice-index.ensures.value (c.in-Err-read_index_metadata.ensures.refused other))

pub returns-clause-ok : goal.returns-clause-ok
returns-clause-ok g c =
    let x = g.X.IndexChainOfMetadata in
    let reads = g.I.ChainOfMetadata.reads in
    let v = shard_points c.args.configuration.now in
    let inner = g.I.ArrayToBytesCodecTraits.meaning c.in-Ok.inner_codecs in
    let index = g.X.ArrayToBytesCodecTraits.meaning c.in-Ok-read_index_metadata.index_codecs in
    let one : reads v.inner ≡ Some inner = ap (λ (ms : List MetadataV3). reads (map point_of ms)) (sym c.as_slice-inner.ensures.value) ∙ c.in-Ok.ensures.ok in
    let two : x.reads v.index ≡ Some index = ap (λ (ms : List MetadataV3). x.reads (map point_of ms)) (sym c.as_slice-index.ensures.value) ∙ c.in-Ok-read_index_metadata.ensures.ok in
    shard_made reads x.reads v (Some inner) (Some index) one two
    ∙ (ap (λ shape. Some (sharded shape inner index v.location)) (sym c.in_ok-subchunk_shape.ensures) ∙ ap Some (sym c.new.ensures.meaning))

pub returns-clause-inner_names : goal.returns-clause-inner_names
returns-clause-inner_names g c =
    let names = g.I.ChainOfMetadata.names in
    let given = subst (λ (ms : List MetadataV3). names c.in-Ok.inner_codecs (map point_of ms)) c.as_slice-inner.ensures.value c.in-Ok.ensures.names in
    subst (λ codec. names codec (shard_points c.args.configuration.now).inner) (sym c.new.ensures.inner) given

pub returns-clause-index_names : goal.returns-clause-index_names
returns-clause-index_names g c =
    let names = g.X.IndexChainOfMetadata.names in
    let given = subst (λ (ms : List MetadataV3). names c.in-Ok-read_index_metadata.index_codecs (map point_of ms)) c.as_slice-index.ensures.value c.in-Ok-read_index_metadata.ensures.names in
    subst (λ codec. names codec (shard_points c.args.configuration.now).index) (sym c.new.ensures.index) given
