use Rattle.std.proofs.Common.{◌≡◌, ◌∙◌, List, map, ap, sym, subst, true, false, inl, inr, Some, None}
use Rattle.zarr_grids_metadata.specs.Views.{point_of}
use Rattle.zarr_grids_metadata.specs.declared.metadata.MetadataV3.{MetadataV3}
use Rattle.zarr_codecs_metadata.specs.Chains.{allowed_chain}
use Rattle.zarr_codecs_configurations.specs.Views.{vlen_points}
use Rattle.zarr_codecs_chains.specs.Names.{NamesChain}
use Rattle.zarr_codecs_chains.specs.Refusals.{RefusesChain}
use Rattle.zarr_codecs_chains.specs.Views.{meaning_of}
use Rattle.zarr_codecs_chains.proofs.Refused.{vlen_misplaced}
use Rattle.zarr_codecs_chains.proofs.Configured.{vlen_made, vlen_no_index, vlen_no_content}
use Rattle.zarr_codecs_chains.proofs.vlen.read_allowed_vlen.Goals as goal

pub returns-in-Err-clause-err : goal.returns-in-Err-clause-err
returns-in-Err-clause-err g c = λ other.
    let b = g.B.BytesToBytesCodecTraits in
    let v = vlen_points c.args.configuration.now in
    let one : allowed_chain b.reads v.index ≡ None = ap (λ (ms : List MetadataV3). allowed_chain b.reads (map point_of ms)) (sym c.as_slice-index.ensures.value) ∙ c.in-Err.ensures.err other in
    vlen_no_index b.reads v one

pub returns-in-Err-read_allowed-clause-err : goal.returns-in-Err-read_allowed-clause-err
returns-in-Err-read_allowed-clause-err g c = λ other.
    let b = g.B.BytesToBytesCodecTraits in
    let v = vlen_points c.args.configuration.now in
    let one : allowed_chain b.reads v.index ≡ Some (meaning_of b.meaning c.in-Ok.chain) = ap (λ (ms : List MetadataV3). allowed_chain b.reads (map point_of ms)) (sym c.as_slice-index.ensures.value) ∙ c.in-Ok.ensures.ok in
    let two : allowed_chain b.reads v.content ≡ None = ap (λ (ms : List MetadataV3). allowed_chain b.reads (map point_of ms)) (sym c.as_slice-content.ensures.value) ∙ c.in-Err-read_allowed.ensures.err other in
    vlen_no_content b.reads v (meaning_of b.meaning c.in-Ok.chain) one two

pub returns-then-has_no_array_codec-clause-ok : goal.returns-then-has_no_array_codec-clause-ok
returns-then-has_no_array_codec-clause-ok g c =
    let b = g.B.BytesToBytesCodecTraits in
    let v = vlen_points c.args.configuration.now in
    let i = meaning_of b.meaning c.in-Ok.chain in
    let d = meaning_of b.meaning c.in-Ok-read_allowed.chain in
    let one : allowed_chain b.reads v.index ≡ Some i = ap (λ (ms : List MetadataV3). allowed_chain b.reads (map point_of ms)) (sym c.as_slice-index.ensures.value) ∙ c.in-Ok.ensures.ok in
    let two : allowed_chain b.reads v.content ≡ Some d = ap (λ (ms : List MetadataV3). allowed_chain b.reads (map point_of ms)) (sym c.as_slice-content.ensures.value) ∙ c.in-Ok-read_allowed.ensures.ok in
    vlen_made b.reads v i d true one two (sym c.has_no_array_codec.ensures ∙ c.if-has_no_array_codec.true)

pub returns-then-has_no_array_codec-clause-index_names : goal.returns-then-has_no_array_codec-clause-index_names
returns-then-has_no_array_codec-clause-index_names g c =
    subst (λ (ms : List MetadataV3). NamesChain c.in-Ok.chain (map point_of ms)) c.as_slice-index.ensures.value c.in-Ok.ensures.names

pub returns-then-has_no_array_codec-clause-data_names : goal.returns-then-has_no_array_codec-clause-data_names
returns-then-has_no_array_codec-clause-data_names g c =
    subst (λ (ms : List MetadataV3). NamesChain c.in-Ok-read_allowed.chain (map point_of ms)) c.as_slice-content.ensures.value c.in-Ok-read_allowed.ensures.names

pub returns-else-has_no_array_codec-clause-err : goal.returns-else-has_no_array_codec-clause-err
returns-else-has_no_array_codec-clause-err g c = λ other.
    let b = g.B.BytesToBytesCodecTraits in
    let v = vlen_points c.args.configuration.now in
    let i = meaning_of b.meaning c.in-Ok.chain in
    let d = meaning_of b.meaning c.in-Ok-read_allowed.chain in
    let one : allowed_chain b.reads v.index ≡ Some i = ap (λ (ms : List MetadataV3). allowed_chain b.reads (map point_of ms)) (sym c.as_slice-index.ensures.value) ∙ c.in-Ok.ensures.ok in
    let two : allowed_chain b.reads v.content ≡ Some d = ap (λ (ms : List MetadataV3). allowed_chain b.reads (map point_of ms)) (sym c.as_slice-content.ensures.value) ∙ c.in-Ok-read_allowed.ensures.ok in
    vlen_made b.reads v i d false one two (sym c.has_no_array_codec.ensures ∙ c.if-has_no_array_codec.false)

pub returns-in-Err-clause-refused : goal.returns-in-Err-clause-refused
returns-in-Err-clause-refused g c = λ other.
    let b = g.B.BytesToBytesCodecTraits in
    inl (subst (λ (ms : List MetadataV3). RefusesChain b.reads (map point_of ms) c.in-Err.error) c.as_slice-index.ensures.value (c.in-Err.ensures.refused other))

pub returns-in-Err-read_allowed-clause-refused : goal.returns-in-Err-read_allowed-clause-refused
returns-in-Err-read_allowed-clause-refused g c = λ other.
    let b = g.B.BytesToBytesCodecTraits in
    inr (inl (subst (λ (ms : List MetadataV3). RefusesChain b.reads (map point_of ms) c.in-Err-read_allowed.error) c.as_slice-content.ensures.value (c.in-Err-read_allowed.ensures.refused other)))

pub returns-else-has_no_array_codec-clause-refused : goal.returns-else-has_no_array_codec-clause-refused
returns-else-has_no_array_codec-clause-refused g c = λ other.
    let b = g.B.BytesToBytesCodecTraits in
    let v = vlen_points c.args.configuration.now in
    let d = meaning_of b.meaning c.in-Ok-read_allowed.chain in
    let two : allowed_chain b.reads v.content ≡ Some d = ap (λ (ms : List MetadataV3). allowed_chain b.reads (map point_of ms)) (sym c.as_slice-content.ensures.value) ∙ c.in-Ok-read_allowed.ensures.ok in
    vlen_misplaced b.reads v d two (sym c.has_no_array_codec.ensures ∙ c.if-has_no_array_codec.false)
