use Rattle.std.proofs.Common.{◌≡◌, ◌∙◌, List, map, ap, sym, subst, true, false, inl, inr, Some, None}
use Rattle.zarr_grids_metadata.specs.Views.{point_of}
use Rattle.zarr_grids_metadata.specs.declared.metadata.MetadataV3.{MetadataV3}
use Rattle.zarr_codecs_metadata.specs.Chains.{allowed_chain}
use Rattle.zarr_codecs_configurations.specs.Views.{optional_points}
use Rattle.zarr_codecs_chains.specs.Names.{NamesChain}
use Rattle.zarr_codecs_chains.specs.Refusals.{RefusesChain}
use Rattle.zarr_codecs_chains.specs.Views.{meaning_of}
use Rattle.zarr_codecs_chains.proofs.Refused.{optional_misplaced}
use Rattle.zarr_codecs_chains.proofs.Configured.{optional_made, optional_no_mask, optional_no_content}
use Rattle.zarr_codecs_chains.proofs.optional.read_allowed_optional.Goals as goal

pub returns-in-Err-clause-err : goal.returns-in-Err-clause-err
returns-in-Err-clause-err g c = λ other.
    let b = g.B.BytesToBytesCodecTraits in
    let v = optional_points c.args.configuration.now in
    let one : allowed_chain b.reads v.mask ≡ None = ap (λ (ms : List MetadataV3). allowed_chain b.reads (map point_of ms)) (sym c.as_slice-mask.ensures.value) ∙ c.in-Err.ensures.err other in
    optional_no_mask b.reads v one

pub returns-in-Err-read_allowed-clause-err : goal.returns-in-Err-read_allowed-clause-err
returns-in-Err-read_allowed-clause-err g c = λ other.
    let b = g.B.BytesToBytesCodecTraits in
    let v = optional_points c.args.configuration.now in
    let one : allowed_chain b.reads v.mask ≡ Some (meaning_of b.meaning c.in-Ok.chain) = ap (λ (ms : List MetadataV3). allowed_chain b.reads (map point_of ms)) (sym c.as_slice-mask.ensures.value) ∙ c.in-Ok.ensures.ok in
    let two : allowed_chain b.reads v.content ≡ None = ap (λ (ms : List MetadataV3). allowed_chain b.reads (map point_of ms)) (sym c.as_slice-content.ensures.value) ∙ c.in-Err-read_allowed.ensures.err other in
    optional_no_content b.reads v (meaning_of b.meaning c.in-Ok.chain) one two

pub returns-then-takes_each_shape-clause-ok : goal.returns-then-takes_each_shape-clause-ok
returns-then-takes_each_shape-clause-ok g c =
    let b = g.B.BytesToBytesCodecTraits in
    let v = optional_points c.args.configuration.now in
    let i = meaning_of b.meaning c.in-Ok.chain in
    let d = meaning_of b.meaning c.in-Ok-read_allowed.chain in
    let one : allowed_chain b.reads v.mask ≡ Some i = ap (λ (ms : List MetadataV3). allowed_chain b.reads (map point_of ms)) (sym c.as_slice-mask.ensures.value) ∙ c.in-Ok.ensures.ok in
    let two : allowed_chain b.reads v.content ≡ Some d = ap (λ (ms : List MetadataV3). allowed_chain b.reads (map point_of ms)) (sym c.as_slice-content.ensures.value) ∙ c.in-Ok-read_allowed.ensures.ok in
    optional_made b.reads v i d true one two (sym c.takes_each_shape.ensures ∙ c.if-takes_each_shape.true)

pub returns-then-takes_each_shape-clause-mask_names : goal.returns-then-takes_each_shape-clause-mask_names
returns-then-takes_each_shape-clause-mask_names g c =
    subst (λ (ms : List MetadataV3). NamesChain c.in-Ok.chain (map point_of ms)) c.as_slice-mask.ensures.value c.in-Ok.ensures.names

pub returns-then-takes_each_shape-clause-data_names : goal.returns-then-takes_each_shape-clause-data_names
returns-then-takes_each_shape-clause-data_names g c =
    subst (λ (ms : List MetadataV3). NamesChain c.in-Ok-read_allowed.chain (map point_of ms)) c.as_slice-content.ensures.value c.in-Ok-read_allowed.ensures.names

pub returns-else-takes_each_shape-clause-err : goal.returns-else-takes_each_shape-clause-err
returns-else-takes_each_shape-clause-err g c = λ other.
    let b = g.B.BytesToBytesCodecTraits in
    let v = optional_points c.args.configuration.now in
    let i = meaning_of b.meaning c.in-Ok.chain in
    let d = meaning_of b.meaning c.in-Ok-read_allowed.chain in
    let one : allowed_chain b.reads v.mask ≡ Some i = ap (λ (ms : List MetadataV3). allowed_chain b.reads (map point_of ms)) (sym c.as_slice-mask.ensures.value) ∙ c.in-Ok.ensures.ok in
    let two : allowed_chain b.reads v.content ≡ Some d = ap (λ (ms : List MetadataV3). allowed_chain b.reads (map point_of ms)) (sym c.as_slice-content.ensures.value) ∙ c.in-Ok-read_allowed.ensures.ok in
    optional_made b.reads v i d false one two (sym c.takes_each_shape.ensures ∙ c.if-takes_each_shape.false)

pub returns-in-Err-clause-refused : goal.returns-in-Err-clause-refused
returns-in-Err-clause-refused g c = λ other.
    let b = g.B.BytesToBytesCodecTraits in
    inl (subst (λ (ms : List MetadataV3). RefusesChain b.reads (map point_of ms) c.in-Err.error) c.as_slice-mask.ensures.value (c.in-Err.ensures.refused other))

pub returns-in-Err-read_allowed-clause-refused : goal.returns-in-Err-read_allowed-clause-refused
returns-in-Err-read_allowed-clause-refused g c = λ other.
    let b = g.B.BytesToBytesCodecTraits in
    inr (inl (subst (λ (ms : List MetadataV3). RefusesChain b.reads (map point_of ms) c.in-Err-read_allowed.error) c.as_slice-content.ensures.value (c.in-Err-read_allowed.ensures.refused other)))

pub returns-else-takes_each_shape-clause-refused : goal.returns-else-takes_each_shape-clause-refused
returns-else-takes_each_shape-clause-refused g c = λ other.
    let b = g.B.BytesToBytesCodecTraits in
    let v = optional_points c.args.configuration.now in
    let d = meaning_of b.meaning c.in-Ok-read_allowed.chain in
    let two : allowed_chain b.reads v.content ≡ Some d = ap (λ (ms : List MetadataV3). allowed_chain b.reads (map point_of ms)) (sym c.as_slice-content.ensures.value) ∙ c.in-Ok-read_allowed.ensures.ok in
    optional_misplaced b.reads v d two (sym c.takes_each_shape.ensures ∙ c.if-takes_each_shape.false)
