use Rattle.std.proofs.Common.{◌≡◌, ◌≢◌, ◌∙◌, Some, None, ap, sym, subst}
use Rattle.std.specs.Prelude.{IfOk, IfErr}
use Rattle.std.proofs.lemmas.Result.{IfErr-weaker}
use Rattle.zarr_grids_metadata.specs.Views.{point_view}
use Rattle.zarr_grids_metadata.specs.declared.error.PluginCreateError.TheVariants as plugin
use Rattle.zarr_codecs_array_to_array.specs.Refusals.{cause_of}
use Rattle.zarr_codecs_chains.specs.Refusals.{names_leaf}
use Rattle.zarr_codecs_chains.specs.Views.{codec_chain}
use Rattle.zarr_codecs_chains.proofs.ReadsBack.{named_packbits, not_packbits}
use Rattle.zarr_codecs_chains.proofs.Refused.{names_leaf_first, names_leaf_second, names_no_leaf, no_leaf}
use Rattle.zarr_codecs_chains.proofs.reading.read_leaf.Goals as goal

pub returns-then-names_packbits-clause-ok : goal.returns-then-names_packbits-clause-ok
returns-then-names_packbits-clause-ok g c =
    let said = named_packbits (point_view c.args.point) (sym c.names_packbits.ensures ∙ c.if-names_packbits.true) in
    subst (λ o. IfOk c.read_packbits.result (λ codec. o ≡ Some (codec_chain g.B.BytesToBytesCodecTraits.meaning codec))) (sym said) c.read_packbits.ensures.ok

pub returns-then-names_packbits-clause-err : goal.returns-then-names_packbits-clause-err
returns-then-names_packbits-clause-err g c =
    let said = named_packbits (point_view c.args.point) (sym c.names_packbits.ensures ∙ c.if-names_packbits.true) in
    subst (λ o. IfErr c.read_packbits.result (λ e. e ≢ plugin.Memory → o ≡ None)) (sym said) c.read_packbits.ensures.err

pub returns-then-names_packbits-clause-cause : goal.returns-then-names_packbits-clause-cause
returns-then-names_packbits-clause-cause g c =
    let name = (point_view c.args.point).name in
    let leaf = names_leaf_second name (sym c.names_packbits.ensures ∙ c.if-names_packbits.true) in
    IfErr-weaker c.read_packbits.result (λ e. e ≢ plugin.Memory → e ≡ plugin.MetadataInvalid) (λ e. e ≢ plugin.Memory → e ≡ cause_of (names_leaf name)) (λ e is. λ other. is other ∙ ap cause_of (sym leaf)) c.read_packbits.ensures.cause

pub returns-then-names_bytes-clause-ok : goal.returns-then-names_bytes-clause-ok
returns-then-names_bytes-clause-ok g c =
    let said = not_packbits (point_view c.args.point) (sym c.names_packbits.ensures ∙ c.if-names_packbits.false) in
    subst (λ o. IfOk c.read_bytes.result (λ codec. o ≡ Some (codec_chain g.B.BytesToBytesCodecTraits.meaning codec))) (sym said) c.read_bytes.ensures.ok

pub returns-then-names_bytes-clause-err : goal.returns-then-names_bytes-clause-err
returns-then-names_bytes-clause-err g c =
    let said = not_packbits (point_view c.args.point) (sym c.names_packbits.ensures ∙ c.if-names_packbits.false) in
    subst (λ o. IfErr c.read_bytes.result (λ e. e ≢ plugin.Memory → o ≡ None)) (sym said) c.read_bytes.ensures.err

pub returns-then-names_bytes-clause-cause : goal.returns-then-names_bytes-clause-cause
returns-then-names_bytes-clause-cause g c =
    let name = (point_view c.args.point).name in
    let leaf = names_leaf_first name (sym c.names_bytes.ensures ∙ c.if-names_bytes.true) in
    IfErr-weaker c.read_bytes.result (λ e. e ≢ plugin.Memory → e ≡ plugin.MetadataInvalid) (λ e. e ≢ plugin.Memory → e ≡ cause_of (names_leaf name)) (λ e is. λ other. is other ∙ ap cause_of (sym leaf)) c.read_bytes.ensures.cause

pub returns-clause-err : goal.returns-clause-err
returns-clause-err g c =
    let no_packbits = sym c.names_packbits.ensures ∙ c.if-names_packbits.false in
    let no_bytes = sym c.names_bytes.ensures ∙ c.if-names_bytes.false in
    λ other. no_leaf (point_view c.args.point) no_bytes no_packbits

pub returns-clause-cause : goal.returns-clause-cause
returns-clause-cause g c =
    let name = (point_view c.args.point).name in
    let no_packbits = sym c.names_packbits.ensures ∙ c.if-names_packbits.false in
    let no_bytes = sym c.names_bytes.ensures ∙ c.if-names_bytes.false in
    λ other. ap cause_of (sym (names_no_leaf name no_bytes no_packbits))
