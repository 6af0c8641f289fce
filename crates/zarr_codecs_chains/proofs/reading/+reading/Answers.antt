use Rattle.std.proofs.Common.{rules, ◌≡◌, ◌≢◌, ◌∙◌, ◌+◌, ◌*◌, ◌<◌, ◌≤◌, List, [], length, drop, map, ap, refl, sym, subst, arith, Some, None}
use Rattle.std.specs.Prelude.{IfOk, IfErr}
use Rattle.zarr_grids_metadata.specs.ExtensionPoints.{configuration_members}
use Rattle.zarr_grids_metadata.specs.Views.{point_view}
use Rattle.zarr_grids_metadata.specs.declared.error.PluginCreateError.TheVariants.{Memory}
use Rattle.zarr_grids_metadata.specs.declared.extension_point.ExtensionPoint as lent
use Rattle.zarr_codecs_metadata.specs.Chains.{array_to_bytes_in, chain_of, point_depth}
use Rattle.zarr_codecs_array_to_array.specs.declared.codec.ArrayToArrayCodec.{ArrayToArrayCodec}
use Rattle.zarr_codecs_configurations.specs.Views.{lent_optional_points, lent_vlen_points}
use Rattle.zarr_codecs_chains.specs.Names.{ListNames, NameAll, Names, NamesChain}
use Rattle.zarr_codecs_chains.specs.Views.{bytes_meaning, codec_chain, meaning_of, optional_chain, vlen_chain}
use Rattle.zarr_codecs_chains.proofs.Names.{names_split}
use Rattle.zarr_codecs_chains.proofs.Nested.{first_less, optional_done, optional_less, optional_lists, optional_none, points_depth, rest_less, vlen_done, vlen_less, vlen_lists, vlen_none}
use Rattle.zarr_codecs_chains.specs.Reading.{leaf_in}
use Rattle.zarr_codecs_chains.specs.Refusals.{RefusedChain, RefusedCodec, names_leaf}
use Rattle.zarr_codecs_array_to_array.specs.Refusals.{cause_of}
use Rattle.std.proofs.lemmas.Result.{IfErr-weaker}
use Rattle.zarr_codecs_chains.proofs.Refused.{both_causes, first_refused, leaf_refused, misconfigured, misconfigured_none, nothing_refused, optional_no_content, optional_no_mask, optional_unconfigured, others_refused, rest_begins, rest_refused, vlen_no_content, vlen_no_index, vlen_unconfigured}
use Rattle.zarr_codecs_chains.proofs.ReadsBack.{bytes_split, chain_split, said_leaf, said_optional, said_vlen}
use Rattle.zarr_codecs_chains.proofs.reading.+reading.Goals as goal

pub read_chain-read_bytes_chain-requires : goal.read_chain-read_bytes_chain-requires
read_chain-read_bytes_chain-requires g t c =
    let less : points_depth (map point_view c.rest_after.result.now) ≤ points_depth (map point_view c.args.codecs.now) = rest_less c.args.codecs.now c.rest_after.result.now (length c.as_slice.result.now) c.rest_after.ensures in
    let fact : 4 * points_depth (map point_view c.rest_after.result.now) + 2 < 4 * points_depth (map point_view c.args.codecs.now) + 3 = omega (arith, less) in
    search (rules, fact)

pub read_chain-returns-in-Ok-read_bytes_chain-clause-ok : goal.read_chain-returns-in-Ok-read_bytes_chain-clause-ok
read_chain-returns-in-Ok-read_bytes_chain-clause-ok g t c =
    let b = g.B.BytesToBytesCodecTraits in
    let arrays = c.in-Ok.array_to_array.items in
    let rest = c.rest_after.ensures ∙ ap (λ (xs : List ArrayToArrayCodec). drop (length xs) c.args.codecs.now) c.as_slice.ensures.value in
    chain_split b.reads c.args.codecs.now c.rest_after.result.now arrays (Some (bytes_meaning b.meaning c.in-Ok-read_bytes_chain.others)) c.in-Ok.ensures.first rest c.in-Ok-read_bytes_chain.ensures.ok

pub read_chain-returns-in-Ok-read_bytes_chain-clause-names : goal.read_chain-returns-in-Ok-read_bytes_chain-clause-names
read_chain-returns-in-Ok-read_bytes_chain-clause-names g t c =
    let rest = c.rest_after.ensures ∙ ap (λ (xs : List ArrayToArrayCodec). drop (length xs) c.args.codecs.now) c.as_slice.ensures.value in
    names_split c.in-Ok.array_to_array.items (Names c.in-Ok-read_bytes_chain.others.array_to_bytes) c.args.codecs.now c.rest_after.result.now c.in-Ok.ensures.names rest c.in-Ok-read_bytes_chain.ensures.names

pub read_chain-returns-in-Err-clause-err : goal.read_chain-returns-in-Err-clause-err
read_chain-returns-in-Err-clause-err g t c = λ other. misconfigured_none g.B.BytesToBytesCodecTraits.reads (map point_view c.args.codecs.now) (c.in-Err.ensures.refused other)

pub read_chain-returns-in-Err-clause-refused : goal.read_chain-returns-in-Err-clause-refused
read_chain-returns-in-Err-clause-refused g t c = λ other.
    let reads = g.B.BytesToBytesCodecTraits.reads in
    let points = map point_view c.args.codecs.now in
    subst (RefusedChain reads points) (sym (c.in-Err.ensures.cause other)) (misconfigured reads points (c.in-Err.ensures.refused other))

pub read_chain-returns-in-Err-read_bytes_chain-clause-refused : goal.read_chain-returns-in-Err-read_bytes_chain-clause-refused
read_chain-returns-in-Err-read_bytes_chain-clause-refused g t c = λ other.
    let reads = g.B.BytesToBytesCodecTraits.reads in
    let codecs = c.args.codecs.now in
    let arrays = c.in-Ok.array_to_array.items in
    let rest = c.rest_after.ensures ∙ ap (λ (xs : List ArrayToArrayCodec). drop (length xs) codecs) c.as_slice.ensures.value in
    let begins = rest_begins codecs c.rest_after.result.now arrays c.in-Ok.ensures.first rest c.in-Ok.ensures.all in
    rest_refused reads codecs c.rest_after.result.now arrays c.in-Err-read_bytes_chain.error c.in-Ok.ensures.first rest (c.in-Err-read_bytes_chain.ensures.refused begins other)

pub read_chain-returns-in-Err-read_bytes_chain-clause-err : goal.read_chain-returns-in-Err-read_bytes_chain-clause-err
read_chain-returns-in-Err-read_bytes_chain-clause-err g t c = λ other.
    let b = g.B.BytesToBytesCodecTraits in
    let arrays = c.in-Ok.array_to_array.items in
    let rest = c.rest_after.ensures ∙ ap (λ (xs : List ArrayToArrayCodec). drop (length xs) c.args.codecs.now) c.as_slice.ensures.value in
    chain_split b.reads c.args.codecs.now c.rest_after.result.now arrays None c.in-Ok.ensures.first rest (c.in-Err-read_bytes_chain.ensures.err other)

pub read_bytes_chain-read_codec-requires : goal.read_bytes_chain-read_codec-requires
read_bytes_chain-read_codec-requires g t c =
    let less : point_depth (point_view c.in-Some.first.now) ≤ points_depth (map point_view c.args.codecs.now) = first_less c.args.codecs.now c.in-Some.others.now c.in-Some.first.now c.in-Some.ensures.cases.0 in
    let fact : 4 * point_depth (point_view c.in-Some.first.now) + 1 < 4 * points_depth (map point_view c.args.codecs.now) + 2 = omega (arith, less) in
    search (rules, fact)

pub read_bytes_chain-returns-in-Ok-read_codecs-clause-ok : goal.read_bytes_chain-returns-in-Ok-read_codecs-clause-ok
read_bytes_chain-returns-in-Ok-read_codecs-clause-ok g t c =
    let b = g.B.BytesToBytesCodecTraits in
    bytes_split b.reads b.meaning c.args.codecs.now c.in-Some.others.now c.in-Some.first.now (codec_chain b.meaning c.in-Ok.codec) (Some (map b.meaning c.in-Ok-read_codecs.bytes_to_bytes.items)) c.in-Some.ensures.cases.0 c.in-Ok.ensures.ok c.in-Ok-read_codecs.ensures.ok

pub read_bytes_chain-returns-in-Ok-read_codecs-clause-names : goal.read_bytes_chain-returns-in-Ok-read_codecs-clause-names
read_bytes_chain-returns-in-Ok-read_codecs-clause-names g t c = subst (λ (ps : List lent.ExtensionPoint). NameAll [] (Names c.in-Ok.codec) (map point_view ps)) (sym c.in-Some.ensures.cases.0) c.in-Ok.ensures.names

pub read_bytes_chain-returns-in-Err-read_codecs-clause-err : goal.read_bytes_chain-returns-in-Err-read_codecs-clause-err
read_bytes_chain-returns-in-Err-read_codecs-clause-err g t c = λ other.
    let b = g.B.BytesToBytesCodecTraits in
    bytes_split b.reads b.meaning c.args.codecs.now c.in-Some.others.now c.in-Some.first.now (codec_chain b.meaning c.in-Ok.codec) None c.in-Some.ensures.cases.0 c.in-Ok.ensures.ok (c.in-Err-read_codecs.ensures.err other)

pub read_bytes_chain-returns-in_default-clause-refused : goal.read_bytes_chain-returns-in_default-clause-refused
read_bytes_chain-returns-in_default-clause-refused g t c = λ begins. λ other. nothing_refused g.B.BytesToBytesCodecTraits.reads c.args.codecs.now c.in_default.ensures.cases

pub read_bytes_chain-returns-in-Err-clause-refused : goal.read_bytes_chain-returns-in-Err-clause-refused
read_bytes_chain-returns-in-Err-clause-refused g t c = λ begins. λ other.
    let reads = g.B.BytesToBytesCodecTraits.reads in
    let first = c.in-Some.first.now in
    let others = c.in-Some.others.now in
    first_refused reads c.args.codecs.now others first c.in-Err.error c.in-Some.ensures.cases.0 begins (c.in-Err.ensures.refused other)

pub read_bytes_chain-returns-in-Err-read_codecs-clause-refused : goal.read_bytes_chain-returns-in-Err-read_codecs-clause-refused
read_bytes_chain-returns-in-Err-read_codecs-clause-refused g t c = λ begins. λ other.
    let b = g.B.BytesToBytesCodecTraits in
    others_refused b.reads c.args.codecs.now c.in-Some.others.now c.in-Some.first.now (codec_chain b.meaning c.in-Ok.codec) c.in-Err-read_codecs.error c.in-Some.ensures.cases.0 begins c.in-Ok.ensures.ok (c.in-Err-read_codecs.ensures.err other)

pub read_codec-returns-then-names_vlen-clause-ok : goal.read_codec-returns-then-names_vlen-clause-ok
read_codec-returns-then-names_vlen-clause-ok g t c =
    let b = g.B.BytesToBytesCodecTraits in
    let point = point_view c.args.point in
    let named = sym c.names_vlen.ensures ∙ c.if-names_vlen.true in
    c.boxed_vlen.ensures.ok (array_to_bytes_in b.reads point) (subst (λ o. IfOk c.read_vlen.result (λ codec. o ≡ Some (vlen_chain b.meaning codec))) (sym (said_vlen b.reads point named)) c.read_vlen.ensures.ok)

pub read_codec-returns-then-names_vlen-clause-names : goal.read_codec-returns-then-names_vlen-clause-names
read_codec-returns-then-names_vlen-clause-names g t c =
    let named = sym c.names_vlen.ensures ∙ c.if-names_vlen.true in
    c.boxed_vlen.ensures.names (point_view c.args.point) (c.read_vlen.ensures.names named)

pub read_codec-returns-then-names_vlen-clause-refused : goal.read_codec-returns-then-names_vlen-clause-refused
read_codec-returns-then-names_vlen-clause-refused g t c =
    let named = sym c.names_vlen.ensures ∙ c.if-names_vlen.true in
    c.boxed_vlen.ensures.refused (point_view c.args.point) (c.read_vlen.ensures.refused named)

pub read_codec-returns-then-names_vlen-clause-err : goal.read_codec-returns-then-names_vlen-clause-err
read_codec-returns-then-names_vlen-clause-err g t c =
    let b = g.B.BytesToBytesCodecTraits in
    let point = point_view c.args.point in
    let named = sym c.names_vlen.ensures ∙ c.if-names_vlen.true in
    c.boxed_vlen.ensures.err (array_to_bytes_in b.reads point) (subst (λ o. IfErr c.read_vlen.result (λ e. e ≢ Memory → o ≡ None)) (sym (said_vlen b.reads point named)) c.read_vlen.ensures.err)

pub read_codec-returns-then-names_optional-clause-ok : goal.read_codec-returns-then-names_optional-clause-ok
read_codec-returns-then-names_optional-clause-ok g t c =
    let b = g.B.BytesToBytesCodecTraits in
    let point = point_view c.args.point in
    let named = sym c.names_optional.ensures ∙ c.if-names_optional.true in
    c.boxed_optional.ensures.ok (array_to_bytes_in b.reads point) (subst (λ o. IfOk c.read_optional.result (λ codec. o ≡ Some (optional_chain b.meaning codec))) (sym (said_optional b.reads point named)) c.read_optional.ensures.ok)

pub read_codec-returns-then-names_optional-clause-names : goal.read_codec-returns-then-names_optional-clause-names
read_codec-returns-then-names_optional-clause-names g t c =
    let named = sym c.names_optional.ensures ∙ c.if-names_optional.true in
    c.boxed_optional.ensures.names (point_view c.args.point) (c.read_optional.ensures.names named)

pub read_codec-returns-then-names_optional-clause-refused : goal.read_codec-returns-then-names_optional-clause-refused
read_codec-returns-then-names_optional-clause-refused g t c =
    let named = sym c.names_optional.ensures ∙ c.if-names_optional.true in
    c.boxed_optional.ensures.refused (point_view c.args.point) (c.read_optional.ensures.refused named)

pub read_codec-returns-then-names_optional-clause-err : goal.read_codec-returns-then-names_optional-clause-err
read_codec-returns-then-names_optional-clause-err g t c =
    let b = g.B.BytesToBytesCodecTraits in
    let point = point_view c.args.point in
    let named = sym c.names_optional.ensures ∙ c.if-names_optional.true in
    c.boxed_optional.ensures.err (array_to_bytes_in b.reads point) (subst (λ o. IfErr c.read_optional.result (λ e. e ≢ Memory → o ≡ None)) (sym (said_optional b.reads point named)) c.read_optional.ensures.err)

pub read_codec-returns-clause-ok : goal.read_codec-returns-clause-ok
read_codec-returns-clause-ok g t c =
    let b = g.B.BytesToBytesCodecTraits in
    let point = point_view c.args.point in
    let no_vlen = sym c.names_vlen.ensures ∙ c.if-names_vlen.false in
    let no_optional = sym c.names_optional.ensures ∙ c.if-names_optional.false in
    subst (λ o. IfOk c.read_leaf.result (λ codec. o ≡ Some (codec_chain b.meaning codec))) (sym (said_leaf b.reads point no_vlen no_optional)) c.read_leaf.ensures.ok

pub read_codec-returns-clause-err : goal.read_codec-returns-clause-err
read_codec-returns-clause-err g t c =
    let b = g.B.BytesToBytesCodecTraits in
    let point = point_view c.args.point in
    let no_vlen = sym c.names_vlen.ensures ∙ c.if-names_vlen.false in
    let no_optional = sym c.names_optional.ensures ∙ c.if-names_optional.false in
    IfErr-weaker c.read_leaf.result (λ e. e ≢ Memory → leaf_in point ≡ None) (λ e. e ≢ Memory → array_to_bytes_in b.reads point ≡ None) (λ e none. λ other. said_leaf b.reads point no_vlen no_optional ∙ none other) c.read_leaf.ensures.err

pub read_codec-returns-clause-refused : goal.read_codec-returns-clause-refused
read_codec-returns-clause-refused g t c =
    let b = g.B.BytesToBytesCodecTraits in
    let point = point_view c.args.point in
    let no_vlen = sym c.names_vlen.ensures ∙ c.if-names_vlen.false in
    let no_optional = sym c.names_optional.ensures ∙ c.if-names_optional.false in
    both_causes c.read_leaf.result (λ e. e ≢ Memory → leaf_in point ≡ None) (λ e. e ≢ Memory → e ≡ cause_of (names_leaf point.name)) (λ e. e ≢ Memory → RefusedCodec b.reads point e)
    (λ e none is. λ other. leaf_refused b.reads point e no_vlen no_optional (none other) (is other)) c.read_leaf.ensures.err c.read_leaf.ensures.cause

pub read_vlen-read_chain-requires : goal.read_vlen-read_chain-requires
read_vlen-read_chain-requires g t c =
    let point = point_view c.args.point in
    let less = vlen_less (configuration_members point.configuration) (lent_vlen_points c.in-Ok.configuration) c.in-Ok.ensures.ok in
    let one : points_depth (map point_view c.as_slice.result.now) < point_depth point = subst (λ (ps : List lent.ExtensionPoint). points_depth (map point_view ps) < point_depth point) (sym c.as_slice.ensures.value) less.0 in
    let fact : 4 * points_depth (map point_view c.as_slice.result.now) + 3 < 4 * point_depth point = omega (arith, one) in
    search (rules, fact)

pub read_vlen-read_chain-requires-2 : goal.read_vlen-read_chain-requires-2
read_vlen-read_chain-requires-2 g t c =
    let point = point_view c.args.point in
    let less = vlen_less (configuration_members point.configuration) (lent_vlen_points c.in-Ok.configuration) c.in-Ok.ensures.ok in
    let one : points_depth (map point_view c.as_slice-2.result.now) < point_depth point = subst (λ (ps : List lent.ExtensionPoint). points_depth (map point_view ps) < point_depth point) (sym c.as_slice-2.ensures.value) less.1 in
    let fact : 4 * points_depth (map point_view c.as_slice-2.result.now) + 3 < 4 * point_depth point = omega (arith, one) in
    search (rules, fact)

pub read_vlen-returns-in-Err-clause-refused : goal.read_vlen-returns-in-Err-clause-refused
read_vlen-returns-in-Err-clause-refused g t c = λ named. λ other.
    let reads = g.B.BytesToBytesCodecTraits.reads in
    let point = point_view c.args.point in
    subst (RefusedCodec reads point) (sym (c.in-Err.ensures.cause other)) (vlen_unconfigured reads point named (c.in-Err.ensures.err other))

pub read_vlen-returns-in-Err-read_chain-clause-refused : goal.read_vlen-returns-in-Err-read_chain-clause-refused
read_vlen-returns-in-Err-read_chain-clause-refused g t c = λ named. λ other.
    let reads = g.B.BytesToBytesCodecTraits.reads in
    let v = lent_vlen_points c.in-Ok.configuration in
    let e = c.in-Err-read_chain.error in
    let one : RefusedChain reads v.index e = subst (λ (ps : List lent.ExtensionPoint). RefusedChain reads (map point_view ps) e) c.as_slice.ensures.value (c.in-Err-read_chain.ensures.refused other) in
    vlen_no_index reads (point_view c.args.point) v e named c.in-Ok.ensures.ok one

pub read_vlen-returns-clause-refused : goal.read_vlen-returns-clause-refused
read_vlen-returns-clause-refused g t c = λ named. λ other.
    let b = g.B.BytesToBytesCodecTraits in
    let v = lent_vlen_points c.in-Ok.configuration in
    let e = c.in-Err-read_chain-2.error in
    let one : chain_of b.reads v.index ≡ Some (meaning_of b.meaning c.in-Ok-read_chain.chain) = ap (λ (ps : List lent.ExtensionPoint). chain_of b.reads (map point_view ps)) (sym c.as_slice.ensures.value) ∙ c.in-Ok-read_chain.ensures.ok in
    let two : RefusedChain b.reads v.content e = subst (λ (ps : List lent.ExtensionPoint). RefusedChain b.reads (map point_view ps) e) c.as_slice-2.ensures.value (c.in-Err-read_chain-2.ensures.refused other) in
    vlen_no_content b.reads (point_view c.args.point) v (meaning_of b.meaning c.in-Ok-read_chain.chain) e named c.in-Ok.ensures.ok one two

pub read_vlen-returns-in-Err-clause-err : goal.read_vlen-returns-in-Err-clause-err
read_vlen-returns-in-Err-clause-err g t c = λ other.
    vlen_none g.B.BytesToBytesCodecTraits.reads (configuration_members (point_view c.args.point).configuration) (c.in-Err.ensures.err other)

pub read_vlen-returns-in-Err-read_chain-clause-err : goal.read_vlen-returns-in-Err-read_chain-clause-err
read_vlen-returns-in-Err-read_chain-clause-err g t c = λ other.
    let b = g.B.BytesToBytesCodecTraits in
    let v = lent_vlen_points c.in-Ok.configuration in
    let one : chain_of b.reads v.index ≡ None = ap (λ (ps : List lent.ExtensionPoint). chain_of b.reads (map point_view ps)) (sym c.as_slice.ensures.value) ∙ c.in-Err-read_chain.ensures.err other in
    vlen_done b.reads (configuration_members (point_view c.args.point).configuration) v None (chain_of b.reads v.content) c.in-Ok.ensures.ok one refl

pub read_vlen-returns-in-Ok-read_chain-2-clause-ok : goal.read_vlen-returns-in-Ok-read_chain-2-clause-ok
read_vlen-returns-in-Ok-read_chain-2-clause-ok g t c =
    let b = g.B.BytesToBytesCodecTraits in
    let v = lent_vlen_points c.in-Ok.configuration in
    let one : chain_of b.reads v.index ≡ Some (meaning_of b.meaning c.in-Ok-read_chain.chain) = ap (λ (ps : List lent.ExtensionPoint). chain_of b.reads (map point_view ps)) (sym c.as_slice.ensures.value) ∙ c.in-Ok-read_chain.ensures.ok in
    let two : chain_of b.reads v.content ≡ Some (meaning_of b.meaning c.in-Ok-read_chain-2.data_codecs) = ap (λ (ps : List lent.ExtensionPoint). chain_of b.reads (map point_view ps)) (sym c.as_slice-2.ensures.value) ∙ c.in-Ok-read_chain-2.ensures.ok in
    vlen_done b.reads (configuration_members (point_view c.args.point).configuration) v (Some (meaning_of b.meaning c.in-Ok-read_chain.chain)) (Some (meaning_of b.meaning c.in-Ok-read_chain-2.data_codecs)) c.in-Ok.ensures.ok one two

pub read_vlen-returns-in-Ok-read_chain-2-clause-names : goal.read_vlen-returns-in-Ok-read_chain-2-clause-names
read_vlen-returns-in-Ok-read_chain-2-clause-names g t c = λ named.
    let one = c.in-Ok-read_chain.chain in
    let two = c.in-Ok-read_chain-2.data_codecs in
    let lists = vlen_lists (configuration_members (point_view c.args.point).configuration) (lent_vlen_points c.in-Ok.configuration) c.in-Ok.ensures.ok in
    let first = subst (λ (ps : List lent.ExtensionPoint). NamesChain one (map point_view ps)) c.as_slice.ensures.value c.in-Ok-read_chain.ensures.names in
    let second = subst (λ (ps : List lent.ExtensionPoint). NamesChain two (map point_view ps)) c.as_slice-2.ensures.value c.in-Ok-read_chain-2.ensures.names in (
      c.vlen_name.ensures named,
      subst (ListNames one.array_to_array.items (Names one.others.array_to_bytes)) (sym lists.0) first,
      subst (ListNames two.array_to_array.items (Names two.others.array_to_bytes)) (sym lists.1) second,
    )

pub read_vlen-returns-clause-err : goal.read_vlen-returns-clause-err
read_vlen-returns-clause-err g t c = λ other.
    let b = g.B.BytesToBytesCodecTraits in
    let v = lent_vlen_points c.in-Ok.configuration in
    let one : chain_of b.reads v.index ≡ Some (meaning_of b.meaning c.in-Ok-read_chain.chain) = ap (λ (ps : List lent.ExtensionPoint). chain_of b.reads (map point_view ps)) (sym c.as_slice.ensures.value) ∙ c.in-Ok-read_chain.ensures.ok in
    let two : chain_of b.reads v.content ≡ None = ap (λ (ps : List lent.ExtensionPoint). chain_of b.reads (map point_view ps)) (sym c.as_slice-2.ensures.value) ∙ c.in-Err-read_chain-2.ensures.err other in
    vlen_done b.reads (configuration_members (point_view c.args.point).configuration) v (Some (meaning_of b.meaning c.in-Ok-read_chain.chain)) None c.in-Ok.ensures.ok one two

pub read_optional-read_chain-requires : goal.read_optional-read_chain-requires
read_optional-read_chain-requires g t c =
    let point = point_view c.args.point in
    let less = optional_less (configuration_members point.configuration) (lent_optional_points c.in-Ok.configuration) c.in-Ok.ensures.ok in
    let one : points_depth (map point_view c.as_slice.result.now) < point_depth point = subst (λ (ps : List lent.ExtensionPoint). points_depth (map point_view ps) < point_depth point) (sym c.as_slice.ensures.value) less.0 in
    let fact : 4 * points_depth (map point_view c.as_slice.result.now) + 3 < 4 * point_depth point = omega (arith, one) in
    search (rules, fact)

pub read_optional-read_chain-requires-2 : goal.read_optional-read_chain-requires-2
read_optional-read_chain-requires-2 g t c =
    let point = point_view c.args.point in
    let less = optional_less (configuration_members point.configuration) (lent_optional_points c.in-Ok.configuration) c.in-Ok.ensures.ok in
    let one : points_depth (map point_view c.as_slice-2.result.now) < point_depth point = subst (λ (ps : List lent.ExtensionPoint). points_depth (map point_view ps) < point_depth point) (sym c.as_slice-2.ensures.value) less.1 in
    let fact : 4 * points_depth (map point_view c.as_slice-2.result.now) + 3 < 4 * point_depth point = omega (arith, one) in
    search (rules, fact)

pub read_optional-returns-in-Err-clause-refused : goal.read_optional-returns-in-Err-clause-refused
read_optional-returns-in-Err-clause-refused g t c = λ named. λ other.
    let reads = g.B.BytesToBytesCodecTraits.reads in
    let point = point_view c.args.point in
    subst (RefusedCodec reads point) (sym (c.in-Err.ensures.cause other)) (optional_unconfigured reads point named (c.in-Err.ensures.err other))

pub read_optional-returns-in-Err-read_chain-clause-refused : goal.read_optional-returns-in-Err-read_chain-clause-refused
read_optional-returns-in-Err-read_chain-clause-refused g t c = λ named. λ other.
    let reads = g.B.BytesToBytesCodecTraits.reads in
    let v = lent_optional_points c.in-Ok.configuration in
    let e = c.in-Err-read_chain.error in
    let one : RefusedChain reads v.mask e = subst (λ (ps : List lent.ExtensionPoint). RefusedChain reads (map point_view ps) e) c.as_slice.ensures.value (c.in-Err-read_chain.ensures.refused other) in
    optional_no_mask reads (point_view c.args.point) v e named c.in-Ok.ensures.ok one

pub read_optional-returns-clause-refused : goal.read_optional-returns-clause-refused
read_optional-returns-clause-refused g t c = λ named. λ other.
    let b = g.B.BytesToBytesCodecTraits in
    let v = lent_optional_points c.in-Ok.configuration in
    let e = c.in-Err-read_chain-2.error in
    let one : chain_of b.reads v.mask ≡ Some (meaning_of b.meaning c.in-Ok-read_chain.chain) = ap (λ (ps : List lent.ExtensionPoint). chain_of b.reads (map point_view ps)) (sym c.as_slice.ensures.value) ∙ c.in-Ok-read_chain.ensures.ok in
    let two : RefusedChain b.reads v.content e = subst (λ (ps : List lent.ExtensionPoint). RefusedChain b.reads (map point_view ps) e) c.as_slice-2.ensures.value (c.in-Err-read_chain-2.ensures.refused other) in
    optional_no_content b.reads (point_view c.args.point) v (meaning_of b.meaning c.in-Ok-read_chain.chain) e named c.in-Ok.ensures.ok one two

pub read_optional-returns-in-Err-clause-err : goal.read_optional-returns-in-Err-clause-err
read_optional-returns-in-Err-clause-err g t c = λ other.
    optional_none g.B.BytesToBytesCodecTraits.reads (configuration_members (point_view c.args.point).configuration) (c.in-Err.ensures.err other)

pub read_optional-returns-in-Err-read_chain-clause-err : goal.read_optional-returns-in-Err-read_chain-clause-err
read_optional-returns-in-Err-read_chain-clause-err g t c = λ other.
    let b = g.B.BytesToBytesCodecTraits in
    let v = lent_optional_points c.in-Ok.configuration in
    let one : chain_of b.reads v.mask ≡ None = ap (λ (ps : List lent.ExtensionPoint). chain_of b.reads (map point_view ps)) (sym c.as_slice.ensures.value) ∙ c.in-Err-read_chain.ensures.err other in
    optional_done b.reads (configuration_members (point_view c.args.point).configuration) v None (chain_of b.reads v.content) c.in-Ok.ensures.ok one refl

pub read_optional-returns-in-Ok-read_chain-2-clause-ok : goal.read_optional-returns-in-Ok-read_chain-2-clause-ok
read_optional-returns-in-Ok-read_chain-2-clause-ok g t c =
    let b = g.B.BytesToBytesCodecTraits in
    let v = lent_optional_points c.in-Ok.configuration in
    let one : chain_of b.reads v.mask ≡ Some (meaning_of b.meaning c.in-Ok-read_chain.chain) = ap (λ (ps : List lent.ExtensionPoint). chain_of b.reads (map point_view ps)) (sym c.as_slice.ensures.value) ∙ c.in-Ok-read_chain.ensures.ok in
    let two : chain_of b.reads v.content ≡ Some (meaning_of b.meaning c.in-Ok-read_chain-2.data_codecs) = ap (λ (ps : List lent.ExtensionPoint). chain_of b.reads (map point_view ps)) (sym c.as_slice-2.ensures.value) ∙ c.in-Ok-read_chain-2.ensures.ok in
    optional_done b.reads (configuration_members (point_view c.args.point).configuration) v (Some (meaning_of b.meaning c.in-Ok-read_chain.chain)) (Some (meaning_of b.meaning c.in-Ok-read_chain-2.data_codecs)) c.in-Ok.ensures.ok one two

pub read_optional-returns-in-Ok-read_chain-2-clause-names : goal.read_optional-returns-in-Ok-read_chain-2-clause-names
read_optional-returns-in-Ok-read_chain-2-clause-names g t c = λ named.
    let one = c.in-Ok-read_chain.chain in
    let two = c.in-Ok-read_chain-2.data_codecs in
    let lists = optional_lists (configuration_members (point_view c.args.point).configuration) (lent_optional_points c.in-Ok.configuration) c.in-Ok.ensures.ok in
    let first = subst (λ (ps : List lent.ExtensionPoint). NamesChain one (map point_view ps)) c.as_slice.ensures.value c.in-Ok-read_chain.ensures.names in
    let second = subst (λ (ps : List lent.ExtensionPoint). NamesChain two (map point_view ps)) c.as_slice-2.ensures.value c.in-Ok-read_chain-2.ensures.names in (
      c.optional_name.ensures named,
      subst (ListNames one.array_to_array.items (Names one.others.array_to_bytes)) (sym lists.0) first,
      subst (ListNames two.array_to_array.items (Names two.others.array_to_bytes)) (sym lists.1) second,
    )

pub read_optional-returns-clause-err : goal.read_optional-returns-clause-err
read_optional-returns-clause-err g t c = λ other.
    let b = g.B.BytesToBytesCodecTraits in
    let v = lent_optional_points c.in-Ok.configuration in
    let one : chain_of b.reads v.mask ≡ Some (meaning_of b.meaning c.in-Ok-read_chain.chain) = ap (λ (ps : List lent.ExtensionPoint). chain_of b.reads (map point_view ps)) (sym c.as_slice.ensures.value) ∙ c.in-Ok-read_chain.ensures.ok in
    let two : chain_of b.reads v.content ≡ None = ap (λ (ps : List lent.ExtensionPoint). chain_of b.reads (map point_view ps)) (sym c.as_slice-2.ensures.value) ∙ c.in-Err-read_chain-2.ensures.err other in
    optional_done b.reads (configuration_members (point_view c.args.point).configuration) v (Some (meaning_of b.meaning c.in-Ok-read_chain.chain)) None c.in-Ok.ensures.ok one two
