use Rattle.std.proofs.Common.{◌≡◌, ◌≢◌, ◌∙◌, List, ◌∷◌, ap, sym, subst, Some, None}
use Rattle.std.specs.Prelude.{IfOk, IfErr}
use Rattle.std.proofs.lemmas.Result.{IfErr-weaker}
use Rattle.zarr_grids_metadata.specs.ExtensionPoints.{ExtensionPoint, configuration_members}
use Rattle.zarr_grids_metadata.specs.Views.{point_view}
use Rattle.zarr_grids_metadata.specs.declared.error.PluginCreateError.TheVariants.{Memory}
use Rattle.zarr_codecs_array_to_array.specs.Refusals.{cause_of}
use Rattle.zarr_codecs_chains.specs.Refusals.{RefusesChain}
use Rattle.zarr_codecs_chains.specs.Views.{meaning_of}
use Rattle.zarr_sharding_metadata.specs.Metadata.{shard_points_in}
use Rattle.zarr_sharding_configurations.specs.Views.{shard_points}
use Rattle.zarr_sharding_codec.specs.Configured.{RefusesShard}
use Rattle.zarr_sharding_codec.specs.Views.{shard_chain}
use Rattle.zarr_sharding_chains.specs.Refusals.{RefusesFirst}
use Rattle.zarr_sharding_chains.proofs.Reading.{inside_refused, names_given, other_refused, said_given, said_other, said_unconfigured, unconfigured_refused}
use Rattle.zarr_sharding_chains.proofs.sharded_metadata.read_shard.Goals as goal

pub returns-then-not-names_shard-clause-err : goal.returns-then-not-names_shard-clause-err
returns-then-not-names_shard-clause-err g c = λ other.
    let point = point_view c.args.point in
    said_other g.B.BytesToBytesCodecTraits.reads g.I.ChainOfMetadata.reads point (sym c.names_shard.ensures ∙ c.if-not-names_shard.true)

pub returns-then-not-names_shard-clause-refused : goal.returns-then-not-names_shard-clause-refused
returns-then-not-names_shard-clause-refused g c = λ array. λ other points.
    let point = point_view c.args.point in
    let none = sym c.names_shard.ensures ∙ c.if-not-names_shard.true in
    let i = g.I.ChainOfMetadata in
    other_refused g.B.BytesToBytesCodecTraits.reads i.reads i.refuses point points _ none (ap cause_of (sym array))

pub returns-in-Err-clause-err : goal.returns-in-Err-clause-err
returns-in-Err-clause-err g c = λ other.
    let point = point_view c.args.point in
    let named = sym c.names_shard.ensures ∙ c.if-not-names_shard.false in
    said_unconfigured g.B.BytesToBytesCodecTraits.reads g.I.ChainOfMetadata.reads point named (ap (λ (p : ExtensionPoint). shard_points_in (configuration_members p.configuration)) (sym c.in_ok-metadata.ensures) ∙ c.in-Err.ensures.err other)

pub returns-in-Err-clause-refused : goal.returns-in-Err-clause-refused
returns-in-Err-clause-refused g c = λ array. λ other points.
    let point = point_view c.args.point in
    let named = sym c.names_shard.ensures ∙ c.if-not-names_shard.false in
    let i = g.I.ChainOfMetadata in
    unconfigured_refused g.B.BytesToBytesCodecTraits.reads i.reads i.refuses point points c.in-Err.error named (ap (λ (p : ExtensionPoint). shard_points_in (configuration_members p.configuration)) (sym c.in_ok-metadata.ensures) ∙ c.in-Err.ensures.err other) (c.in-Err.ensures.cause other)

pub returns-clause-ok : goal.returns-clause-ok
returns-clause-ok g c =
    let is = ap (λ (p : ExtensionPoint). shard_points_in (configuration_members p.configuration)) (sym c.in_ok-metadata.ensures) ∙ c.in-Ok.ensures.ok in
    let b = g.B.BytesToBytesCodecTraits in
    let inner = g.I.ChainOfMetadata.reads in
    let point = point_view c.args.point in
    let given = shard_points c.in-Ok.configuration in
    let chain = shard_chain g.I.ArrayToBytesCodecTraits.meaning (meaning_of b.meaning) in
    let named = sym c.names_shard.ensures ∙ c.if-not-names_shard.false in
    subst (λ o. IfOk c.read_allowed_shard.result (λ codec. o ≡ Some (chain codec))) (sym (said_given b.reads inner point given named is)) c.read_allowed_shard.ensures.ok

pub returns-clause-names : goal.returns-clause-names
returns-clause-names g c =
    let is = ap (λ (p : ExtensionPoint). shard_points_in (configuration_members p.configuration)) (sym c.in_ok-metadata.ensures) ∙ c.in-Ok.ensures.ok in
    names_given g.I.ChainOfMetadata.names (point_view c.args.point) (shard_points c.in-Ok.configuration) c.read_allowed_shard.result is c.read_allowed_shard.ensures.inner_names c.read_allowed_shard.ensures.index_names

pub returns-clause-err : goal.returns-clause-err
returns-clause-err g c =
    let is = ap (λ (p : ExtensionPoint). shard_points_in (configuration_members p.configuration)) (sym c.in_ok-metadata.ensures) ∙ c.in-Ok.ensures.ok in
    let b = g.B.BytesToBytesCodecTraits in
    let inner = g.I.ChainOfMetadata.reads in
    let point = point_view c.args.point in
    let given = shard_points c.in-Ok.configuration in
    let named = sym c.names_shard.ensures ∙ c.if-not-names_shard.false in
    subst (λ o. IfErr c.read_allowed_shard.result (λ e. e ≢ Memory → o ≡ None)) (sym (said_given b.reads inner point given named is)) c.read_allowed_shard.ensures.err

pub returns-clause-refused : goal.returns-clause-refused
returns-clause-refused g c = λ array.
    let is = ap (λ (p : ExtensionPoint). shard_points_in (configuration_members p.configuration)) (sym c.in_ok-metadata.ensures) ∙ c.in-Ok.ensures.ok in
    let reads = g.B.BytesToBytesCodecTraits.reads in
    let i = g.I.ChainOfMetadata in
    let point = point_view c.args.point in
    let given = shard_points c.in-Ok.configuration in
    let named = sym c.names_shard.ensures ∙ c.if-not-names_shard.false in
    IfErr-weaker c.read_allowed_shard.result (λ e. e ≢ Memory → RefusesShard i.reads i.refuses (RefusesChain reads) given e) (λ e. e ≢ Memory → (points : List ExtensionPoint) → RefusesFirst reads i.reads i.refuses (point ∷ points) e)
    (λ e refused. λ other points. inside_refused reads i.reads i.refuses point points given e named is (refused other)) c.read_allowed_shard.ensures.refused
