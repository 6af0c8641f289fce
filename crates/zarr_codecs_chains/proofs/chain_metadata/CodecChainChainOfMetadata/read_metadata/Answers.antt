use Rattle.std.proofs.Common.{◌∙◌, map, sym}
use Rattle.std.specs.Prelude.{◌≢◌}
use Rattle.std.proofs.lemmas.Result.{IfErr-weaker}
use Rattle.zarr_grids_metadata.specs.Views.{point_of}
use Rattle.zarr_grids_metadata.specs.declared.error.PluginCreateError.TheVariants.{Memory}
use Rattle.zarr_codecs_chains.specs.Refusals.{RefusesChain}
use Rattle.zarr_sharding_metadata.proofs.Nested.{none_said}
use Rattle.zarr_codecs_chains.specs.Plain.{RefusesPlain}
use Rattle.zarr_codecs_chains.proofs.Plain.{as_plain, too_deep}
use Rattle.zarr_codecs_chains.proofs.chain_metadata.CodecChainChainOfMetadata.read_metadata.Goals as goal

pub returns-then-stands-clause-err : goal.returns-then-stands-clause-err
returns-then-stands-clause-err g c = λ other. none_said g.B.BytesToBytesCodecTraits.reads (map point_of c.args.codecs.now) (sym c.in_ok-stands.ensures ∙ c.if-stands.true)

pub returns-then-stands-clause-refused : goal.returns-then-stands-clause-refused
returns-then-stands-clause-refused g c = λ other. too_deep g.B.BytesToBytesCodecTraits.reads (map point_of c.args.codecs.now) (sym c.in_ok-stands.ensures ∙ c.if-stands.true)

pub returns-clause-refused : goal.returns-clause-refused
returns-clause-refused g c =
    let reads = g.B.BytesToBytesCodecTraits.reads in
    let points = map point_of c.args.codecs.now in
    let none = sym c.in_ok-stands.ensures ∙ c.if-stands.false in
    IfErr-weaker c.read_allowed.result (λ e. e ≢ Memory → RefusesChain reads points e) (λ e. e ≢ Memory → RefusesPlain reads points e) (λ e refused. λ other. as_plain reads points e none (refused other)) c.read_allowed.ensures.refused
