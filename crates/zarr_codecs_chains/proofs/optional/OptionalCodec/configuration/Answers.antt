use Rattle.std.proofs.Common.{◌≡◌, ◌∙◌, ap, Some}
use Rattle.std.proofs.lemmas.Result.{IfOk-weaker}
use Rattle.zarr_codecs_configurations.specs.Views.{optional_points}
use Rattle.zarr_codecs_chains.specs.Configured.{configured_optional}
use Rattle.zarr_codecs_chains.specs.Views.{given_to_optional, optional_chain}
use Rattle.zarr_codecs_chains.proofs.Configured.{optional_again}
use Rattle.zarr_codecs_chains.proofs.optional.OptionalCodec.configuration.Goals as goal

pub returns-clause-made_again : goal.returns-clause-made_again
returns-clause-made_again g c = λ stand.
    let b = g.B.BytesToBytesCodecTraits in
    let self = c.args.self.now in
    IfOk-weaker c.optional_configuration.result (λ given. optional_points given ≡ given_to_optional b.described self) (λ given. configured_optional b.reads (optional_points given) ≡ Some (optional_chain b.meaning self))
    (λ given e. ap (configured_optional b.reads) e ∙ optional_again b.reads b.described b.meaning g.met.B.BytesToBytesCodecTraits.reads_back self stand) c.optional_configuration.ensures
