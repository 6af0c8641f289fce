use Rattle.std.proofs.Common.{◌≡◌, ◌∙◌, ap, Some}
use Rattle.std.proofs.lemmas.Result.{IfOk-weaker}
use Rattle.zarr_codecs_configurations.specs.Views.{vlen_points}
use Rattle.zarr_codecs_chains.specs.Configured.{configured_vlen}
use Rattle.zarr_codecs_chains.specs.Views.{given_to_vlen, vlen_chain}
use Rattle.zarr_codecs_chains.proofs.Configured.{vlen_again}
use Rattle.zarr_codecs_chains.proofs.vlen.VlenCodec.configuration.Goals as goal

pub returns-clause-made_again : goal.returns-clause-made_again
returns-clause-made_again g c = λ stand.
    let b = g.B.BytesToBytesCodecTraits in
    let self = c.args.self.now in
    IfOk-weaker c.vlen_configuration.result (λ given. vlen_points given ≡ given_to_vlen b.described self) (λ given. configured_vlen b.reads (vlen_points given) ≡ Some (vlen_chain b.meaning self))
    (λ given e. ap (configured_vlen b.reads) e ∙ vlen_again b.reads b.described b.meaning g.met.B.BytesToBytesCodecTraits.reads_back self stand) c.vlen_configuration.ensures
