use Rattle.std.proofs.Common.{◌≡◌, ◌∙◌, ap, Bool, Some, None, option_and_then, if◌then◌else◌}
use Rattle.std.proofs.lemmas.Result.{IfOk-weaker}
use Rattle.zarr_grids_metadata.specs.Views.{point_of}
use Rattle.zarr_codecs_metadata.specs.Allowed.{allowed}
use Rattle.zarr_codecs_metadata.specs.Chains.{array_to_bytes_in}
use Rattle.zarr_codecs_chains.specs.Views.{codec_chain, codec_point}
use Rattle.zarr_codecs_chains.proofs.WrittenBack.{codec_back}
use Rattle.zarr_codecs_chains.proofs.array_to_bytes.ArrayToBytesCodec.metadata.Goals as goal

pub returns-clause-reads_back : goal.returns-clause-reads_back
returns-clause-reads_back g c =
    let b = g.B.BytesToBytesCodecTraits in
    let self = c.args.self.now in
    IfOk-weaker c.codec_metadata.result (λ metadata. point_of metadata ≡ codec_point b.described self) (λ metadata. array_to_bytes_in b.reads (point_of metadata) ≡ Some (codec_chain b.meaning self))
    (λ metadata e. ap (array_to_bytes_in b.reads) e ∙ codec_back b.reads b.described b.meaning g.met.B.BytesToBytesCodecTraits.reads_back self) c.codec_metadata.ensures

pub returns-clause-made_again : goal.returns-clause-made_again
returns-clause-made_again g c = λ stand.
    let b = g.B.BytesToBytesCodecTraits in
    let self = c.args.self.now in
    let chain = codec_chain b.meaning self in
    IfOk-weaker c.codec_metadata.result (λ metadata. point_of metadata ≡ codec_point b.described self) (λ metadata. option_and_then allowed (array_to_bytes_in b.reads (point_of metadata)) ≡ Some chain)
    (λ metadata e. ap (λ p. option_and_then allowed (array_to_bytes_in b.reads p)) e ∙ (ap (option_and_then allowed) (codec_back b.reads b.described b.meaning g.met.B.BytesToBytesCodecTraits.reads_back self) ∙ ap (λ (x : Bool). if x then Some chain else None) stand)) c.codec_metadata.ensures
