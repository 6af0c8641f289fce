use Rattle.zarr_codecs_traits.proofs.WrittenWhole.{patched_given}
use Rattle.zarr_codecs_bytes.proofs.writing.write_over.Goals as goal

pub returns-in_ok-lent-in-Ok-clause-given : goal.returns-in_ok-lent-in-Ok-clause-given
returns-in_ok-lent-in-Ok-clause-given g c = λ honest.
    let D = g.E.BytesPartialDecoderTraits in
    let source = c.args.source.now in
    let done = c.partial_encode.ensures in
    patched_given (g.E.BytesPartialEncoderTraits.writes_ranges source) (D.contents source) (D.given_bytes source) (D.given_bytes c.partial_encode.new.self) done.given (done.given_once honest)
