use Rattle.zarr_codecs_traits.proofs.WrittenWhole.{patched_given}
use Rattle.zarr_sharding_index.proofs.slice_changes.append_bytes.Goals as goal

pub returns-clause-call : goal.returns-clause-call
returns-clause-call g c =
    let D = g.E.BytesPartialDecoderTraits in
    let source = c.args.source.now in
    let done = c.partial_encode.ensures in
    record {
      err = done.err;
      refused = done.refused;
      given = done.given;
      taken = λ honest. patched_given (g.E.BytesPartialEncoderTraits.writes_ranges source) (D.contents source) (D.given_bytes source) (D.given_bytes c.partial_encode.new.self) done.given (done.given_once honest);
      accepted = done.accepted;
      rewrites = done.rewrites;
    }
