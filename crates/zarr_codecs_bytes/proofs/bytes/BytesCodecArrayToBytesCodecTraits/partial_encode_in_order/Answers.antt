use Rattle.std.proofs.Common.{true, refl}
use Rattle.zarr_codecs_traits.specs.Arrays.{coded_part, update_part}
use Rattle.zarr_codecs_traits.proofs.WrittenWhole.{nothing_given, plain_parts}
use Rattle.zarr_codecs_bytes.specs.Views.{bytes_chain}
use Rattle.zarr_codecs_bytes.proofs.bytes.BytesCodecArrayToBytesCodecTraits.partial_encode_in_order.Goals as goal

pub returns-clause-parts : goal.returns-clause-parts
returns-clause-parts g c = λ honest.
    let E = g.E.BytesPartialDecoderTraits in
    plain_parts true (coded_part (bytes_chain c.args.self.now) c.args.part) (update_part c.args.part c.args.bytes (E.contents c.args.source.now)) (E.contents c.write_asked.new.source) c.write_asked.result refl (c.write_asked.ensures.ok honest)

pub returns-clause-given : goal.returns-clause-given
returns-clause-given g c = λ honest.
    let E = g.E.BytesPartialDecoderTraits in
    nothing_given (coded_part (bytes_chain c.args.self.now) c.args.part) (update_part c.args.part c.args.bytes (E.contents c.args.source.now)) (g.E.BytesPartialEncoderTraits.writes_ranges c.args.source.now) (E.given_bytes c.args.source.now) (E.given_bytes c.write_asked.new.source) refl refl (c.write_asked.ensures.given honest)
