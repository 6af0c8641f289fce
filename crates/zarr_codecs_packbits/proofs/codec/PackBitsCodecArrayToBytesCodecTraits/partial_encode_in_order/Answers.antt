use Rattle.std.proofs.Common.{true, refl}
use Rattle.zarr_codecs_traits.specs.Arrays.{coded_part, update_part}
use Rattle.zarr_codecs_traits.proofs.Damage.{whole_not_put}
use Rattle.zarr_codecs_traits.proofs.WrittenWhole.{plain_parts, whole_given}
use Rattle.zarr_codecs_packbits.specs.Views.{packbits_chain}
use Rattle.zarr_codecs_packbits.proofs.codec.PackBitsCodecArrayToBytesCodecTraits.partial_encode_in_order.Goals as goal

pub returns-clause-cause : goal.returns-clause-cause
returns-clause-cause g c = λ honest.
    let stored = g.E.BytesPartialDecoderTraits.contents c.args.source.now in
    whole_not_put {A = Unit {0}} (coded_part (packbits_chain c.args.self.now) c.args.part) (update_part c.args.part c.args.bytes stored) c.encode_whole.result refl (c.encode_whole.ensures.cause honest)

pub returns-clause-parts : goal.returns-clause-parts
returns-clause-parts g c = λ honest.
    let E = g.E.BytesPartialDecoderTraits in
    plain_parts true (coded_part (packbits_chain c.args.self.now) c.args.part) (update_part c.args.part c.args.bytes (E.contents c.args.source.now)) (E.contents c.encode_whole.new.source) c.encode_whole.result refl (c.encode_whole.ensures.ok honest)

pub returns-clause-given : goal.returns-clause-given
returns-clause-given g c = λ honest.
    let E = g.E.BytesPartialDecoderTraits in
    whole_given (coded_part (packbits_chain c.args.self.now) c.args.part) (update_part c.args.part c.args.bytes (E.contents c.args.source.now)) (g.E.BytesPartialEncoderTraits.writes_ranges c.args.source.now) (E.given_bytes c.args.source.now) (E.given_bytes c.encode_whole.new.source) refl (c.encode_whole.ensures.given honest)
