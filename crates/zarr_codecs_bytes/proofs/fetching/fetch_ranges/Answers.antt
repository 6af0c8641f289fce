use Rattle.std.proofs.Common.{◌≡◌, ◌≤◌, ◌+◌, subst}
use Rattle.std.specs.Prelude.{IfOk}
use Rattle.zarr_codecs_traits.specs.Sources.{concat_of, value_bytes, value_length}
use Rattle.zarr_codecs_bytes.proofs.PartReading.{ranges_refused}
use Rattle.zarr_codecs_bytes.proofs.fetching.fetch_ranges.Goals as goal

pub returns-clause-bytes : goal.returns-clause-bytes
returns-clause-bytes g c = λ honest value is.
    subst (λ contents. IfOk c.partial_decode_concat.result (λ found. value_bytes found ≡ concat_of contents c.args.ranges.now)) is (c.partial_decode_concat.ensures.bytes honest)

pub returns-clause-cause : goal.returns-clause-cause
returns-clause-cause g c = λ honest value is within.
    ranges_refused (g.D.BytesPartialDecoderTraits.contents c.args.source.now) value c.args.ranges.now c.partial_decode_concat.result is within (c.partial_decode_concat.ensures.cause honest)

pub returns-clause-given : goal.returns-clause-given
returns-clause-given g c = λ honest value is.
    let D = g.D.BytesPartialDecoderTraits in
    subst (λ contents. D.given_bytes c.partial_decode_concat.new.self ≤ D.given_bytes c.args.source.now + value_length (concat_of contents c.args.ranges.now)) is (c.partial_decode_concat.ensures.most honest)
