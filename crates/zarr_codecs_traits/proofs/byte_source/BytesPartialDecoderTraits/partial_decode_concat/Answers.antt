use Rattle.std.proofs.Common.{◌≡◌, ◌∙◌, ◌+◌, ◌-◌, ◌^◌, ap, arith, min}
use Rattle.zarr_codecs_traits.specs.Sources.{parts_length}
use Rattle.zarr_codecs_traits.proofs.PartLemmas.{concat_found, concat_given, concat_length}
use Rattle.zarr_codecs_traits.proofs.byte_source.BytesPartialDecoderTraits.partial_decode_concat.Goals as goal

pub returns-in_err-concat-in-Some-clause-most : goal.returns-in_err-concat-in-Some-clause-most
returns-in_err-concat-in-Some-clause-most g c = λ honest.
    let S = g.Self.BytesPartialDecoderTraits in
    let found = c.in_ok-parts.field-0 in
    let given : S.given_bytes c.partial_decode.new.self ≡ min (S.given_bytes c.args.self.now + parts_length found) (2 ^ 128 - 1) = c.in_ok-parts.ensures.given in
    omega (arith, given, concat_given (S.contents c.args.self.now) c.args.ranges.now found c.in-Some.parts c.in-Some.is (c.in_ok-parts.ensures.parts honest))

pub returns-in_ok-concat-in-Some-clause-bytes : goal.returns-in_ok-concat-in-Some-clause-bytes
returns-in_ok-concat-in-Some-clause-bytes g c = λ honest.
    concat_found (g.Self.BytesPartialDecoderTraits.contents c.args.self.now) c.args.ranges.now c.in_ok-parts.field-0 c.in-Some.parts c.in_ok-concat-in-Some.field-0.items c.in-Some.is (c.in_ok-parts.ensures.parts honest) c.in_ok-concat-in-Some.ensures

pub returns-in_ok-concat-in-Some-clause-given : goal.returns-in_ok-concat-in-Some-clause-given
returns-in_ok-concat-in-Some-clause-given g c =
    let S = g.Self.BytesPartialDecoderTraits in
    let found = c.in_ok-parts.field-0 in
    let given : S.given_bytes c.partial_decode.new.self ≡ min (S.given_bytes c.args.self.now + parts_length found) (2 ^ 128 - 1) = c.in_ok-parts.ensures.given in
    given ∙ ap (λ n. min (S.given_bytes c.args.self.now + n) (2 ^ 128 - 1)) (concat_length found c.in-Some.parts c.in_ok-concat-in-Some.field-0.items c.in-Some.is c.in_ok-concat-in-Some.ensures)

pub returns-in_ok-concat-in-Some-clause-most : goal.returns-in_ok-concat-in-Some-clause-most
returns-in_ok-concat-in-Some-clause-most g c = λ honest.
    let S = g.Self.BytesPartialDecoderTraits in
    let found = c.in_ok-parts.field-0 in
    let given : S.given_bytes c.partial_decode.new.self ≡ min (S.given_bytes c.args.self.now + parts_length found) (2 ^ 128 - 1) = c.in_ok-parts.ensures.given in
    omega (arith, given, concat_given (S.contents c.args.self.now) c.args.ranges.now found c.in-Some.parts c.in-Some.is (c.in_ok-parts.ensures.parts honest))
