use Rattle.std.proofs.Common.{◌≤◌, ◌+◌, ℕ, List, IsTrue, Option, arith, inl, refl, subst}
use Rattle.zarr_codecs_traits.specs.Arrays.{coded_part, update_part}
use Rattle.zarr_codecs_traits.specs.PartWriting.{NotEncodedWhole}
use Rattle.zarr_codecs_traits.specs.Sources.{value_length}
use Rattle.zarr_codecs_traits.proofs.Damage.{unroomed_not_put}
use Rattle.zarr_codecs_traits.proofs.WrittenWhole.{parts_given, unroomed_given, unroomed_parts}
use Rattle.zarr_sharding_codec.specs.Views.{makes_a_function, shard_chain}
use Rattle.zarr_sharding_codec.proofs.Appended.{tried_false, tried_true, was_appended, was_full}
use Rattle.zarr_sharding_codec.proofs.array_to_bytes.ShardingCodecArrayToBytesCodecTraits.partial_encode_in_order.Goals as goal

pub returns-in-Err-clause-cause : goal.returns-in-Err-clause-cause
returns-in-Err-clause-cause g c = λ _. c.in-Err.ensures.cause (g.E.BytesPartialDecoderTraits.contents c.args.source.now)

pub returns-in-Err-clause-given : goal.returns-in-Err-clause-given
returns-in-Err-clause-given g c = λ honest. inl (omega arith)

pub returns-in-Ok-true-clause-ok : goal.returns-in-Ok-true-clause-ok
returns-in-Ok-true-clause-ok g c = λ honest.
    let E = g.E.BytesPartialDecoderTraits in
    let self = c.args.self.now in
    let array = coded_part (shard_chain g.I.ArrayToBytesCodecTraits.meaning g.X.ArrayToBytesCodecTraits.meaning self) c.args.part in
    let exact = makes_a_function g.I.ArrayToBytesCodecTraits.is_function g.X.ArrayToBytesCodecTraits.is_function self in
    let stored = E.contents c.args.source.now in
    let update = update_part c.args.part c.args.bytes stored in
    let tried = E.contents c.append_part.new.source in
    (was_appended array exact update tried c.in-Ok-true.field-0 c.in-Ok-true.field-0-test (c.in-Ok-true.ensures.ok honest)).0

pub returns-in-Ok-true-clause-parts : goal.returns-in-Ok-true-clause-parts
returns-in-Ok-true-clause-parts g c = λ honest.
    let E = g.E.BytesPartialDecoderTraits in
    let self = c.args.self.now in
    let array = coded_part (shard_chain g.I.ArrayToBytesCodecTraits.meaning g.X.ArrayToBytesCodecTraits.meaning self) c.args.part in
    let exact = makes_a_function g.I.ArrayToBytesCodecTraits.is_function g.X.ArrayToBytesCodecTraits.is_function self in
    let stored = E.contents c.args.source.now in
    let update = update_part c.args.part c.args.bytes stored in
    let tried = E.contents c.append_part.new.source in
    (was_appended array exact update tried c.in-Ok-true.field-0 c.in-Ok-true.field-0-test (c.in-Ok-true.ensures.ok honest)).1

pub returns-in-Ok-true-clause-given : goal.returns-in-Ok-true-clause-given
returns-in-Ok-true-clause-given g c = λ honest.
    let E = g.E.BytesPartialDecoderTraits in
    let self = c.args.self.now in
    let array = coded_part (shard_chain g.I.ArrayToBytesCodecTraits.meaning g.X.ArrayToBytesCodecTraits.meaning self) c.args.part in
    let source = c.args.source.now in
    let update = update_part c.args.part c.args.bytes (E.contents source) in
    let ranges = g.E.BytesPartialEncoderTraits.writes_ranges source in
    let tried = tried_true ranges (E.contents source) c.in-Ok-true.field-0 c.in-Ok-true.field-0-test in
    let few = c.in-Ok-true.ensures.given honest in
    parts_given array update ranges (E.given_bytes source) (E.given_bytes c.append_part.new.source) refl (omega (arith, tried, few))

pub returns-in-Ok-false-clause-parts : goal.returns-in-Ok-false-clause-parts
returns-in-Ok-false-clause-parts g c = λ honest.
    let E = g.E.BytesPartialDecoderTraits in
    let self = c.args.self.now in
    let array = coded_part (shard_chain g.I.ArrayToBytesCodecTraits.meaning g.X.ArrayToBytesCodecTraits.meaning self) c.args.part in
    let exact = makes_a_function g.I.ArrayToBytesCodecTraits.is_function g.X.ArrayToBytesCodecTraits.is_function self in
    let stored = E.contents c.args.source.now in
    let update = update_part c.args.part c.args.bytes stored in
    let tried = E.contents c.append_part.new.source in
    let full = was_full array exact update tried c.in-Ok-false.field-0 c.in-Ok-false.field-0-test (c.in-Ok-false.ensures.ok honest) in
    let still = subst IsTrue (g.met.E.BytesPartialEncoderTraits.still_honest _ _ c.in-Ok-false.ensures.call.rewrites) honest in
    unroomed_parts array update (E.contents c.encode_whole.new.source) c.encode_whole.result refl full.1 full.2 (c.encode_whole.ensures.gapless still)

pub returns-in-Ok-false-clause-cause : goal.returns-in-Ok-false-clause-cause
returns-in-Ok-false-clause-cause g c = λ honest.
    let E = g.E.BytesPartialDecoderTraits in
    let self = c.args.self.now in
    let array = coded_part (shard_chain g.I.ArrayToBytesCodecTraits.meaning g.X.ArrayToBytesCodecTraits.meaning self) c.args.part in
    let exact = makes_a_function g.I.ArrayToBytesCodecTraits.is_function g.X.ArrayToBytesCodecTraits.is_function self in
    let stored = E.contents c.args.source.now in
    let update = update_part c.args.part c.args.bytes stored in
    let tried = E.contents c.append_part.new.source in
    let full = was_full array exact update tried c.in-Ok-false.field-0 c.in-Ok-false.field-0-test (c.in-Ok-false.ensures.ok honest) in
    let still = subst IsTrue (g.met.E.BytesPartialEncoderTraits.still_honest _ _ c.in-Ok-false.ensures.call.rewrites) honest in
    unroomed_not_put array update c.encode_whole.result refl full.2 (subst (λ (o : Option (List ℕ)). NotEncodedWhole array (update_part c.args.part c.args.bytes o) c.encode_whole.result) full.0 (c.encode_whole.ensures.cause still))

pub returns-in-Ok-false-clause-given : goal.returns-in-Ok-false-clause-given
returns-in-Ok-false-clause-given g c = λ honest.
    let E = g.E.BytesPartialDecoderTraits in
    let self = c.args.self.now in
    let array = coded_part (shard_chain g.I.ArrayToBytesCodecTraits.meaning g.X.ArrayToBytesCodecTraits.meaning self) c.args.part in
    let exact = makes_a_function g.I.ArrayToBytesCodecTraits.is_function g.X.ArrayToBytesCodecTraits.is_function self in
    let stored = E.contents c.args.source.now in
    let update = update_part c.args.part c.args.bytes stored in
    let tried = E.contents c.append_part.new.source in
    let full = was_full array exact update tried c.in-Ok-false.field-0 c.in-Ok-false.field-0-test (c.in-Ok-false.ensures.ok honest) in
    let still = subst IsTrue (g.met.E.BytesPartialEncoderTraits.still_honest _ _ c.in-Ok-false.ensures.call.rewrites) honest in
    let after = E.given_bytes c.encode_whole.new.source in
    let between = E.given_bytes c.append_part.new.source in
    let ranges = g.E.BytesPartialEncoderTraits.writes_ranges c.args.source.now in
    let nothing = tried_false ranges stored c.in-Ok-false.field-0 c.in-Ok-false.field-0-test in
    let few = c.in-Ok-false.ensures.given honest in
    unroomed_given array update ranges (E.given_bytes c.args.source.now) between after full.2 (omega (arith, nothing, few))
    (subst (λ (o : Option (List ℕ)). after ≤ between + value_length o) full.0 (c.encode_whole.ensures.given still))

pub returns-in-Err-append_part-clause-given : goal.returns-in-Err-append_part-clause-given
returns-in-Err-append_part-clause-given g c = λ honest.
    let E = g.E.BytesPartialDecoderTraits in
    let self = c.args.self.now in
    let array = coded_part (shard_chain g.I.ArrayToBytesCodecTraits.meaning g.X.ArrayToBytesCodecTraits.meaning self) c.args.part in
    let source = c.args.source.now in
    let update = update_part c.args.part c.args.bytes (E.contents source) in
    parts_given array update (g.E.BytesPartialEncoderTraits.writes_ranges source) (E.given_bytes source) (E.given_bytes c.append_part.new.source) refl (c.in-Err-append_part.ensures.given honest)
