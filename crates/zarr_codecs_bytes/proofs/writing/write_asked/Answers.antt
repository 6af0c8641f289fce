use Rattle.std.proofs.Common.{◌≡◌, ◌∙◌, ap, arith, option_map, subst, sym, Bool, IsTrue, Err, List, ℕ, Option}
use Rattle.zarr_codecs_arrays.specs.Views.{elements_of, payload_of}
use Rattle.zarr_codecs_traits.specs.Indexers.{asked_of}
use Rattle.zarr_codecs_traits.specs.Arrays.{coded, coded_part, update_of, update_part}
use Rattle.zarr_codecs_traits.specs.PartWriting.{NotEncodedWhole}
use Rattle.zarr_codecs_traits.specs.Sources.{value_length}
use Rattle.zarr_codecs_traits.specs.Writes.{most_to_patch}
use Rattle.zarr_codecs_traits.proofs.Damage.{untaken_not_put}
use Rattle.zarr_codecs_bytes.specs.Views.{bytes_chain, order_of}
use Rattle.zarr_codecs_bytes.proofs.Unstored.{nothing_held, unstored_not_put}
use Rattle.zarr_codecs_bytes.proofs.writing.write_asked.Goals as goal

pub returns-in-Err-clause-cause : goal.returns-in-Err-clause-cause
returns-in-Err-clause-cause g c = λ _.
    let chain = bytes_chain c.args.codec in
    let elements = elements_of c.args.part.elements.now in
    let shape = c.args.part.shape.now in
    let stored = g.E.BytesPartialDecoderTraits.contents c.args.source.now in
    untaken_not_put {A = Unit {0}} (coded chain elements shape) (update_of (asked_of c.args.part.indexer) (payload_of c.args.bytes) stored) (Err c.in-Err.error) (c.in-Err.ensures.cause stored)

pub returns-in-Ok-Some-clause-given : goal.returns-in-Ok-Some-clause-given
returns-in-Ok-Some-clause-given g c = λ honest.
    let E = g.E.BytesPartialDecoderTraits in
    let ranges = g.E.BytesPartialEncoderTraits.writes_ranges in
    let reading = g.met.E.BytesPartialDecoderTraits in
    let laws = g.met.E.BytesPartialEncoderTraits in
    let follows = c.size.ensures.follows in
    let still = subst IsTrue (reading.honest c.args.source.now c.size.new.self follows) honest in
    let first = laws.still_ranges c.args.source.now c.size.new.self (laws.reads c.args.source.now c.size.new.self follows) in
    let patch = ap (λ (b : Bool). most_to_patch b (E.contents c.args.source.now)) first ∙ ap (most_to_patch (ranges c.size.new.self)) (reading.same c.args.source.now c.size.new.self follows) in
    let same = c.size.ensures.given in
    let after = c.write_over.ensures.given still in
    omega (arith, same, patch, after)

pub returns-in-Ok-None-clause-given : goal.returns-in-Ok-None-clause-given
returns-in-Ok-None-clause-given g c = λ honest.
    let E = g.E.BytesPartialDecoderTraits in
    let reading = g.met.E.BytesPartialDecoderTraits in
    let follows = c.size.ensures.follows in
    let still = subst IsTrue (reading.honest c.args.source.now c.size.new.self follows) honest in
    let none = nothing_held (E.contents c.args.source.now) (sym c.in-Ok-None.field-0-is ∙ c.in-Ok-None.ensures.size honest) in
    let nothing : value_length (E.contents c.size.new.self) ≡ 0 = ap value_length (sym (reading.same c.args.source.now c.size.new.self follows)) ∙ ap value_length none in
    let same = c.size.ensures.given in
    let after = c.encode_whole.ensures.given still in
    omega (arith, same, after, nothing)

pub returns-in-Ok-None-clause-cause : goal.returns-in-Ok-None-clause-cause
returns-in-Ok-None-clause-cause g c = λ honest.
    let E = g.E.BytesPartialDecoderTraits in
    let reading = g.met.E.BytesPartialDecoderTraits in
    let follows = c.size.ensures.follows in
    let still = subst IsTrue (reading.honest c.args.source.now c.size.new.self follows) honest in
    let stored = E.contents c.args.source.now in
    let none = nothing_held stored (sym c.in-Ok-None.field-0-is ∙ c.in-Ok-None.ensures.size honest) in
    unstored_not_put (option_map order_of c.args.codec.endian) (elements_of c.args.part.elements.now) c.args.part.shape.now (update_part c.args.part c.args.bytes stored) c.encode_whole.result none
    (subst (λ (o : Option (List ℕ)). NotEncodedWhole (coded_part (bytes_chain c.args.codec) c.args.part) (update_part c.args.part c.args.bytes o) c.encode_whole.result) (sym (reading.same c.args.source.now c.size.new.self follows)) (c.encode_whole.ensures.cause still))
