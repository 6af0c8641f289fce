use Rattle.std.proofs.Common.{◌≡◌, ℕ, IsTrue, None, Some, Option, Err, Vec, Global, subst}
use Rattle.zarr_codecs_meaning.specs.Chunks.{chunk_decoded}
use Rattle.zarr_codecs_arrays.specs.Views.{elements_of, payload_of}
use Rattle.zarr_codecs_traits.specs.Arrays.{coded, update_of}
use Rattle.zarr_codecs_traits.specs.Indexers.{asked_of}
use Rattle.zarr_codecs_traits.specs.PartWriting.{WholeRefused}
use Rattle.zarr_codecs_traits.specs.ShardWrites.{IsStoredGapless}
use Rattle.zarr_codecs_traits.specs.Sources.{value_bytes}
use Rattle.zarr_codecs_traits.proofs.Damage.{not_put}
use Rattle.zarr_codecs_regions.proofs.WholeWrites.{stored_gapless}
use Rattle.zarr_codecs_regions.proofs.whole.encode_whole.Goals as goal

pub returns-in-Err-clause-cause : goal.returns-in-Err-clause-cause
returns-in-Err-clause-cause g c = λ _.
    let chain = g.C.WholeValues.meaning c.args.codec.now in
    let elements = elements_of c.args.part.elements.now in
    let shape = c.args.part.shape.now in
    let stored = g.E.BytesPartialDecoderTraits.contents c.args.source.now in
    not_put {A = Unit {0}} ⊥ (chunk_decoded chain elements shape stored ≡ None) (λ after. ⊥) (WholeRefused chain elements shape) (coded chain elements shape) (update_of (asked_of c.args.part.indexer) (payload_of c.args.bytes) stored) (Err c.in-Err.error)
    (λ none. absurd none) (λ after none. absurd none) (c.in-Err.ensures.cause stored)

pub returns-in-Ok-Some-clause-rewrites : goal.returns-in-Ok-Some-clause-rewrites
returns-in-Ok-Some-clause-rewrites g c =
    g.met.E.BytesPartialEncoderTraits.writes_on c.args.source.now c.read_value.new.source c.set.new.self (g.met.E.BytesPartialEncoderTraits.reads c.args.source.now c.read_value.new.source c.read_value.ensures.follows) c.set.ensures.rewrites

pub returns-in-Ok-None-clause-rewrites : goal.returns-in-Ok-None-clause-rewrites
returns-in-Ok-None-clause-rewrites g c =
    g.met.E.BytesPartialEncoderTraits.writes_on c.args.source.now c.read_value.new.source c.erase.new.self (g.met.E.BytesPartialEncoderTraits.reads c.args.source.now c.read_value.new.source c.read_value.ensures.follows) c.erase.ensures.rewrites

pub returns-in-Ok-Some-clause-gapless : goal.returns-in-Ok-Some-clause-gapless
returns-in-Ok-Some-clause-gapless g c = λ honest.
    let chain = g.C.WholeValues.meaning c.args.codec.now in
    let shape = c.args.part.shape.now in
    let still = subst IsTrue (g.met.E.BytesPartialDecoderTraits.honest c.args.source.now c.read_value.new.source c.read_value.ensures.follows) honest in
    let gapless = subst (λ (value : Option (Vec ℕ Global)). IsStoredGapless chain shape (value_bytes value)) c.in-Ok-Some.field-0-is c.in-Ok-Some.ensures.gapless in
    stored_gapless c.set.result chain shape (Some c.in-Ok-Some.value.items) (g.E.BytesPartialDecoderTraits.contents c.set.new.self) gapless (c.set.ensures.ok still)

pub returns-in-Ok-None-clause-gapless : goal.returns-in-Ok-None-clause-gapless
returns-in-Ok-None-clause-gapless g c = λ honest.
    let chain = g.C.WholeValues.meaning c.args.codec.now in
    let shape = c.args.part.shape.now in
    let still = subst IsTrue (g.met.E.BytesPartialDecoderTraits.honest c.args.source.now c.read_value.new.source c.read_value.ensures.follows) honest in
    stored_gapless c.erase.result chain shape None (g.E.BytesPartialDecoderTraits.contents c.erase.new.self) tt (c.erase.ensures.ok still)
