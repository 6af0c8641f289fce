use Rattle.std.proofs.Common.{rules, ◌≡◌, ◌∙◌, sym, length}
use Rattle.std.proofs.lemmas.Bool.{eqb-false}
use Rattle.zarr_codecs_arrays.specs.Views.{elements_of, payload_of}
use Rattle.zarr_codecs_traits.specs.Indexers.{asked_of}
use Rattle.zarr_codecs_around.specs.ThenBytes.{then_meaning}
use Rattle.zarr_codecs_around.proofs.Telling.{no_ranges_with, none_asked}
use Rattle.zarr_codecs_around.proofs.then_bytes.ThenBytesArrayToBytesCodecTraits.encode_patches.Goals as goal

pub returns-then-not-is_empty : goal.returns-then-not-is_empty
returns-then-not-is_empty g c =
    let meaning = g.B.BytesToBytesCodecTraits.meaning in
    let codecs = c.args.self.now.bytes_to_bytes in
    let some = eqb-false codecs.len 0 (sym c.is_empty.ensures ∙ c.if-not-is_empty.true) in
    let same : codecs.len ≡ length codecs.items = search rules in
    none_asked (then_meaning g.A.ArrayToBytesCodecTraits.meaning meaning c.args.self.now) (g.A.ArrayToBytesCodecTraits.is_function c.args.self.now.codec) (elements_of c.args.part.elements.now) c.args.part.shape.now (asked_of c.args.part.indexer) (payload_of c.args.bytes)
    (no_ranges_with (g.A.ArrayToBytesCodecTraits.meaning c.args.self.now.codec) meaning codecs.items (λ e. some (same ∙ e)))
