use Rattle.std.proofs.Common.{rules, ◌≡◌, ◌∙◌, sym, true, length}
use Rattle.std.proofs.lemmas.Bool.{eqb-false}
use Rattle.zarr_codecs_arrays.specs.Views.{elements_of, payload_of}
use Rattle.zarr_codecs_traits.specs.Indexers.{asked_of}
use Rattle.zarr_codecs_chains.specs.Views.{bytes_meaning, meaning_of}
use Rattle.zarr_codecs_around.proofs.Telling.{no_ranges_before, none_asked}
use Rattle.zarr_codecs_chains.proofs.chain.CodecChainArrayToBytesCodecTraits.encode_patches.Goals as goal

pub returns-then-not-is_empty : goal.returns-then-not-is_empty
returns-then-not-is_empty g c =
    let meaning = g.B.BytesToBytesCodecTraits.meaning in
    let codecs = c.args.self.now.array_to_array in
    let some = eqb-false codecs.len 0 (sym c.is_empty.ensures ∙ c.if-not-is_empty.true) in
    let same : codecs.len ≡ length codecs.items = search rules in
    none_asked (meaning_of meaning c.args.self.now) true (elements_of c.args.part.elements.now) c.args.part.shape.now (asked_of c.args.part.indexer) (payload_of c.args.bytes)
    (no_ranges_before codecs.items (bytes_meaning meaning c.args.self.now.others) (λ e. some (same ∙ e)))
