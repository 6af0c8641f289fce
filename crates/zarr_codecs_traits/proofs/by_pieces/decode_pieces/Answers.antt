use Rattle.std.proofs.Common.{rules, ◌≡◌, ℕ, ◌<◌, ◌-◌, ◌∙◌, Result, ap, arith, length, subst}
use Rattle.std.specs.List.{AllZip, range_with_len}
use Rattle.rayon.specs.Numbers.{nat_range}
use Rattle.rayon.proofs.ListFacts.{IfOk-then}
use Rattle.rayon.proofs.ToStd.{nat_range-All}
use Rattle.zarr_codecs_arrays.specs.Views.{elements_of}
use Rattle.zarr_codecs_arrays.specs.declared.array_bytes.ArrayBytes.{ArrayBytes}
use Rattle.zarr_codecs_arrays.specs.declared.error.CodecError.{CodecError}
use Rattle.zarr_codecs_traits.specs.Pieces.{AnswersPiece}
use Rattle.zarr_codecs_traits.proofs.by_pieces.decode_pieces.Goals as goal

pub collect-requires-clause-ready : goal.collect-requires-clause-ready
collect-requires-clause-ready g c κs within =
    let slices = c.args.pieces.now.slices in
    let same : slices.len ≡ length slices.items = search rules in
    let ends = c.into_par_iter.ensures in
    let last = ends.1 ∙ (c.len-count.ensures ∙ same) in
    let n = length slices.items in
    let inside = nat_range-All (λ i. i < n) 0 n (λ i low high. high) in
    rw (c.map.ensures.base, c.with_min_len.ensures.base, c.map.ensures.f, ends.0, last) (λ k d lt. (inside k d lt, λ y p. tt))

pub returns : goal.returns
returns g c =
    let slices = c.args.pieces.now.slices in
    let same : slices.len ≡ length slices.items = search rules in
    let ends = c.into_par_iter.ensures in
    let last = ends.1 ∙ (c.len-count.ensures ∙ same) in
    let n = length slices.items in
    let whole : n - 0 ≡ n = omega arith in
    let each : ℕ → Result ArrayBytes CodecError → Type 0 = λ n r. AnswersPiece (g.C.ArrayToBytesCodecTraits.decodes_piece c.args.codec.now (elements_of c.args.elements.now) c.args.pieces.now n) r in
    IfOk-then c.collect.result _ _ c.collect.ensures (λ v h.
    let chain = rw (c.map.ensures.base, c.with_min_len.ensures.base, c.map.ensures.f) at h.1 in
    let places = chain.1 ∙ (λ i. nat_range (ends.0 i) (last i)) ∙ ap (range_with_len 0) whole in
    rw h.2 (subst (λ ns. AllZip each ns h.0) places chain.2))
