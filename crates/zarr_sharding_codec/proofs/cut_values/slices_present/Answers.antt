use Rattle.std.proofs.Common.{◌≡◌, ◌∙◌, ◌++◌, ◌∷◌, [], List, get_or, length, map, take, ap, arith, subst, sym, true}
use Rattle.std.proofs.lemmas.List.{map_more, take_all}
use Rattle.zarr_codecs_meaning.specs.Encoding.{Pair}
use Rattle.zarr_codecs_traits.specs.declared.pieces.PieceSlice.{PieceSlice}
use Rattle.zarr_sharding_index.specs.Listed.{are_present, full_list}
use Rattle.zarr_sharding_index.specs.Present.{kept_pairs}
use Rattle.zarr_sharding_codec.specs.Pieces.{whole_slice}
use Rattle.zarr_sharding_codec.proofs.PutSlices.{no_pair}
use Rattle.zarr_sharding_codec.proofs.cut_values.slices_present.Goals as goal

pub nth-pair-requires : goal.nth-pair-requires
nth-pair-requires c = let test = c.loop-k-test.true in let kept = c.count_present-count.ensures.kept in omega (arith, test, kept)

pub loop-k-preserved : goal.loop-k-preserved
loop-k-preserved c =
    let ps = kept_pairs c.in_ok-pairs.pairs in
    let k = c.loop-k.k in
    let test = c.loop-k-test.true in
    let kept = c.count_present-count.ensures.kept in
    c.in_ok-push.ensures.items ∙ (ap (λ (ss : List PieceSlice). ss ++ whole_slice c.nth-pair.result ∷ []) c.loop-k.invariant
    ∙ (ap (λ p. map whole_slice (take k ps) ++ whole_slice p ∷ []) (c.nth-pair.ensures no_pair) ∙ sym (map_more whole_slice ps k no_pair (omega (arith, test, kept)))))

pub returns : goal.returns
returns c =
    let ps = kept_pairs c.in_ok-pairs.pairs in
    let all = c.in_ok-pairs.ensures in
    let told = c.count_present-count.ensures in
    let test = c.loop-k-test.false in
    let kept = told.kept in
    record {
      present = ps;
      listed = subst (λ (pairs : List Pair). are_present 0 (length pairs) ps ≡ true) all told.present;
      full = subst (λ (pairs : List Pair). full_list (length pairs) ps ≡ pairs) all told.all;
      are = c.loop-k.invariant ∙ ap (map whole_slice) (take_all c.loop-k.k ps (omega (arith, test, kept)));
    }
