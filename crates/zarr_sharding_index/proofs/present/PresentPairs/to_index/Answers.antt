use Rattle.std.proofs.Common.{◌∙◌, List, length, ap, arith, set, sym, take}
use Rattle.std.proofs.lemmas.List.{take_all}
use Rattle.zarr_codecs_meaning.specs.Encoding.{Pair, absent_pair}
use Rattle.zarr_sharding_index.specs.Listed.{full_list}
use Rattle.zarr_sharding_index.specs.Present.{kept_pairs}
use Rattle.zarr_sharding_index.specs.Views.{pair_of}
use Rattle.zarr_sharding_index.specs.declared.pair.PresentPair.{PresentPair}
use Rattle.zarr_sharding_index.proofs.Listed.{are_listed, full_absent, full_length, full_more, number_below}
use Rattle.zarr_sharding_index.proofs.Numbered.{one}
use Rattle.zarr_sharding_index.proofs.present.PresentPairs.to_index.Goals as goal

abbrev nothing : PresentPair
nothing = one 0 absent_pair

pub loop-k-init : goal.loop-k-init
loop-k-init c = c.in_ok-index.ensures ∙ sym (full_absent c.args.self.now.count)

pub nth-pair-requires : goal.nth-pair-requires
nth-pair-requires c = let test = c.loop-k-test.true in let kept = c.count_present-k-end.ensures.kept in omega (arith, test, kept)

pub put-requires : goal.put-requires
put-requires c =
    let self = c.args.self.now in
    let ps = kept_pairs self in
    let k = c.loop-k.k in
    let test = c.loop-k-test.true in
    let kept = c.count_present-k-end.ensures.kept in
    let below = number_below 0 self.count ps k nothing (are_listed 0 self.count ps self.listed) (omega (arith, test, kept)) in
    let same = ap (λ (p : PresentPair). p.number) (c.nth-pair.ensures nothing) in
    let long = ap (λ (pairs : List Pair). length pairs) c.loop-k.invariant ∙ full_length self.count (take k ps) in
    omega (arith, below, long, same)

pub loop-k-preserved : goal.loop-k-preserved
loop-k-preserved c =
    let self = c.args.self.now in
    let ps = kept_pairs self in
    let k = c.loop-k.k in
    let test = c.loop-k-test.true in
    let kept = c.count_present-k-end.ensures.kept in
    let same = c.nth-pair.ensures nothing in
    c.put.ensures ∙ (ap (λ (pairs : List Pair). set pairs c.nth-pair.result.number (pair_of c.nth-pair.result.range)) c.loop-k.invariant
    ∙ (ap (λ (p : PresentPair). set (full_list self.count (take k ps)) p.number (pair_of p.range)) same
    ∙ sym (full_more self.count k ps nothing (are_listed 0 self.count ps self.listed) (omega (arith, test, kept)))))

pub returns : goal.returns
returns c =
    let self = c.args.self.now in
    let ps = kept_pairs self in
    let test = c.loop-k-test.false in
    let kept = c.count_present-k-end.ensures.kept in
    c.loop-k.invariant ∙ ap (full_list self.count) (take_all c.loop-k.k ps (omega (arith, test, kept)))
