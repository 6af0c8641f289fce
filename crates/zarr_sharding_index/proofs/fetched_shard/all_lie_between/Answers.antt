use Rattle.std.proofs.Common.{◌≡◌, ◌∙◌, ◌+◌, ◌&&◌, ap, arith, drop, false, sym, true}
use Rattle.std.specs.List.{list_all}
use Rattle.std.proofs.lemmas.List.{drop_all}
use Rattle.zarr_sharding_index.specs.Held.{lies_between}
use Rattle.zarr_sharding_index.specs.Present.{all_pairs, kept_pairs}
use Rattle.zarr_sharding_index.specs.Views.{pair_of}
use Rattle.zarr_sharding_index.specs.declared.pair.PresentPair.{PresentPair}
use Rattle.zarr_sharding_index.proofs.Lying.{lies_next, listed_lie}
use Rattle.zarr_sharding_index.proofs.fetched_shard.all_lie_between.Goals as goal

pub loop-k-preserved : goal.loop-k-preserved
loop-k-preserved c =
    let kept = kept_pairs c.args.pairs.now in
    let k = c.loop-k.k in
    let lies = λ (p : PresentPair). lies_between c.args.base c.args.end (pair_of p.range) in
    let test = c.loop-k-test.true in
    let count = c.count_present-k-end.ensures.kept in
    let so = c.if-not-lies_between.false in
    let passed : c.lies_between.result ≡ true = grind (arith, so) in
    sym (lies_next lies kept k c.nth.result c.lies_between.result (omega (arith, test, count)) c.nth.ensures c.lies_between.ensures ∙ ap (λ b. b && list_all lies (drop (k + 1) kept)) passed) ∙ c.loop-k.invariant

pub returns-then-not-lies_between : goal.returns-then-not-lies_between
returns-then-not-lies_between c =
    let kept = kept_pairs c.args.pairs.now in
    let k = c.loop-k.k in
    let lies = λ (p : PresentPair). lies_between c.args.base c.args.end (pair_of p.range) in
    let test = c.loop-k-test.true in
    let found = c.count_present-k-end.ensures in
    let count = found.kept in
    let so = c.if-not-lies_between.true in
    let failed : c.lies_between.result ≡ false = grind (arith, so) in
    let same = listed_lie c.args.base c.args.end (all_pairs c.args.pairs.now) kept found.all found.present in
    sym (same ∙ (sym c.loop-k.invariant ∙ (lies_next lies kept k c.nth.result c.lies_between.result (omega (arith, test, count)) c.nth.ensures c.lies_between.ensures ∙ ap (λ b. b && list_all lies (drop (k + 1) kept)) failed)))

pub returns : goal.returns
returns c =
    let kept = kept_pairs c.args.pairs.now in
    let lies = λ (p : PresentPair). lies_between c.args.base c.args.end (pair_of p.range) in
    let test = c.loop-k-test.false in
    let found = c.count_present-k-end.ensures in
    let count = found.kept in
    let same = listed_lie c.args.base c.args.end (all_pairs c.args.pairs.now) kept found.all found.present in
    sym (same ∙ (sym c.loop-k.invariant ∙ ap (list_all lies) (drop_all c.loop-k.k kept (omega (arith, test, count)))))
