use Rattle.std.proofs.Common.{◌≡◌, ◌∙◌, ◌+◌, ◌<◌, ◌&&◌, ap, arith, drop, length, false, sym, true}
use Rattle.std.specs.List.{list_all}
use Rattle.std.proofs.lemmas.List.{drop_all, get_or_default}
use Rattle.zarr_codecs_meaning.specs.Encoding.{absent_pair}
use Rattle.zarr_sharding_index.specs.Held.{lies_within}
use Rattle.zarr_sharding_index.specs.Views.{pair_of, pairs_of}
use Rattle.zarr_sharding_index.proofs.Lying.{lies_next}
use Rattle.zarr_sharding_index.proofs.fetched_shard.all_lie_within.Goals as goal

pub loop-n-preserved : goal.loop-n-preserved
loop-n-preserved c =
    let pairs = pairs_of c.args.index.now in
    let n = c.loop-n.n in
    let lies = lies_within c.args.base c.args.end in
    let test = c.loop-n-test.true in
    let count = c.len-n-end.ensures in
    let so = c.if-not-lies_within.false in
    let passed : c.lies_within.result ≡ true = grind (arith, so) in
    let low : n < length pairs = omega (arith, test, count) in
    sym (lies_next lies pairs n (pair_of c.get.result) c.lies_within.result low (λ d. c.get.ensures ∙ get_or_default pairs n absent_pair d low) c.lies_within.ensures ∙ ap (λ b. b && list_all lies (drop (n + 1) pairs)) passed) ∙ c.loop-n.invariant

pub returns-then-not-lies_within : goal.returns-then-not-lies_within
returns-then-not-lies_within c =
    let pairs = pairs_of c.args.index.now in
    let n = c.loop-n.n in
    let lies = lies_within c.args.base c.args.end in
    let test = c.loop-n-test.true in
    let count = c.len-n-end.ensures in
    let so = c.if-not-lies_within.true in
    let failed : c.lies_within.result ≡ false = grind (arith, so) in
    let low : n < length pairs = omega (arith, test, count) in
    sym (sym c.loop-n.invariant ∙ (lies_next lies pairs n (pair_of c.get.result) c.lies_within.result low (λ d. c.get.ensures ∙ get_or_default pairs n absent_pair d low) c.lies_within.ensures ∙ ap (λ b. b && list_all lies (drop (n + 1) pairs)) failed))

pub returns : goal.returns
returns c =
    let pairs = pairs_of c.args.index.now in
    let lies = lies_within c.args.base c.args.end in
    let test = c.loop-n-test.false in
    let count = c.len-n-end.ensures in
    sym (sym c.loop-n.invariant ∙ ap (list_all lies) (drop_all c.loop-n.n pairs (omega (arith, test, count))))
