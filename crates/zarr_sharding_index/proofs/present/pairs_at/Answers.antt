use Rattle.std.proofs.Common.{◌∙◌, ◌++◌, ◌∷◌, [], List, ap, length, map, sym, take}
use Rattle.std.specs.Prelude.{nat_lt}
use Rattle.std.proofs.lemmas.Bool.{ltb-true}
use Rattle.std.proofs.lemmas.List.{map_more, take_all}
use Rattle.zarr_codecs_meaning.specs.Encoding.{Pair}
use Rattle.zarr_sharding_index.specs.Views.{pair_of, pairs_of}
use Rattle.zarr_sharding_index.proofs.Numbered.{at, each_of}
use Rattle.zarr_sharding_index.proofs.present.pairs_at.Goals as goal

pub loop-number-init : goal.loop-number-init
loop-number-init c = c.new-pairs.ensures

pub get-requires : goal.get-requires
get-requires c =
    let count = length (pairs_of c.args.index.now) in
    ltb-true _ count (each_of (λ n. nat_lt n count) c.args.numbers.now c.loop-number.number-index 0 c.requires c.loop-number-test.true)

pub loop-number-preserved : goal.loop-number-preserved
loop-number-preserved c =
    let pairs = pairs_of c.args.index.now in
    let ns = c.args.numbers.now in
    let i = c.loop-number.number-index in
    c.in_ok-push.ensures.ok ∙ (ap (λ (ps : List Pair). ps ++ pair_of c.get.result ∷ []) c.loop-number.invariant
    ∙ (ap (λ (p : Pair). map (at pairs) (take i ns) ++ p ∷ []) c.get.ensures ∙ sym (map_more (at pairs) ns i 0 c.loop-number-test.true)))

pub returns : goal.returns
returns c = c.shrink_to_fit.ensures ∙ (c.loop-number.invariant ∙ ap (map (at (pairs_of c.args.index.now))) (take_all c.loop-number.number-index c.args.numbers.now c.loop-number-test.false))
