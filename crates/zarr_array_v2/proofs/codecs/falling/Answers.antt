use Rattle.std.proofs.Common.{◌≡◌, ◌+◌, ◌-◌, [], ◌∷◌, ◌++◌, map, sym, ap, ◌∙◌, arith}
use Rattle.std.proofs.lemmas.List.{map-append}
use Rattle.serde_json.specs.View.{view}
use Rattle.zarr_array_v2.specs.Codecs.{falling}
use Rattle.zarr_array_v2.proofs.Falling.{before, falling_next, falling_last}
use Rattle.zarr_array_v2.proofs.codecs.falling.Goals as goal

pub loop-passed-preserved : goal.loop-passed-preserved
loop-passed-preserved c =
    let n = c.args.dimensions in
    let i = c.loop-passed.passed in
    let old = c.loop-passed.list.items in
    let made = map-append view old (c.from.result ∷ []) ∙ ap (λ d. map view old ++ d ∷ []) c.from.ensures in
    ap (λ vs. before (map view vs) (falling (n - (i + 1)))) c.in_ok-push.ensures.items ∙ ap (λ ds. before ds (falling (n - (i + 1)))) made ∙ falling_next (map view old) n i c.loop-passed-test.true ∙ c.loop-passed.invariant

pub returns : goal.returns
returns c =
    let n = c.args.dimensions in
    let done = map view c.loop-passed.list.items in
    let all : n ≡ c.loop-passed.passed = omega arith in
    sym (falling_last done n) ∙ ap (λ k. before done (falling (n - k))) all ∙ c.loop-passed.invariant
