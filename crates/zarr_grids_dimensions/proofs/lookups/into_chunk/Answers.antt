use Rattle.std.proofs.Common.{rules, ◌∙◌, ◌<◌, ◌≤◌, ◌+◌, length, take, drop, sym, refl, arith, subst, List, ℕ}
use Rattle.std.proofs.lemmas.List.{take_more_set, take_all, get_or_default}
use Rattle.zarr_grids_dimensions.specs.Dimensions.{grid_of}
use Rattle.zarr_grids_dimensions.proofs.PlaceWalk.{FoundSoFar, found-step, found-none, found-all}
use Rattle.zarr_grids_dimensions.proofs.lookups.into_chunk.Goals as goal

pub loop-k-preserved : goal.loop-k-preserved
loop-k-preserved c =
    let k = c.loop-k.k in
    let kept = c.loop-k.invariant in
    let less : k < length c.args.place.items = omega (arith, c.requires, c.loop-k-test.true) in
    let here : k < length c.loop-k.place.items = omega (arith, less, kept.len) in
    let same = c.index-number.ensures ∙ get_or_default c.loop-k.place.items k c.index-number.result.now 0 here ∙ kept.same k (omega arith) in
    record {
      found = subst (λ (ns : List ℕ). FoundSoFar (grid_of c.args.grid.now) c.args.place.items ns (grid_of (drop (k + 1) c.args.grid.now)) (drop (k + 1) c.args.place.items)) (sym (take_more_set c.loop-k.place.items k c.in-Some.chunk here))
          (found-step _ _ _ _ _ c.in-Some.chunk c.index-grid-k.result c.loop-k-test.true less c.index-grid-k.is same c.in-Some.ensures kept.found);
      len = search rules;
      same = λ j low. search rules;
    }

pub returns-in_default : goal.returns-in_default
returns-in_default c =
    let kept = c.loop-k.invariant in
    let less : c.loop-k.k < length c.args.place.items = omega (arith, c.requires, c.loop-k-test.true) in
    let here : c.loop-k.k < length c.loop-k.place.items = omega (arith, less, kept.len) in
    let same = c.index-number.ensures ∙ get_or_default c.loop-k.place.items c.loop-k.k c.index-number.result.now 0 here ∙ kept.same c.loop-k.k (omega arith) in
    λ chunk. found-none _ _ _ _ _ c.index-grid-k.result c.loop-k-test.true less c.index-grid-k.is same c.in_default.ensures kept.found chunk

pub returns : goal.returns
returns c =
    let kept = c.loop-k.invariant in
    let less : length c.args.place.items ≤ c.loop-k.k = omega (arith, c.requires, c.loop-k-test.false) in
    let whole = take_all c.loop-k.k c.loop-k.place.items (omega (arith, less, kept.len)) in
    λ chunk. found-all _ _ _ _ c.loop-k-test.false less (subst (λ (ns : List ℕ). FoundSoFar (grid_of c.args.grid.now) c.args.place.items ns (grid_of (drop c.loop-k.k c.args.grid.now)) (drop c.loop-k.k c.args.place.items)) whole kept.found) chunk
