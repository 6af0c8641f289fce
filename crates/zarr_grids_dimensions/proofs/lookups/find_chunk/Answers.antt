use Rattle.std.proofs.Common.{◌<◌, ◌≤◌, length, sym, refl, arith, subst, List, ℕ, ◌+◌, drop}
use Rattle.zarr_grids_dimensions.specs.Dimensions.{grid_of}
use Rattle.zarr_grids_dimensions.proofs.PlaceWalk.{FoundSoFar, found-step, found-none, found-all}
use Rattle.zarr_grids_dimensions.proofs.lookups.find_chunk.Goals as goal

pub loop-k-preserved : goal.loop-k-preserved
loop-k-preserved c =
    let l : c.loop-k.k < length c.args.place.now = omega arith in
    let e = c.in_ok-push.ensures.items in
    subst (λ (ns : List ℕ). FoundSoFar (grid_of c.args.grid.now) c.args.place.now ns (grid_of (drop (c.loop-k.k + 1) c.args.grid.now)) (drop (c.loop-k.k + 1) c.args.place.now)) (sym e)
    (found-step _ _ _ _ _ c.in-Some.chunk c.index-grid-k.result c.loop-k-test.true l c.index-grid-k.is refl c.in-Some.ensures c.loop-k.invariant)

pub returns-in_default : goal.returns-in_default
returns-in_default c =
    let l : c.loop-k.k < length c.args.place.now = omega arith in
    λ chunk. found-none _ _ _ _ _ c.index-grid-k.result c.loop-k-test.true l c.index-grid-k.is refl c.in_default.ensures c.loop-k.invariant chunk

pub returns : goal.returns
returns c = let l : length c.args.place.now ≤ c.loop-k.k = omega arith in λ chunk. found-all _ _ _ _ c.loop-k-test.false l c.loop-k.invariant chunk
