use Rattle.std.proofs.Common.{◌≡◌, ◌<◌, ◌≤◌, ◌+◌, ◌++◌, ℕ, List, length, drop, sym, refl, arith, subst, option_map}
use Rattle.zarr_grids_dimensions.specs.Chunks.{in_each, first_of}
use Rattle.zarr_grids_dimensions.specs.Dimensions.{grid_of}
use Rattle.zarr_grids_dimensions.proofs.EachWalk.{each-step, each-none, each-all}
use Rattle.zarr_grids_dimensions.proofs.lookups.find_origin.Goals as goal

pub loop-k-preserved : goal.loop-k-preserved
loop-k-preserved c =
    let l : c.loop-k.k < length c.args.chunk.now = omega arith in
    let e = c.in_ok-push.ensures.items in
    subst (λ (ms : List ℕ). in_each first_of (grid_of c.args.grid.now) c.args.chunk.now ≡ option_map (λ (ns : List ℕ). ms ++ ns) (in_each first_of (grid_of (drop (c.loop-k.k + 1) c.args.grid.now)) (drop (c.loop-k.k + 1) c.args.chunk.now))) (sym e)
    (each-step first_of _ _ _ _ _ c.in-Some.first c.index-grid-k.result _ c.loop-k-test.true l c.index-grid-k.is refl c.in-Some.ensures c.loop-k.invariant)

pub returns-in_default : goal.returns-in_default
returns-in_default c =
    let l : c.loop-k.k < length c.args.chunk.now = omega arith in
    each-none first_of _ _ _ _ _ c.index-grid-k.result _ c.loop-k-test.true l c.index-grid-k.is refl c.in_default.ensures c.loop-k.invariant

pub returns : goal.returns
returns c = let l : length c.args.chunk.now ≤ c.loop-k.k = omega arith in each-all first_of _ _ _ _ _ c.loop-k-test.false l c.loop-k.invariant
