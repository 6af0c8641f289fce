use Rattle.std.proofs.Common.{◌≡◌, ◌<◌, ◌≤◌, ◌+◌, ◌++◌, ◌∷◌, [], ℕ, List, length, drop, sym, refl, arith, subst, option_map}
use Rattle.zarr_grids_chunks.specs.Grids.{chunk_box}
use Rattle.zarr_grids_dimensions.specs.Intervals.{addressable_of}
use Rattle.zarr_grids_dimensions.specs.Dimensions.{grid_of}
use Rattle.zarr_grids_dimensions.proofs.BoxWalk.{after, box-step, box-all, box-fits}
use Rattle.zarr_grids_dimensions.proofs.lookups.find_subset.Goals as goal

pub loop-k-preserved : goal.loop-k-preserved
loop-k-preserved c =
    let l : c.loop-k.k < length c.args.chunk.now = omega arith in
    let s = box-step _ _ _ _ _ _ (addressable_of c.in-Some.interval) c.index-grid-k.result _ c.loop-k-test.true l c.index-grid-k.is refl c.in-Some.ensures c.loop-k.invariant in
    subst (λ (ms : List ℕ). chunk_box (grid_of c.args.grid.now) c.args.chunk.now ≡ option_map (after c.push.new.self.items ms) (chunk_box (grid_of (drop (c.loop-k.k + 1) c.args.grid.now)) (drop (c.loop-k.k + 1) c.args.chunk.now))) (sym c.in_ok-push-2.ensures.items)
    (subst (λ (ns : List ℕ). chunk_box (grid_of c.args.grid.now) c.args.chunk.now ≡ option_map (after ns (c.loop-k.shape.items ++ c.in-Some.interval.count ∷ [])) (chunk_box (grid_of (drop (c.loop-k.k + 1) c.args.grid.now)) (drop (c.loop-k.k + 1) c.args.chunk.now))) (sym c.in_ok-push.ensures.items) s)

pub invariant_of-result : goal.invariant_of-result
invariant_of-result c =
    let l : length c.args.chunk.now ≤ c.loop-k.k = omega arith in
    let f = box-fits (grid_of c.args.grid.now) c.args.chunk.now _ (box-all _ _ _ _ _ _ c.loop-k-test.false l c.loop-k.invariant) in
    record { same = f.same; fit = f.fit }

pub returns : goal.returns
returns c = let l : length c.args.chunk.now ≤ c.loop-k.k = omega arith in box-all _ _ _ _ _ _ c.loop-k-test.false l c.loop-k.invariant
