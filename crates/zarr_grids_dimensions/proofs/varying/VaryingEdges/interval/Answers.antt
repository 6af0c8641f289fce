use Rattle.std.proofs.Common.{◌≡◌, ◌*◌, ◌<◌, length, refl, sym, arith}
use Rattle.zarr_grids_dimensions.specs.declared.repeat.RepeatedEdge.{RepeatedEdge}
use Rattle.zarr_grids_dimensions.proofs.VaryingIntervals.{interval-at}
use Rattle.zarr_grids_dimensions.proofs.VaryingLookups.{starts-length, chunk_searched, chunk_past, chunk_within, interval-past}
use Rattle.zarr_grids_dimensions.proofs.varying.VaryingEdges.interval.Goals as goal

pub returns-then-at-len : goal.returns-then-at-len
returns-then-at-len c =
    let n : c.repeat_of-at.result ≡ length c.args.self.now.repeats.items = omega arith in
    let past = chunk_past _ _ _ _ _ c.args.self.now.chunks refl n c.repeat_of-at.ensures.at_most in
    sym (interval-past c.args.self.now.size _ _ past)

pub index-requires : goal.index-requires
index-requires c = let l = starts-length (λ (r : RepeatedEdge). r.count) _ _ c.args.self.now.chunks in let w = c.repeat_of-at.ensures.within in omega arith

pub index-requires-3 : goal.index-requires-3
index-requires-3 c =
    let k = starts-length (λ (r : RepeatedEdge). r.count * r.edge) _ _ c.args.self.now.places in
    let l = starts-length (λ (r : RepeatedEdge). r.count) _ _ c.args.self.now.chunks in
    let w = c.repeat_of-at.ensures.within in
    let h : c.repeat_of-at.result < length c.args.self.now.repeats.items = omega arith in
    omega arith

pub overflow_add-result : goal.overflow_add-result
overflow_add-result c =
    let l = starts-length (λ (r : RepeatedEdge). r.count) _ _ c.args.self.now.chunks in
    let w = c.repeat_of-at.ensures.within in
    let h : c.repeat_of-at.result < length c.args.self.now.repeats.items = omega arith in
    let b = chunk_within _ _ _ _ (chunk_searched _ _ _ _ _ c.args.chunk c.index.result.now _ _ c.args.self.now.chunks c.args.self.now.places refl h c.index.ensures c.index-2.ensures c.index-3.ensures c.repeat_of-at.ensures.at_most (λ _. c.repeat_of-at.ensures.next)) in
    let extent = c.args.self.now.extent in
    omega arith

pub returns : goal.returns
returns c =
    let l = starts-length (λ (r : RepeatedEdge). r.count) _ _ c.args.self.now.chunks in
    let w = c.repeat_of-at.ensures.within in
    let h : c.repeat_of-at.result < length c.args.self.now.repeats.items = omega arith in
    sym (interval-at c.args.self.now.size _ _ _ _ (chunk_searched _ _ _ _ _ c.args.chunk c.index.result.now _ _ c.args.self.now.chunks c.args.self.now.places refl h c.index.ensures c.index-2.ensures c.index-3.ensures c.repeat_of-at.ensures.at_most (λ _. c.repeat_of-at.ensures.next)))
