use Rattle.std.proofs.Common.{◌≡◌, ◌∙◌, ◌+◌, ◌<◌, ◌≤◌, length, get_or, ap, arith}
use Rattle.zarr_grids_dimensions.specs.declared.repeat.RepeatedEdge.{RepeatedEdge}
use Rattle.zarr_grids_dimensions.specs.RepeatedEdges.{expanded}
use Rattle.zarr_grids_dimensions.proofs.VaryingLookups.{starts-length, starts-first, starts-ordered, chunks_single}
use Rattle.zarr_grids_dimensions.proofs.varying.VaryingEdges.repeat_of.Goals as goal

pub last_at_most-requires-clause-some : goal.last_at_most-requires-clause-some
last_at_most-requires-clause-some c = let l = starts-length (λ (r : RepeatedEdge). r.count) _ _ c.args.self.now.chunks in omega arith

pub last_at_most-requires-clause-first : goal.last_at_most-requires-clause-first
last_at_most-requires-clause-first c = let z = starts-first (λ (r : RepeatedEdge). r.count) _ _ (c.deref.ensures.value ∙ c.args.self.now.chunks) in omega arith

pub returns-then-chunk_count-repeats-clause-within : goal.returns-then-chunk_count-repeats-clause-within
returns-then-chunk_count-repeats-clause-within c =
    let l = starts-length (λ (r : RepeatedEdge). r.count) _ _ c.args.self.now.chunks in
    let m = c.min.ensures in
    omega arith

pub returns-then-chunk_count-repeats-clause-at_most : goal.returns-then-chunk_count-repeats-clause-at_most
returns-then-chunk_count-repeats-clause-at_most c =
    let n : length (expanded c.args.self.now.repeats.items) ≡ length c.args.self.now.repeats.items = omega arith in
    let m = c.min.ensures in
    let h : c.min.result ≤ length c.args.self.now.repeats.items = omega arith in
    let e = chunks_single _ _ c.min.result c.args.self.now.chunks c.args.self.now.counted n h in
    omega arith

pub returns-then-chunk_count-repeats-clause-next : goal.returns-then-chunk_count-repeats-clause-next
returns-then-chunk_count-repeats-clause-next c = λ less.
    let n : length (expanded c.args.self.now.repeats.items) ≡ length c.args.self.now.repeats.items = omega arith in
    let l = starts-length (λ (r : RepeatedEdge). r.count) _ _ c.args.self.now.chunks in
    let m = c.min.ensures in
    let h : c.min.result + 1 ≤ length c.args.self.now.repeats.items = omega arith in
    let e = chunks_single _ _ (c.min.result + 1) c.args.self.now.chunks c.args.self.now.counted n h in
    omega arith

pub returns-clause-next : goal.returns-clause-next
returns-clause-next c = λ less.
    let o = starts-ordered (λ (r : RepeatedEdge). r.count) _ _ (c.deref.ensures.value ∙ c.args.self.now.chunks) in
    let w : c.last_at_most.result + 1 < length c.deref.result.now = omega arith in
    let e = ap (λ ys. get_or ys (c.last_at_most.result + 1) 0) c.deref.ensures.value in
    let b = c.last_at_most.ensures.next o w in
    omega arith
