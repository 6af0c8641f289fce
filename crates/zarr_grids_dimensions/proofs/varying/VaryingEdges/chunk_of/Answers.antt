use Rattle.std.proofs.Common.{rules, ◌≡◌, ◌∙◌, ◌*◌, ◌<◌, length, get_or, refl, sym, ap, arith}
use Rattle.zarr_grids_dimensions.specs.declared.repeat.RepeatedEdge.{RepeatedEdge}
use Rattle.zarr_grids_dimensions.specs.RepeatedEdges.{expanded}
use Rattle.zarr_grids_dimensions.proofs.VaryingLookups.{starts-length, starts-first, repeat-positive, near_at, near_searched, place_searched, place_single, place_past, answers-found, answers-past}
use Rattle.zarr_grids_dimensions.proofs.varying.VaryingEdges.chunk_of.Goals as goal

pub last_at_most-at-requires-clause-first : goal.last_at_most-at-requires-clause-first
last_at_most-at-requires-clause-first c =
    let e = ap (λ ys. get_or ys 0 0) c.deref.ensures.value in
    let n = near_at _ _ 0 0 c.args.self.now.near c.args.self.now.some in
    let z = starts-first (λ (r : RepeatedEdge). r.count * r.edge) _ _ c.args.self.now.places in
    omega arith

pub returns-then-at-len : goal.returns-then-at-len
returns-then-at-len c =
    let s = near_searched _ _ _ _ _ _ c.args.self.now.places c.args.self.now.near c.args.self.now.far c.deref.ensures.value c.ranges.place.fits c.last_at_most-at.ensures.within c.last_at_most-at.ensures.at_most c.last_at_most-at.ensures.next in
    let n : c.last_at_most-at.result ≡ length c.args.self.now.repeats.items = omega arith in
    let past = place_past _ _ _ _ _ c.args.self.now.places refl n s.from in
    λ chunk. answers-past c.args.self.now.size _ c.args.place chunk past

pub returns-then-chunk_count-len : goal.returns-then-chunk_count-len
returns-then-chunk_count-len c =
    let s = near_searched _ _ _ _ _ _ c.args.self.now.places c.args.self.now.near c.args.self.now.far c.deref.ensures.value c.ranges.place.fits c.last_at_most-at.ensures.within c.last_at_most-at.ensures.at_most c.last_at_most-at.ensures.next in
    let b = s.below in
    let l = starts-length (λ (r : RepeatedEdge). r.count * r.edge) _ _ c.args.self.now.places in
    let h : c.last_at_most-at.result < length c.args.self.now.repeats.items = omega arith in
    let n : length (expanded c.args.self.now.repeats.items) ≡ length c.args.self.now.repeats.items = omega arith in
    let f = place_single _ _ _ c.args.place c.args.self.now.places c.args.self.now.counted n h s.from (s.to (omega arith)) in
    λ chunk. answers-found c.args.self.now.size _ c.args.place _ _ _ chunk f

pub index-requires-2 : goal.index-requires-2
index-requires-2 c =
    let s = near_searched _ _ _ _ _ _ c.args.self.now.places c.args.self.now.near c.args.self.now.far c.deref.ensures.value c.ranges.place.fits c.last_at_most-at.ensures.within c.last_at_most-at.ensures.at_most c.last_at_most-at.ensures.next in
    let b = s.below in
    let l = starts-length (λ (r : RepeatedEdge). r.count * r.edge) _ _ c.args.self.now.places in
    omega arith

pub nonzero_div-within : goal.nonzero_div-within
nonzero_div-within c =
    let s = near_searched _ _ _ _ _ _ c.args.self.now.places c.args.self.now.near c.args.self.now.far c.deref.ensures.value c.ranges.place.fits c.last_at_most-at.ensures.within c.last_at_most-at.ensures.at_most c.last_at_most-at.ensures.next in
    let b = s.below in
    let l = starts-length (λ (r : RepeatedEdge). r.count * r.edge) _ _ c.args.self.now.places in
    let h : c.last_at_most-at.result < length c.args.self.now.repeats.items = omega arith in
    repeat-positive _ _ c.index-2.result.now h (sym c.index-2.ensures) c.args.self.now.positive

pub index-requires-3 : goal.index-requires-3
index-requires-3 c =
    let s = near_searched _ _ _ _ _ _ c.args.self.now.places c.args.self.now.near c.args.self.now.far c.deref.ensures.value c.ranges.place.fits c.last_at_most-at.ensures.within c.last_at_most-at.ensures.at_most c.last_at_most-at.ensures.next in
    let b = s.below in
    let l = starts-length (λ (r : RepeatedEdge). r.count * r.edge) _ _ c.args.self.now.places in
    let k = starts-length (λ (r : RepeatedEdge). r.count) _ _ c.args.self.now.chunks in
    omega arith

pub overflow_add-result : goal.overflow_add-result
overflow_add-result c =
    let s = near_searched _ _ _ _ _ _ c.args.self.now.places c.args.self.now.near c.args.self.now.far c.deref.ensures.value c.ranges.place.fits c.last_at_most-at.ensures.within c.last_at_most-at.ensures.at_most c.last_at_most-at.ensures.next in
    let b = s.below in
    let l = starts-length (λ (r : RepeatedEdge). r.count * r.edge) _ _ c.args.self.now.places in
    let h : c.last_at_most-at.result < length c.args.self.now.repeats.items = omega arith in
    let w : c.last_at_most-at.result < length c.args.self.now.near_places.items = search rules in
    let first = c.index.ensures ∙ near_at _ _ _ c.index.result.now c.args.self.now.near w in
    let f = (place_searched _ _ _ _ _ c.args.place c.index-2.result.now _ _ c.args.self.now.chunks c.args.self.now.places refl c.args.self.now.positive h c.index-2.ensures c.index-3.ensures first s.from s.to).chunk.below in
    let few = c.args.self.now.few in
    omega arith

pub returns : goal.returns
returns c =
    let s = near_searched _ _ _ _ _ _ c.args.self.now.places c.args.self.now.near c.args.self.now.far c.deref.ensures.value c.ranges.place.fits c.last_at_most-at.ensures.within c.last_at_most-at.ensures.at_most c.last_at_most-at.ensures.next in
    let b = s.below in
    let l = starts-length (λ (r : RepeatedEdge). r.count * r.edge) _ _ c.args.self.now.places in
    let h : c.last_at_most-at.result < length c.args.self.now.repeats.items = omega arith in
    let w : c.last_at_most-at.result < length c.args.self.now.near_places.items = search rules in
    let first = c.index.ensures ∙ near_at _ _ _ c.index.result.now c.args.self.now.near w in
    let f = place_searched _ _ _ _ _ c.args.place c.index-2.result.now _ _ c.args.self.now.chunks c.args.self.now.places refl c.args.self.now.positive h c.index-2.ensures c.index-3.ensures first s.from s.to in
    λ chunk. answers-found c.args.self.now.size _ c.args.place _ _ _ chunk f
