use Rattle.std.proofs.Common.{rules, ◌≡◌, [], ◌∷◌, ◌+◌, ◌-◌, ◌<◌, ◌^◌, ◌++◌, length, get_or, drop, max, min, subst, sym, arith}
use Rattle.zarr_array_core.proofs.Overlapping.{start_left, shape_left, start_next, shape_next, fit_next}
use Rattle.zarr_array_core.proofs.moving.overlap_in.Goals as goal

pub loop-k-preserved : goal.loop-k-preserved
loop-k-preserved c =
    let ss = c.args.one.now.start.items in
    let xs = c.args.one.now.shape.items in
    let ts = c.args.other.now.start.items in
    let us = c.args.other.now.shape.items in
    let k = c.loop-k.k in
    let kept = c.loop-k.invariant in
    let a : k < length ss = omega (arith, c.loop-k-test.true) in
    let b : k < length xs = omega (arith, a, c.args.one.now.same) in
    let s : k < length ts = omega (arith, a, c.requires) in
    let t : k < length us = omega (arith, s, c.args.other.now.same) in
    let from = c.index.result.now in
    let there = c.index-in-loop-k.result.now in
    let long : c.saturating_sub.result ≡ min (from + c.index-in-loop-k-2.result.now) (there + c.index-in-loop-k-3.result.now) - max from there = search rules in
    let fits : c.max-first.result + c.saturating_sub.result < 2 ^ 64 = search rules in
    record {
      start = subst (λ made. start_left ss ts ≡ made ++ start_left (drop (k + 1) ss) (drop (k + 1) ts)) (sym c.in_ok-push.ensures.items) (start_next ss ts c.loop-k.start.items (start_left ss ts) k from there c.max-first.result a s c.index.ensures c.index-in-loop-k.ensures c.max-first.ensures kept.start);
      shape = subst (λ made. shape_left ss xs ts us ≡ made ++ shape_left (drop (k + 1) ss) (drop (k + 1) xs) (drop (k + 1) ts) (drop (k + 1) us)) (sym c.in_ok-push-2.ensures.items)
          (shape_next ss xs ts us c.loop-k.shape.items (shape_left ss xs ts us) k from c.index-in-loop-k-2.result.now there c.index-in-loop-k-3.result.now c.saturating_sub.result a b s t c.index.ensures c.index-in-loop-k-2.ensures c.index-in-loop-k.ensures c.index-in-loop-k-3.ensures long kept.shape);
      starts = search rules;
      shapes = search rules;
      fit = λ j low. subst (λ made. get_or made j 0 + get_or c.push-in-loop-k.new.self.items j 0 < 2 ^ 64) (sym c.in_ok-push.ensures.items)
          (subst (λ made. get_or (c.loop-k.start.items ++ c.max-first.result ∷ []) j 0 + get_or made j 0 < 2 ^ 64) (sym c.in_ok-push-2.ensures.items)
          (fit_next c.loop-k.start.items c.loop-k.shape.items k c.max-first.result c.saturating_sub.result kept.starts kept.shapes kept.fit fits j low));
    }
