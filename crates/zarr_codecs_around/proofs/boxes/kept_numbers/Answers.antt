use Rattle.std.proofs.Common.{rules, ◌≡◌, ◌+◌, ◌<◌, ◌++◌, ℕ, List, [], ◌∷◌, length, get_or, drop, sym, subst, arith}
use Rattle.zarr_codecs_boxes.specs.Regions.{kept_numbers}
use Rattle.zarr_codecs_around.proofs.Kept.{kept_all, kept_more, kept_same}
use Rattle.zarr_codecs_around.proofs.boxes.kept_numbers.Goals as goal
use Rattle.zarr_codecs_around.proofs.boxes.kept_numbers.Goals.{then-shape-dimension-ne1+in_ok-push, else-shape-dimension-ne1}

pub loop-dimension-preserved : goal.loop-dimension-preserved
loop-dimension-preserved c =
    let shape = c.args.shape.now in
    let numbers = c.args.numbers.now in
    let d = c.loop-dimension.dimension in
    let so = c.loop-dimension.invariant in
    let before = c.loop-dimension.kept.items in
    let low : d < length shape = omega (arith, c.loop-dimension-test.true, c.min-dimension-end.ensures) in
    let here : d < length numbers = omega (arith, c.loop-dimension-test.true, c.min-dimension-end.ensures) in
    let more : List ℕ → Type 0 = λ ks. kept_numbers shape numbers ≡ ks ++ kept_numbers (drop (d + 1) shape) (drop (d + 1) numbers) in
    elim c.if-shape-dimension-ne1.branch [
      | then-shape-dimension-ne1+in_ok-push w ↦
          let items : c.if-shape-dimension-ne1.kept.items ≡ before ++ get_or numbers d 0 ∷ [] = search rules in
          subst more (sym items) (kept_more shape numbers before d low here w.if-shape-dimension-ne1.true so)
      | else-shape-dimension-ne1 w ↦
          let items : c.if-shape-dimension-ne1.kept.items ≡ before = search rules in
          subst more (sym items) (kept_same shape numbers before d low here w.if-shape-dimension-ne1.false so)
    ]

pub returns : goal.returns
returns c =
    let d = c.loop-dimension.dimension in
    kept_all c.args.shape.now c.args.numbers.now c.loop-dimension.kept.items d (λ low here. omega (arith, low, here, c.loop-dimension-test.false, c.min-dimension-end.ensures)) c.loop-dimension.invariant
