use Rattle.std.proofs.Common.{◌≡◌, ◌∙◌, arith, length}
use Rattle.zarr_grids_boxes.specs.Boxes.{product}
use Rattle.zarr_codecs_strides.proofs.Walks.{nothing_walked}
use Rattle.zarr_codecs_strides.proofs.gathering.gather_walk.Goals as goal

pub returns-then-count-eq0 : goal.returns-then-count-eq0
returns-then-count-eq0 c =
    let same : length c.args.walk.strides.now ≡ length c.args.walk.sizes.now = omega (arith, c.if-walk.false) in
    let none : product c.args.walk.sizes.now ≡ 0 = omega (arith, c.in-Some.ensures.1, c.if-count-eq0.true) in
    c.new.ensures.items ∙ nothing_walked c.args.width 0 c.args.bytes.now c.args.walk.sizes.now c.args.walk.strides.now same none
