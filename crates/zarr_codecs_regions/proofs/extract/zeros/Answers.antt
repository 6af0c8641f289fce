use Rattle.std.proofs.Common.{◌∙◌, ◌*◌, ap, arith}
use Rattle.zarr_grids_boxes.specs.Boxes.{product}
use Rattle.zarr_grids_boxes.specs.Subsets.{region_of}
use Rattle.zarr_codecs_regions.proofs.InsideArray.{inside_bytes, inside_count}
use Rattle.zarr_codecs_regions.proofs.extract.zeros.Goals as goal

pub unreachable-requires : goal.unreachable-requires
unreachable-requires c =
    let few = inside_count c.args.shape.now (region_of c.args.region.now) c.args.width c.args.region.now.same c.requires.inside c.requires.positive in
    let room = c.requires.room in
    c.in_default.ensures (omega (arith, few, room, ap product c.shape.ensures))

pub overflow_mul-count : goal.overflow_mul-count
overflow_mul-count c =
    let few = inside_bytes c.args.shape.now (region_of c.args.region.now) c.args.width c.args.region.now.same c.requires.inside in
    let room = c.requires.room in
    let count = ap (λ n. n * c.args.width) (c.in-Some.ensures.1 ∙ ap product c.shape.ensures) in
    omega (arith, few, room, count)
