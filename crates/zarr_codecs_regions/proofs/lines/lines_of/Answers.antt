use Rattle.std.proofs.Common.{sym, subst}
use Rattle.zarr_grids_boxes.specs.Boxes.{Region}
use Rattle.zarr_grids_boxes.specs.Cuts.{ends, IsAtMost}
use Rattle.zarr_grids_boxes.specs.Subsets.{region_of}
use Rattle.zarr_codecs_regions.proofs.BoxLines.{firsts_at_most}
use Rattle.zarr_codecs_regions.proofs.InsideArray.{ends_at_most, each_place, inside_places, inside_rank}
use Rattle.zarr_codecs_regions.proofs.lines.lines_of.Goals as goal

pub returns-clause-within : goal.returns-clause-within
returns-clause-within c =
    let shape = c.args.shape.now in
    let region : Region = region_of c.args.region.now in
    let l = c.args.region.now.same in
    let most : IsAtMost (ends region) shape = ends_at_most region.start region.shape shape l (sym (inside_rank shape region c.requires.inside)) c.requires.some
    (λ p h. each_place _ region.start region.shape p (sym l) (inside_places shape region c.requires.inside) h) in
    subst (λ (r : Region). IsAtMost (ends r) shape) (sym c.in_ok-firsts.ensures) (firsts_at_most region.start region.shape shape l c.requires.some most)
