use Rattle.std.proofs.Common.{◌≡◌, sym, subst, arith, true, false}
use Rattle.std.specs.Prelude.{IsOk}
use Rattle.zarr_grids_boxes.specs.Boxes.{Region}
use Rattle.zarr_grids_boxes.specs.Cuts.{ends, IsAtMost}
use Rattle.zarr_grids_boxes.specs.Subsets.{region_of}
use Rattle.zarr_codecs_regions.proofs.BoxLines.{firsts_at_most}
use Rattle.zarr_codecs_regions.proofs.InsideArray.{ends_at_most, each_place, inside_places, inside_rank}
use Rattle.zarr_codecs_regions.proofs.asked.first_numbers.Goals as goal

pub unreachable-requires : goal.unreachable-requires
unreachable-requires c =
    let shape = c.args.shape.now in
    let region : Region = region_of c.args.region.now in
    let l = c.args.region.now.same in
    let most : IsAtMost (ends region) shape = ends_at_most region.start region.shape shape l (sym (inside_rank shape region c.requires.inside)) c.requires.some
    (λ p h. each_place _ region.start region.shape p (sym l) (inside_places shape region c.requires.inside) h) in
    let firsts : IsAtMost (ends (region_of c.in_ok-firsts.firsts)) shape = subst (λ (r : Region). IsAtMost (ends r) shape) (sym c.in_ok-firsts.ensures) (firsts_at_most region.start region.shape shape l c.requires.some most) in
    let small = c.requires.small in
    let ok = c.linearised_indices.ensures.others firsts (omega (arith, small)) in
    let e : false ≡ true = subst IsOk c.in-Err.is ok in
    absurd (never e) where
      never : false ≡ true → ⊥
      never e = cc
