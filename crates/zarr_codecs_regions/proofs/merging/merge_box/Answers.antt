use Rattle.std.proofs.Common.{[], ℕ, List, sym, subst, IfOk}
use Rattle.zarr_grids_boxes.specs.Boxes.{Region}
use Rattle.zarr_grids_boxes.specs.Subsets.{region_of}
use Rattle.zarr_codecs_regions.specs.Taken.{ArePieces, pieces_put}
use Rattle.zarr_codecs_regions.proofs.BoxLines.{lines_are, no_numbers}
use Rattle.zarr_codecs_regions.proofs.InsideArray.{inside_rank}
use Rattle.zarr_codecs_regions.proofs.merging.merge_box.Goals as goal

pub returns-then-is_empty : goal.returns-then-is_empty
returns-then-is_empty c =
    let none = no_numbers c.args.shape.now (region_of c.args.region.now) c.args.region.now.same (c.is_empty.ensures.0 c.if-is_empty.true) in
    subst (λ (ns : List ℕ). IfOk c.finish.result (ArePieces (pieces_put c.args.both ns))) none (c.finish.ensures [] (c.in_ok-new.ensures c.args.both))

pub returns : goal.returns
returns c =
    let shape : List ℕ = c.args.shape.now in
    let region : Region = region_of c.args.region.now in
    let lines = c.in_ok-lines.lines in
    let are = lines_are shape region (region_of lines.firsts) lines.length c.args.region.now.same (sym (inside_rank shape region c.requires.inside)) c.in_ok-lines.ensures.firsts c.in_ok-lines.ensures.length in
    subst (λ (ns : List ℕ). IfOk c.merge_lines.result (ArePieces (pieces_put c.args.both ns))) are c.merge_lines.ensures
