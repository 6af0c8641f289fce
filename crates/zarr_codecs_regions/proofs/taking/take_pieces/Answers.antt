use Rattle.std.proofs.Common.{[], ℕ, List, sym, subst, IfOk}
use Rattle.zarr_grids_boxes.specs.Boxes.{Region}
use Rattle.zarr_grids_boxes.specs.Subsets.{region_of}
use Rattle.zarr_codecs_regions.specs.Taken.{ArePieces, pieces_at}
use Rattle.zarr_codecs_regions.proofs.BoxLines.{lines_are, no_numbers}
use Rattle.zarr_codecs_regions.proofs.InsideArray.{inside_rank}
use Rattle.zarr_codecs_regions.proofs.taking.take_pieces.Goals as goal

pub returns-then-is_empty : goal.returns-then-is_empty
returns-then-is_empty c =
    let none = no_numbers c.args.shape.now (region_of c.args.region.now) c.args.region.now.same (c.is_empty.ensures.0 c.if-is_empty.true) in
    subst (λ (ns : List ℕ). IfOk c.finish.result (ArePieces (pieces_at c.args.from ns))) none (c.finish.ensures [] c.in_ok-new.ensures)

pub returns : goal.returns
returns c =
    let shape : List ℕ = c.args.shape.now in
    let region : Region = region_of c.args.region.now in
    let lines = c.in_ok-lines.lines in
    let are = lines_are shape region (region_of lines.firsts) lines.length c.args.region.now.same (sym (inside_rank shape region c.requires.inside)) c.in_ok-lines.ensures.firsts c.in_ok-lines.ensures.length in
    subst (λ (ns : List ℕ). IfOk c.take_lines.result (ArePieces (pieces_at c.args.from ns))) are c.take_lines.ensures
