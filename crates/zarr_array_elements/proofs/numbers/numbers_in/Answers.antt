use Rattle.std.proofs.Common.{◌≡◌, ◌∙◌, ap}
use Rattle.std.proofs.lemmas.Result.{IfOk-weaker}
use Rattle.zarr_grids_boxes.specs.Boxes.{Region}
use Rattle.zarr_grids_boxes.specs.Cuts.{relative}
use Rattle.zarr_grids_boxes.specs.Subsets.{region_of}
use Rattle.zarr_grids_boxes.specs.Walks.{linearised}
use Rattle.zarr_array_elements.proofs.Moved.{numbers_moved, numbers_there}
use Rattle.zarr_array_elements.proofs.numbers.numbers_in.Goals as goal

pub returns : goal.returns
returns c =
    let wanted : Region = region_of c.args.wanted.now in
    let from : Region = region_of c.args.from.now in
    let moved = numbers_moved wanted from c.args.wanted.now.same c.requires.some c.requires.inside in
    let part : region_of c.in-Ok.part ≡ relative wanted from.start = c.in-Ok.ensures.made ∙ ap (relative wanted) c.start.ensures in
    IfOk-weaker c.box_numbers.result (λ numbers. numbers.items ≡ linearised (region_of c.in-Ok.part) c.shape.result.now) (λ numbers. numbers.items ≡ numbers_there from wanted)
    (λ numbers h. h ∙ (ap (linearised (region_of c.in-Ok.part)) c.shape.ensures ∙ (ap (λ (r : Region). linearised r from.shape) part ∙ moved))) c.box_numbers.ensures
