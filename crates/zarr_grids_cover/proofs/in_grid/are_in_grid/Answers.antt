use Rattle.std.proofs.Common.{◌≡◌, ◌∙◌, ℕ, List, length, sym, ap, arith}
use Rattle.std.proofs.lemmas.Bool.{false≢true}
use Rattle.std.proofs.lemmas.List.{length-map}
use Rattle.zarr_grids_boxes.specs.Boxes.{product}
use Rattle.zarr_grids_dimensions.specs.Dimensions.{dimension_of}
use Rattle.zarr_grids_cover.proofs.NumbersInGrid.{empty-AreInGrid, below-last}
use Rattle.zarr_grids_cover.proofs.in_grid.are_in_grid.Goals as goal

pub returns-then-has_no_place : goal.returns-then-has_no_place
returns-then-has_no_place c =
    let r : length c.args.chunks.now.start.items ≡ length c.args.grid.now = omega arith in
    let z : product c.args.chunks.now.shape.items ≡ 0 = ap (λ (ns : List ℕ). product ns) (sym c.deref.ensures.value) ∙ c.has_no_place.ensures.0 c.if-has_no_place.true in
    (λ h. empty-AreInGrid _ _ _ (r ∙ sym (length-map c.args.grid.now dimension_of)) z, λ i. c.if-has_no_place.true)

pub returns-else-has_no_place : goal.returns-else-has_no_place
returns-else-has_no_place c =
    let r : length c.args.chunks.now.start.items ≡ length c.args.grid.now = omega arith in
    below-last _ _ _ _ _ _ c.deref-else-has_no_place.ensures.value c.deref-else-has_no_place-2.ensures.value r c.args.chunks.now.same
    (λ z. false≢true (sym c.if-has_no_place.false ∙ c.has_no_place.ensures.1 (ap (λ (ns : List ℕ). product ns) c.deref.ensures.value ∙ z))) c.is_last_in_grid.ensures
