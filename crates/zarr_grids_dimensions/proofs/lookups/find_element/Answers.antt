use Rattle.std.proofs.Common.{◌≡◌, ◌∙◌, ◌<◌, ◌≤◌, ◌-◌, ℕ, true, length, get_or, sym, ap, subst, arith, Some, List}
use Rattle.std.proofs.lemmas.List.{length-map}
use Rattle.zarr_grids_boxes.specs.Boxes.{each2}
use Rattle.zarr_grids_dimensions.specs.Dimensions.{dimension_of, grid_of}
use Rattle.zarr_grids_dimensions.specs.Lookups.{chunk_has}
use Rattle.zarr_grids_dimensions.specs.Chunks.{origin, numbers}
use Rattle.zarr_grids_dimensions.proofs.Elements.{lies-length, first-below, some-origin}
use Rattle.zarr_grids_dimensions.proofs.lookups.find_element.Goals as goal

pub find_origin-requires : goal.find_origin-requires
find_origin-requires c =
    let lies : chunk_has (grid_of c.args.grid.now) c.deref.result.now c.args.place.now ≡ true =
    ap (λ ch. chunk_has (grid_of c.args.grid.now) ch c.args.place.now) c.deref.ensures.value ∙ (c.in_ok-found.ensures c.in-Some.chunk.items).0 (ap (λ o. numbers o) c.in-Some.is) in
    lies-length _ _ _ lies ∙ length-map c.args.grid.now dimension_of

pub returns-in_default-origin : goal.returns-in_default-origin
returns-in_default-origin c = λ chunk t.
    let lies : chunk_has (grid_of c.args.grid.now) c.deref.result.now c.args.place.now ≡ true =
    ap (λ ch. chunk_has (grid_of c.args.grid.now) ch c.args.place.now) c.deref.ensures.value ∙ (c.in_ok-found.ensures c.in-Some.chunk.items).0 (ap (λ o. numbers o) c.in-Some.is) in
    some-origin _ _ c.args.place.now (λ j g. let f = c.type_inv.place j in omega arith) lies (sym (ap (λ o. numbers o) c.in_default-origin.is) ∙ c.in_ok-origin.ensures)

pub differences-requires-clause-same : goal.differences-requires-clause-same
differences-requires-clause-same c =
    let lies : chunk_has (grid_of c.args.grid.now) c.deref.result.now c.args.place.now ≡ true =
    ap (λ ch. chunk_has (grid_of c.args.grid.now) ch c.args.place.now) c.deref.ensures.value ∙ (c.in_ok-found.ensures c.in-Some.chunk.items).0 (ap (λ o. numbers o) c.in-Some.is) in
    let o : origin (grid_of c.args.grid.now) c.deref.result.now ≡ Some c.in-Some-origin.first.items = sym c.in_ok-origin.ensures ∙ ap (λ o. numbers o) c.in-Some-origin.is in
    let b = first-below _ _ c.args.place.now _ (λ j g. let f = c.type_inv.place j in omega arith) lies o in
    ap (λ (ns : List ℕ). length ns) c.deref-2.ensures.value ∙ b.0

pub differences-requires-clause-less : goal.differences-requires-clause-less
differences-requires-clause-less c =
    let lies : chunk_has (grid_of c.args.grid.now) c.deref.result.now c.args.place.now ≡ true =
    ap (λ ch. chunk_has (grid_of c.args.grid.now) ch c.args.place.now) c.deref.ensures.value ∙ (c.in_ok-found.ensures c.in-Some.chunk.items).0 (ap (λ o. numbers o) c.in-Some.is) in
    let o : origin (grid_of c.args.grid.now) c.deref.result.now ≡ Some c.in-Some-origin.first.items = sym c.in_ok-origin.ensures ∙ ap (λ o. numbers o) c.in-Some-origin.is in
    let b = first-below _ _ c.args.place.now _ (λ j g. let f = c.type_inv.place j in omega arith) lies o in
    subst (λ (ns : List ℕ). (j : ℕ) → j < length c.args.place.now → get_or ns j 0 ≤ get_or c.args.place.now j 0) (sym c.deref-2.ensures.value) b.1

pub returns : goal.returns
returns c =
    let lies : chunk_has (grid_of c.args.grid.now) c.deref.result.now c.args.place.now ≡ true =
    ap (λ ch. chunk_has (grid_of c.args.grid.now) ch c.args.place.now) c.deref.ensures.value ∙ (c.in_ok-found.ensures c.in-Some.chunk.items).0 (ap (λ o. numbers o) c.in-Some.is) in
    let o : origin (grid_of c.args.grid.now) c.deref.result.now ≡ Some c.in-Some-origin.first.items = sym c.in_ok-origin.ensures ∙ ap (λ o. numbers o) c.in-Some-origin.is in
    record { chunk = c.deref.result.now; first = c.in-Some-origin.first.items; lies = lies; origin_is = o; less = c.in_ok-element.ensures ∙ ap (λ (ns : List ℕ). each2 (λ n f. n - f) c.args.place.now ns) c.deref-2.ensures.value }
