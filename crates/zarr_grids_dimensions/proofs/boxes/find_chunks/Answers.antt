use Rattle.std.proofs.Common.{◌≡◌, ◌∙◌, ◌+◌, ◌-◌, ◌<◌, ◌≤◌, ◌^◌, ℕ, true, List, length, get_or, sym, ap, subst}
use Rattle.std.proofs.lemmas.List.{length-map}
use Rattle.zarr_grids_boxes.specs.Boxes.{is_in_box, EndsFit, last_index}
use Rattle.zarr_grids_boxes.proofs.Places.{length-each2}
use Rattle.zarr_grids_dimensions.specs.Dimensions.{dimension_of, grid_of}
use Rattle.zarr_grids_dimensions.specs.Lookups.{chunk_has}
use Rattle.zarr_grids_dimensions.specs.Chunks.{numbers, counts_to}
use Rattle.zarr_grids_dimensions.proofs.Declared.{always_dimensions}
use Rattle.zarr_grids_dimensions.proofs.Elements.{lies-length}
use Rattle.zarr_grids_dimensions.proofs.Intersecting.{intersecting_box, ordered_box}
use Rattle.zarr_grids_dimensions.proofs.boxes.find_chunks.Goals as goal

pub into_chunk-found_last-requires : goal.into_chunk-found_last-requires
into_chunk-found_last-requires c = ap (λ (ns : List ℕ). length ns) c.in_ok-place.ensures ∙ length-each2 (λ s x. s + (x - 1)) _ _ (sym c.requires.same) ∙ c.requires.rank

pub count_to-counts-requires-clause-same : goal.count_to-counts-requires-clause-same
count_to-counts-requires-clause-same c =
    let i : chunk_has (grid_of c.args.grid.now) c.in-Some.first.items c.args.start.now ≡ true = (c.in_ok-found_first.ensures c.in-Some.first.items).0 (ap (λ o. numbers o) c.in-Some.is) in
    let j : chunk_has (grid_of c.args.grid.now) c.in-Some-found_last.last.items (last_index c.args.start.now c.args.shape.now) ≡ true =
    ap (λ p. chunk_has (grid_of c.args.grid.now) c.in-Some-found_last.last.items p) (sym c.in_ok-place.ensures) ∙ (c.into_chunk-found_last.ensures c.in-Some-found_last.last.items).0 (ap (λ o. numbers o) c.in-Some-found_last.is) in
    lies-length _ _ _ j ∙ sym (lies-length _ _ _ i) ∙ ap (λ (ns : List ℕ). length ns) (sym c.deref.ensures.value)

pub count_to-counts-requires-clause-order : goal.count_to-counts-requires-clause-order
count_to-counts-requires-clause-order c =
    let i : chunk_has (grid_of c.args.grid.now) c.in-Some.first.items c.args.start.now ≡ true = (c.in_ok-found_first.ensures c.in-Some.first.items).0 (ap (λ o. numbers o) c.in-Some.is) in
    let j : chunk_has (grid_of c.args.grid.now) c.in-Some-found_last.last.items (last_index c.args.start.now c.args.shape.now) ≡ true =
    ap (λ p. chunk_has (grid_of c.args.grid.now) c.in-Some-found_last.last.items p) (sym c.in_ok-place.ensures) ∙ (c.into_chunk-found_last.ensures c.in-Some-found_last.last.items).0 (ap (λ o. numbers o) c.in-Some-found_last.is) in
    let r = ordered_box _ _ c.args.start.now c.args.shape.now _ (always_dimensions c.args.grid.now) c.requires.some c.requires.same c.requires.fit i j in
    subst (λ (ns : List ℕ). (k : ℕ) → k < length ns → get_or ns k 0 ≤ get_or c.in-Some-found_last.last.items k 0) (sym c.deref.ensures.value) r.order

pub count_to-counts-requires-clause-fit : goal.count_to-counts-requires-clause-fit
count_to-counts-requires-clause-fit c =
    let i : chunk_has (grid_of c.args.grid.now) c.in-Some.first.items c.args.start.now ≡ true = (c.in_ok-found_first.ensures c.in-Some.first.items).0 (ap (λ o. numbers o) c.in-Some.is) in
    let j : chunk_has (grid_of c.args.grid.now) c.in-Some-found_last.last.items (last_index c.args.start.now c.args.shape.now) ≡ true =
    ap (λ p. chunk_has (grid_of c.args.grid.now) c.in-Some-found_last.last.items p) (sym c.in_ok-place.ensures) ∙ (c.into_chunk-found_last.ensures c.in-Some-found_last.last.items).0 (ap (λ o. numbers o) c.in-Some-found_last.is) in
    let r = ordered_box _ _ c.args.start.now c.args.shape.now _ (always_dimensions c.args.grid.now) c.requires.some c.requires.same c.requires.fit i j in
    subst (λ (ns : List ℕ). (k : ℕ) → k < length ns → get_or c.in-Some-found_last.last.items k 0 + 1 < 2 ^ 64) (sym c.deref.ensures.value) r.fit

pub invariant_of-result : goal.invariant_of-result
invariant_of-result c =
    let i : chunk_has (grid_of c.args.grid.now) c.in-Some.first.items c.args.start.now ≡ true = (c.in_ok-found_first.ensures c.in-Some.first.items).0 (ap (λ o. numbers o) c.in-Some.is) in
    let j : chunk_has (grid_of c.args.grid.now) c.in-Some-found_last.last.items (last_index c.args.start.now c.args.shape.now) ≡ true =
    ap (λ p. chunk_has (grid_of c.args.grid.now) c.in-Some-found_last.last.items p) (sym c.in_ok-place.ensures) ∙ (c.into_chunk-found_last.ensures c.in-Some-found_last.last.items).0 (ap (λ o. numbers o) c.in-Some-found_last.is) in
    let r = ordered_box _ _ c.args.start.now c.args.shape.now _ (always_dimensions c.args.grid.now) c.requires.some c.requires.same c.requires.fit i j in
    let e = c.count_to-counts.ensures ∙ ap (λ (ns : List ℕ). counts_to ns c.in-Some-found_last.last.items) c.deref.ensures.value in
    record {
      same = ap (λ (ns : List ℕ). length ns) e ∙ length-each2 (λ a b. b - a + 1) _ _ (sym r.same);
      fit = subst (λ (ns : List ℕ). EndsFit c.in-Some.first.items ns) (sym e) r.box;
    }

pub returns : goal.returns
returns c =
    let i : chunk_has (grid_of c.args.grid.now) c.in-Some.first.items c.args.start.now ≡ true = (c.in_ok-found_first.ensures c.in-Some.first.items).0 (ap (λ o. numbers o) c.in-Some.is) in
    let j : chunk_has (grid_of c.args.grid.now) c.in-Some-found_last.last.items (last_index c.args.start.now c.args.shape.now) ≡ true =
    ap (λ p. chunk_has (grid_of c.args.grid.now) c.in-Some-found_last.last.items p) (sym c.in_ok-place.ensures) ∙ (c.into_chunk-found_last.ensures c.in-Some-found_last.last.items).0 (ap (λ o. numbers o) c.in-Some-found_last.is) in
    let e = c.count_to-counts.ensures ∙ ap (λ (ns : List ℕ). counts_to ns c.in-Some-found_last.last.items) c.deref.ensures.value in
    let m = intersecting_box _ c.in-Some.first.items c.args.start.now c.args.shape.now c.in-Some-found_last.last.items (always_dimensions c.args.grid.now) c.requires.some c.requires.same i j in
    record {
      intersecting = λ chunk. let f = ap (λ (ns : List ℕ). is_in_box c.in-Some.first.items ns chunk) e in (λ h. (m chunk).0 (sym f ∙ h), λ n. f ∙ (m chunk).1 n);
      missing = tt;
      rank = lies-length _ _ _ i ∙ length-map c.args.grid.now dimension_of;
    }
