use Rattle.std.proofs.Common.{◌≡◌, ◌∙◌, ◌+◌, ◌-◌, ◌<◌, ◌≤◌, ℕ, List, length, get_or, sym, ap, subst, Some, option_map}
use Rattle.zarr_grids_boxes.specs.Boxes.{is_in_box, EndsFit, last_index}
use Rattle.zarr_grids_boxes.specs.Subsets.{region_of}
use Rattle.zarr_grids_boxes.proofs.Places.{length-each2}
use Rattle.zarr_grids_chunks.specs.Grids.{chunk_box}
use Rattle.zarr_grids_dimensions.specs.Dimensions.{dimension_of, grid_of}
use Rattle.zarr_grids_dimensions.specs.Chunks.{lengths_to}
use Rattle.std.proofs.lemmas.List.{length-map}
use Rattle.zarr_grids_dimensions.proofs.Declared.{always_dimensions}
use Rattle.zarr_grids_dimensions.proofs.UnionBox.{joined}
use Rattle.zarr_grids_dimensions.proofs.boxes.find_union.Goals as goal

pub find_subset-requires-2 : goal.find_subset-requires-2
find_subset-requires-2 c = ap (λ (ns : List ℕ). length ns) (c.deref.ensures.value ∙ c.in_ok-chunk.ensures) ∙ length-each2 (λ s x. s + (x - 1)) _ _ (sym c.requires.same) ∙ c.requires.rank

pub length_to-requires-clause-starts : goal.length_to-requires-clause-starts
length_to-requires-clause-starts c =
    let i : chunk_box (grid_of c.args.grid.now) c.args.start.now ≡ Some (region_of c.in-Some.first) = sym c.in_ok-found_first.ensures ∙ ap (λ o. option_map region_of o) c.in-Some.is in
    let j : chunk_box (grid_of c.args.grid.now) (last_index c.args.start.now c.args.shape.now) ≡ Some (region_of c.in-Some-found_last.last) =
    ap (λ ks. chunk_box (grid_of c.args.grid.now) ks) (sym c.in_ok-chunk.ensures ∙ sym c.deref.ensures.value) ∙ sym c.in_ok-found_last.ensures ∙ ap (λ o. option_map region_of o) c.in-Some-found_last.is in
    let r = joined (grid_of c.args.grid.now) c.args.start.now c.args.shape.now _ _ (always_dimensions c.args.grid.now) c.requires.some c.requires.same i j in
    ap (λ (ns : List ℕ). length ns) c.deref-3.ensures.value ∙ r.starts ∙ ap (λ (ns : List ℕ). length ns) (sym c.deref-2.ensures.value)

pub length_to-requires-clause-counts : goal.length_to-requires-clause-counts
length_to-requires-clause-counts c =
    let i : chunk_box (grid_of c.args.grid.now) c.args.start.now ≡ Some (region_of c.in-Some.first) = sym c.in_ok-found_first.ensures ∙ ap (λ o. option_map region_of o) c.in-Some.is in
    let j : chunk_box (grid_of c.args.grid.now) (last_index c.args.start.now c.args.shape.now) ≡ Some (region_of c.in-Some-found_last.last) =
    ap (λ ks. chunk_box (grid_of c.args.grid.now) ks) (sym c.in_ok-chunk.ensures ∙ sym c.deref.ensures.value) ∙ sym c.in_ok-found_last.ensures ∙ ap (λ o. option_map region_of o) c.in-Some-found_last.is in
    let r = joined (grid_of c.args.grid.now) c.args.start.now c.args.shape.now _ _ (always_dimensions c.args.grid.now) c.requires.some c.requires.same i j in
    ap (λ (ns : List ℕ). length ns) c.deref-4.ensures.value ∙ r.counts ∙ ap (λ (ns : List ℕ). length ns) (sym c.deref-2.ensures.value)

pub length_to-requires-clause-order : goal.length_to-requires-clause-order
length_to-requires-clause-order c =
    let i : chunk_box (grid_of c.args.grid.now) c.args.start.now ≡ Some (region_of c.in-Some.first) = sym c.in_ok-found_first.ensures ∙ ap (λ o. option_map region_of o) c.in-Some.is in
    let j : chunk_box (grid_of c.args.grid.now) (last_index c.args.start.now c.args.shape.now) ≡ Some (region_of c.in-Some-found_last.last) =
    ap (λ ks. chunk_box (grid_of c.args.grid.now) ks) (sym c.in_ok-chunk.ensures ∙ sym c.deref.ensures.value) ∙ sym c.in_ok-found_last.ensures ∙ ap (λ o. option_map region_of o) c.in-Some-found_last.is in
    let r = joined (grid_of c.args.grid.now) c.args.start.now c.args.shape.now _ _ (always_dimensions c.args.grid.now) c.requires.some c.requires.same i j in
    subst (λ (ns : List ℕ). (k : ℕ) → k < length ns → get_or ns k 0 ≤ get_or c.deref-3.result.now k 0) (sym c.deref-2.ensures.value)
    (subst (λ (ns : List ℕ). (k : ℕ) → k < length c.in-Some.first.start.items → get_or c.in-Some.first.start.items k 0 ≤ get_or ns k 0) (sym c.deref-3.ensures.value) r.order)

pub invariant_of-result : goal.invariant_of-result
invariant_of-result c =
    let i : chunk_box (grid_of c.args.grid.now) c.args.start.now ≡ Some (region_of c.in-Some.first) = sym c.in_ok-found_first.ensures ∙ ap (λ o. option_map region_of o) c.in-Some.is in
    let j : chunk_box (grid_of c.args.grid.now) (last_index c.args.start.now c.args.shape.now) ≡ Some (region_of c.in-Some-found_last.last) =
    ap (λ ks. chunk_box (grid_of c.args.grid.now) ks) (sym c.in_ok-chunk.ensures ∙ sym c.deref.ensures.value) ∙ sym c.in_ok-found_last.ensures ∙ ap (λ o. option_map region_of o) c.in-Some-found_last.is in
    let r = joined (grid_of c.args.grid.now) c.args.start.now c.args.shape.now _ _ (always_dimensions c.args.grid.now) c.requires.some c.requires.same i j in
    let e : c.in_ok-lengths.lengths.items ≡ lengths_to c.in-Some.first.start.items c.in-Some-found_last.last.start.items c.in-Some-found_last.last.shape.items =
    c.in_ok-lengths.ensures ∙ ap (λ ns. lengths_to ns c.deref-3.result.now c.deref-4.result.now) c.deref-2.ensures.value ∙ ap (λ ns. lengths_to c.in-Some.first.start.items ns c.deref-4.result.now) c.deref-3.ensures.value
    ∙ ap (λ ns. lengths_to c.in-Some.first.start.items c.in-Some-found_last.last.start.items ns) c.deref-4.ensures.value in
    record { same = ap (λ (ns : List ℕ). length ns) e ∙ r.lengths; fit = subst (λ (ns : List ℕ). EndsFit c.in-Some.first.start.items ns) (sym e) r.box }

pub returns : goal.returns
returns c =
    let i : chunk_box (grid_of c.args.grid.now) c.args.start.now ≡ Some (region_of c.in-Some.first) = sym c.in_ok-found_first.ensures ∙ ap (λ o. option_map region_of o) c.in-Some.is in
    let j : chunk_box (grid_of c.args.grid.now) (last_index c.args.start.now c.args.shape.now) ≡ Some (region_of c.in-Some-found_last.last) =
    ap (λ ks. chunk_box (grid_of c.args.grid.now) ks) (sym c.in_ok-chunk.ensures ∙ sym c.deref.ensures.value) ∙ sym c.in_ok-found_last.ensures ∙ ap (λ o. option_map region_of o) c.in-Some-found_last.is in
    let r = joined (grid_of c.args.grid.now) c.args.start.now c.args.shape.now _ _ (always_dimensions c.args.grid.now) c.requires.some c.requires.same i j in
    let e : c.in_ok-lengths.lengths.items ≡ lengths_to c.in-Some.first.start.items c.in-Some-found_last.last.start.items c.in-Some-found_last.last.shape.items =
    c.in_ok-lengths.ensures ∙ ap (λ ns. lengths_to ns c.deref-3.result.now c.deref-4.result.now) c.deref-2.ensures.value ∙ ap (λ ns. lengths_to c.in-Some.first.start.items ns c.deref-4.result.now) c.deref-3.ensures.value
    ∙ ap (λ ns. lengths_to c.in-Some.first.start.items c.in-Some-found_last.last.start.items ns) c.deref-4.ensures.value in
    record {
      united = λ place. let f = ap (λ (ns : List ℕ). is_in_box c.in-Some.first.start.items ns place) e in (λ h. (r.united place).0 (sym f ∙ h), λ n. f ∙ (r.united place).1 n);
      missing = tt;
      rank = r.rank ∙ length-map c.args.grid.now dimension_of;
    }
