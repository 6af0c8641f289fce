use Rattle.std.proofs.Common.{◌≡◌, ◌∙◌, ◌+◌, ◌-◌, ◌*◌, ◌^◌, ◌<◌, ◌∷◌, ℕ, List, ap, drop, get_or, length, rules, subst, sym, take}
use Rattle.std.specs.Prelude.{IfOk}
use Rattle.zarr_grids_boxes.specs.Boxes.{each2, product}
use Rattle.zarr_grids_boxes.specs.Cuts.{IsAtMost}
use Rattle.zarr_codecs_bytes.specs.Lines.{AreBoxRanges}
use Rattle.zarr_codecs_bytes.proofs.BoxRanges.{IsRowInside, box_found, rest_is, row_inside}
use Rattle.zarr_codecs_bytes.proofs.lines.+ranges_in.Goals as goal

row : (start region shape counts : List ℕ) (count width : ℕ) → region ≡ count ∷ counts → length region ≡ length start → length shape ≡ length start → 0 < product region → IsAtMost (each2 (λ s e. s + e) start region) shape → product shape * width < 2 ^ 63 → IsRowInside start counts shape count width
row start region shape counts count width is same rank some inside small =
    row_inside start counts shape count width (sym (ap (λ (es : List ℕ). length es) is) ∙ same) rank (subst (λ es. 0 < product es) is some) (subst (λ es. IsAtMost (each2 (λ s e. s + e) start es) shape) is inside) small

pub ranges_in-requires : goal.ranges_in-requires
ranges_in-requires t c =
    let start = c.args.start.now in
    let shape = c.args.shape.now in
    let counts = c.in-Some.counts.now in
    let h = row start c.args.region.now shape counts c.in-Some.count.now c.args.width c.in-Some.ensures.cases.0 c.requires.same c.requires.rank c.requires.some c.requires.inside c.requires.small in
    let starts = sym (rest_is start) in
    let sizes = sym (rest_is shape) in (
      search rules,
      (
        h.same ∙ ap (λ (xs : List ℕ). length xs) starts,
        (
          ap (λ (xs : List ℕ). length xs) (rest_is shape) ∙ (h.rank ∙ ap (λ (xs : List ℕ). length xs) starts),
          (
            h.some,
            (
              subst (λ us. IsAtMost (each2 (λ s e. s + e) (take (length start - 1) (drop 1 start)) counts) us) sizes (subst (λ ss. IsAtMost (each2 (λ s e. s + e) ss counts) (drop 1 shape)) starts h.inside),
              subst (λ us. product us * c.args.width < 2 ^ 63) sizes h.small,
            ),
          ),
        ),
      ),
    )

pub ranges_of_rows-requires-clause-small : goal.ranges_of_rows-requires-clause-small
ranges_of_rows-requires-clause-small t c =
    let shape = c.args.shape.now in
    let h = row c.args.start.now c.args.region.now shape c.in-Some.counts.now c.in-Some.count.now c.args.width c.in-Some.ensures.cases.0 c.requires.same c.requires.rank c.requires.some c.requires.inside c.requires.small in
    let size = c.in_ok-row.ensures.size ∙ ap (λ us. product us * c.args.width) (rest_is shape) in
    subst (λ n. n < 2 ^ 63) (sym (ap (λ n. get_or shape 0 0 * n) size ∙ h.all)) c.requires.small

pub returns : goal.returns
returns t c =
    let start = c.args.start.now in
    let shape = c.args.shape.now in
    let counts = c.in-Some.counts.now in
    let is = c.in-Some.ensures.cases.0 in
    let one = subst (λ us. AreBoxRanges c.args.width (drop 1 start) counts us c.in_ok-row.row) (rest_is shape) (subst (λ ss. AreBoxRanges c.args.width ss counts (take (length shape - 1) (drop 1 shape)) c.in_ok-row.row) (rest_is start) c.in_ok-row.ensures) in
    let found = box_found c.args.width start counts shape c.in-Some.count.now c.in_ok-row.row c.ranges_of_rows.result (sym (ap (λ (es : List ℕ). length es) is) ∙ c.requires.same) c.requires.rank one c.ranges_of_rows.ensures in
    subst (λ es. IfOk c.ranges_of_rows.result (AreBoxRanges c.args.width start es shape)) (sym is) found
