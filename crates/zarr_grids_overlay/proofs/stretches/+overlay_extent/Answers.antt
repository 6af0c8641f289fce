use Rattle.std.proofs.Common.{◌≡◌, ◌+◌, ◌*◌, ◌-◌, ℕ, length, get_or, drop, refl, sym, ap, ◌∙◌, arith, rules}
use Rattle.zarr_grids_boxes.specs.Boxes.{product}
use Rattle.zarr_grids_overlay.proofs.Lengths.{not_empty}
use Rattle.zarr_grids_overlay.proofs.Steps.{not_shared, begun, finished, stretch, number_end, numbers_end, row}
use Rattle.zarr_grids_overlay.proofs.stretches.+overlay_extent.Goals as goal

pub returns-then-low-high : goal.returns-then-low-high
returns-then-low-high t c =
    let ts = c.args.into.start.now in
    let es = c.args.into.shape.now in
    let ss = c.args.from.start.now in
    let us = c.args.from.shape.now in
    let width = c.args.width in
    let some = not_empty (length ts) c.is_empty.result c.is_empty.ensures c.if-is_empty.false in
    λ old new wide_old wide_new x y. not_shared ts es ss us width old new some c.args.into.same c.requires.rank (c.args.from.same ∙ c.requires.rank) wide_old wide_new c.args.target.now (omega arith) x

pub overflow_mul-to : goal.overflow_mul-to
overflow_mul-to t c =
    let ts = c.args.into.start.now in
    let es = c.args.into.shape.now in
    let width = c.args.width in
    let low = c.shared-low.result.0 in
    let high = c.shared-low.result.1 in
    let inner = c.inner_len-target_inner.result in
    let first : ℕ = low - get_or ts 0 0 in
    let count : ℕ = high - low in
    let some = not_empty (length ts) c.is_empty.result c.is_empty.ensures c.if-is_empty.false in
    let h = numbers_end (length c.args.target.now) width inner first count es (omega arith) c.requires.target_length c.inner_len-target_inner.ensures (omega arith) in
    omega arith

pub overflow_mul-there : goal.overflow_mul-there
overflow_mul-there t c =
    let ts = c.args.into.start.now in
    let ss = c.args.from.start.now in
    let us = c.args.from.shape.now in
    let width = c.args.width in
    let low = c.shared-low.result.0 in
    let high = c.shared-low.result.1 in
    let source_inner = c.inner_len-source_inner.result in
    let source_first : ℕ = low - get_or ss 0 0 in
    let count : ℕ = high - low in
    let some = not_empty (length ts) c.is_empty.result c.is_empty.ensures c.if-is_empty.false in
    let h = numbers_end (length c.args.source.now) width source_inner source_first count us (omega arith) c.requires.source_length c.inner_len-source_inner.ensures (omega arith) in
    omega arith

pub overflow_mul-count : goal.overflow_mul-count
overflow_mul-count t c =
    let ts = c.args.into.start.now in
    let es = c.args.into.shape.now in
    let width = c.args.width in
    let low = c.shared-low.result.0 in
    let high = c.shared-low.result.1 in
    let inner = c.inner_len-target_inner.result in
    let first : ℕ = low - get_or ts 0 0 in
    let count : ℕ = high - low in
    let some = not_empty (length ts) c.is_empty.result c.is_empty.ensures c.if-is_empty.false in
    let h = numbers_end (length c.args.target.now) width inner first count es (omega arith) c.requires.target_length c.inner_len-target_inner.ensures (omega arith) in
    omega arith

pub copy_stretch-requires-clause-target_end : goal.copy_stretch-requires-clause-target_end
copy_stretch-requires-clause-target_end t c =
    let ts = c.args.into.start.now in
    let es = c.args.into.shape.now in
    let width = c.args.width in
    let low = c.shared-low.result.0 in
    let high = c.shared-low.result.1 in
    let inner = c.inner_len-target_inner.result in
    let first : ℕ = low - get_or ts 0 0 in
    let count : ℕ = high - low in
    let some = not_empty (length ts) c.is_empty.result c.is_empty.ensures c.if-is_empty.false in
    let h = numbers_end (length c.args.target.now) width inner first count es (omega arith) c.requires.target_length c.inner_len-target_inner.ensures (omega arith) in
    h

pub copy_stretch-requires-clause-source_end : goal.copy_stretch-requires-clause-source_end
copy_stretch-requires-clause-source_end t c =
    let ts = c.args.into.start.now in
    let es = c.args.into.shape.now in
    let ss = c.args.from.start.now in
    let us = c.args.from.shape.now in
    let width = c.args.width in
    let low = c.shared-low.result.0 in
    let high = c.shared-low.result.1 in
    let inner = c.inner_len-target_inner.result in
    let source_inner = c.inner_len-source_inner.result in
    let source_first : ℕ = low - get_or ss 0 0 in
    let count : ℕ = high - low in
    let some = not_empty (length ts) c.is_empty.result c.is_empty.ensures c.if-is_empty.false in
    let h = numbers_end (length c.args.source.now) width source_inner source_first count us (omega arith) c.requires.source_length c.inner_len-source_inner.ensures (omega arith) in
    let same = c.is_same.ensures.0 c.if-is_same.true in
    let starts : drop 1 ts ≡ drop 1 ss = sym c.rest-into_rest.ensures.start ∙ same.0 ∙ c.rest-from_rest.ensures.start in
    let sizes : drop 1 es ≡ drop 1 us = sym c.rest-into_rest.ensures.shape ∙ same.1 ∙ c.rest-from_rest.ensures.shape in
    let inner : source_inner ≡ inner = c.inner_len-source_inner.ensures ∙ ap (λ vs. product vs * width) (sym sizes) ∙ sym c.inner_len-target_inner.ensures in
    let bytes = ap (λ n. count * n) inner in
    omega arith

pub returns-then-is_same : goal.returns-then-is_same
returns-then-is_same t c =
    let ts = c.args.into.start.now in
    let es = c.args.into.shape.now in
    let ss = c.args.from.start.now in
    let us = c.args.from.shape.now in
    let width = c.args.width in
    let low = c.shared-low.result.0 in
    let high = c.shared-low.result.1 in
    let inner = c.inner_len-target_inner.result in
    let source_inner = c.inner_len-source_inner.result in
    let first : ℕ = low - get_or ts 0 0 in
    let source_first : ℕ = low - get_or ss 0 0 in
    let count : ℕ = high - low in
    let some = not_empty (length ts) c.is_empty.result c.is_empty.ensures c.if-is_empty.false in
    let same = c.is_same.ensures.0 c.if-is_same.true in
    let starts : drop 1 ts ≡ drop 1 ss = sym c.rest-into_rest.ensures.start ∙ same.0 ∙ c.rest-from_rest.ensures.start in
    let sizes : drop 1 es ≡ drop 1 us = sym c.rest-into_rest.ensures.shape ∙ same.1 ∙ c.rest-from_rest.ensures.shape in
    λ old new wide_old wide_new x y. stretch ts es ss us width old new some c.args.into.same c.requires.rank (c.args.from.same ∙ c.requires.rank) wide_old wide_new c.args.target.now c.args.source.now c.copy_stretch.new.target low count inner (first * inner) (source_first * source_inner) (count * inner) starts sizes c.shared-low.ensures.low (omega arith) c.inner_len-target_inner.ensures refl (ap (λ n. source_first * n) (c.inner_len-source_inner.ensures ∙ ap (λ vs. product vs * width) (sym sizes) ∙ sym c.inner_len-target_inner.ensures)) refl x y c.copy_stretch.ensures

pub loop-row-init : goal.loop-row-init
loop-row-init t c =
    let ts = c.args.into.start.now in
    let es = c.args.into.shape.now in
    let ss = c.args.from.start.now in
    let us = c.args.from.shape.now in
    let width = c.args.width in
    let low = c.shared-low.result.0 in
    let first : ℕ = low - get_or ts 0 0 in
    let some = not_empty (length ts) c.is_empty.result c.is_empty.ensures c.if-is_empty.false in
    λ old new wide_old wide_new x y. begun ts es ss us width old new some c.args.into.same c.requires.rank (c.args.from.same ∙ c.requires.rank) wide_old wide_new c.args.target.now low (first + 0) c.shared-low.ensures.low (omega arith) (omega arith) x

pub overflow_mul-to-in-loop-row : goal.overflow_mul-to-in-loop-row
overflow_mul-to-in-loop-row t c =
    let ts = c.args.into.start.now in
    let es = c.args.into.shape.now in
    let width = c.args.width in
    let low = c.shared-low.result.0 in
    let inner = c.inner_len-target_inner.result in
    let turn = c.loop-row.row in
    let first : ℕ = low - get_or ts 0 0 in
    let some = not_empty (length ts) c.is_empty.result c.is_empty.ensures c.if-is_empty.false in
    let h = number_end (length c.args.target.now) width inner (first + turn) es (omega arith) c.requires.target_length c.inner_len-target_inner.ensures (omega arith) in
    omega arith

pub overflow_mul-there-in-loop-row : goal.overflow_mul-there-in-loop-row
overflow_mul-there-in-loop-row t c =
    let ts = c.args.into.start.now in
    let ss = c.args.from.start.now in
    let us = c.args.from.shape.now in
    let width = c.args.width in
    let low = c.shared-low.result.0 in
    let source_inner = c.inner_len-source_inner.result in
    let turn = c.loop-row.row in
    let source_first : ℕ = low - get_or ss 0 0 in
    let some = not_empty (length ts) c.is_empty.result c.is_empty.ensures c.if-is_empty.false in
    let h = number_end (length c.args.source.now) width source_inner (source_first + turn) us (omega arith) c.requires.source_length c.inner_len-source_inner.ensures (omega arith) in
    omega arith

pub overflow_add-to-in-loop-row : goal.overflow_add-to-in-loop-row
overflow_add-to-in-loop-row t c =
    let ts = c.args.into.start.now in
    let es = c.args.into.shape.now in
    let width = c.args.width in
    let low = c.shared-low.result.0 in
    let inner = c.inner_len-target_inner.result in
    let turn = c.loop-row.row in
    let first : ℕ = low - get_or ts 0 0 in
    let some = not_empty (length ts) c.is_empty.result c.is_empty.ensures c.if-is_empty.false in
    let h = number_end (length c.args.target.now) width inner (first + turn) es (omega arith) c.requires.target_length c.inner_len-target_inner.ensures (omega arith) in
    omega arith

pub slice_bounds-overlay_extent-end : goal.slice_bounds-overlay_extent-end
slice_bounds-overlay_extent-end t c =
    let ts = c.args.into.start.now in
    let es = c.args.into.shape.now in
    let width = c.args.width in
    let low = c.shared-low.result.0 in
    let inner = c.inner_len-target_inner.result in
    let turn = c.loop-row.row in
    let first : ℕ = low - get_or ts 0 0 in
    let some = not_empty (length ts) c.is_empty.result c.is_empty.ensures c.if-is_empty.false in
    let h = number_end (length c.args.target.now) width inner (first + turn) es (omega arith) c.requires.target_length c.inner_len-target_inner.ensures (omega arith) in
    search rules

pub overflow_add-there-in-loop-row : goal.overflow_add-there-in-loop-row
overflow_add-there-in-loop-row t c =
    let ts = c.args.into.start.now in
    let ss = c.args.from.start.now in
    let us = c.args.from.shape.now in
    let width = c.args.width in
    let low = c.shared-low.result.0 in
    let source_inner = c.inner_len-source_inner.result in
    let turn = c.loop-row.row in
    let source_first : ℕ = low - get_or ss 0 0 in
    let some = not_empty (length ts) c.is_empty.result c.is_empty.ensures c.if-is_empty.false in
    let h = number_end (length c.args.source.now) width source_inner (source_first + turn) us (omega arith) c.requires.source_length c.inner_len-source_inner.ensures (omega arith) in
    omega arith

pub slice_bounds-overlay_extent-end-in-loop-row : goal.slice_bounds-overlay_extent-end-in-loop-row
slice_bounds-overlay_extent-end-in-loop-row t c =
    let ts = c.args.into.start.now in
    let ss = c.args.from.start.now in
    let us = c.args.from.shape.now in
    let width = c.args.width in
    let low = c.shared-low.result.0 in
    let source_inner = c.inner_len-source_inner.result in
    let turn = c.loop-row.row in
    let source_first : ℕ = low - get_or ss 0 0 in
    let some = not_empty (length ts) c.is_empty.result c.is_empty.ensures c.if-is_empty.false in
    let h = number_end (length c.args.source.now) width source_inner (source_first + turn) us (omega arith) c.requires.source_length c.inner_len-source_inner.ensures (omega arith) in
    search rules

pub loop-row-preserved : goal.loop-row-preserved
loop-row-preserved t c =
    let ts = c.args.into.start.now in
    let es = c.args.into.shape.now in
    let ss = c.args.from.start.now in
    let us = c.args.from.shape.now in
    let width = c.args.width in
    let low = c.shared-low.result.0 in
    let inner = c.inner_len-target_inner.result in
    let source_inner = c.inner_len-source_inner.result in
    let turn = c.loop-row.row in
    let first : ℕ = low - get_or ts 0 0 in
    let source_first : ℕ = low - get_or ss 0 0 in
    let some = not_empty (length ts) c.is_empty.result c.is_empty.ensures c.if-is_empty.false in
    λ old new wide_old wide_new x y. row ts es ss us width old new some c.args.into.same c.requires.rank (c.args.from.same ∙ c.requires.rank) wide_old wide_new c.loop-row.target c.args.source.now c.overlay_extent.new.target _
    c.rest-into_rest.result.start.now c.rest-into_rest.result.shape.now c.rest-from_rest.result.start.now c.rest-from_rest.result.shape.now
    (first + turn) (get_or es 0 0 - (first + turn)) (first + (turn + 1)) (get_or es 0 0 - (first + (turn + 1)))
    ((first + turn) * inner) ((source_first + turn) * source_inner) inner source_inner ((first + turn) * inner + inner - (first + turn) * inner) ((source_first + turn) * source_inner + source_inner - (source_first + turn) * source_inner)
    c.rest-into_rest.ensures.start c.rest-into_rest.ensures.shape c.rest-from_rest.ensures.start c.rest-from_rest.ensures.shape
    c.inner_len-target_inner.ensures c.inner_len-source_inner.ensures refl (ap (λ n. n * source_inner) (let k : source_first + turn ≡ get_or ts 0 0 + (first + turn) - get_or ss 0 0 = omega arith in k)) (omega arith) (omega arith) (omega arith) (omega arith) (omega arith)
    c.overlay_extent.ensures refl (omega arith) (omega arith) y (c.loop-row.invariant old new wide_old wide_new x y)

pub returns : goal.returns
returns t c =
    let ts = c.args.into.start.now in
    let es = c.args.into.shape.now in
    let ss = c.args.from.start.now in
    let us = c.args.from.shape.now in
    let width = c.args.width in
    let low = c.shared-low.result.0 in
    let turn = c.loop-row.row in
    let first : ℕ = low - get_or ts 0 0 in
    let some = not_empty (length ts) c.is_empty.result c.is_empty.ensures c.if-is_empty.false in
    λ old new wide_old wide_new x y. finished ts es ss us width old new some c.args.into.same c.requires.rank (c.args.from.same ∙ c.requires.rank) wide_old wide_new c.loop-row.target (first + turn) (omega arith) (c.loop-row.invariant old new wide_old wide_new x y)
