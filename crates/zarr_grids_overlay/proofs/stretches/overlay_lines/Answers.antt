use Rattle.std.proofs.Common.{◌≡◌, ◌+◌, ◌*◌, ◌-◌, ℕ, length, get_or, refl, ap, ◌∙◌, arith, rules}
use Rattle.zarr_grids_overlay.proofs.Steps.{not_shared, begun, finished, number_end, line_end, no_line, line}
use Rattle.zarr_grids_overlay.proofs.stretches.overlay_lines.Goals as goal
use Rattle.zarr_grids_overlay.proofs.stretches.overlay_lines.Goals.{then-low-high-via-then-low-high, then-low-high-via-else-low-high+then-left-right}

pub returns-then-low-high : goal.returns-then-low-high
returns-then-low-high c =
    let ts = c.args.into.start.now in
    let es = c.args.into.shape.now in
    let ss = c.args.from.start.now in
    let us = c.args.from.shape.now in
    let width = c.args.width in
    λ old new wide_old wide_new x y.
    elim c.then-low-high.branch [
      | then-low-high-via-then-low-high w ↦ not_shared ts es ss us width old new (omega arith) c.args.into.same c.requires.rank (c.args.from.same ∙ c.requires.rank) wide_old wide_new c.args.target.now (omega arith) x
      | then-low-high-via-else-low-high+then-left-right w ↦ no_line ts es ss us width old new c.requires.two c.args.into.same c.requires.rank (c.args.from.same ∙ c.requires.rank) wide_old wide_new c.args.target.now (omega arith) x
    ]

pub loop-row-init : goal.loop-row-init
loop-row-init c =
    let ts = c.args.into.start.now in
    let es = c.args.into.shape.now in
    let ss = c.args.from.start.now in
    let us = c.args.from.shape.now in
    let width = c.args.width in
    let low = c.shared-low.result.0 in
    let first : ℕ = low - get_or ts 0 0 in
    λ old new wide_old wide_new x y. begun ts es ss us width old new (omega arith) c.args.into.same c.requires.rank (c.args.from.same ∙ c.requires.rank) wide_old wide_new c.args.target.now low (first + 0) c.shared-low.ensures.low (omega arith) (omega arith) x

pub overflow_mul-to : goal.overflow_mul-to
overflow_mul-to c =
    let ts = c.args.into.start.now in
    let es = c.args.into.shape.now in
    let width = c.args.width in
    let low = c.shared-low.result.0 in
    let inner = c.inner_len-target_inner.result in
    let turn = c.loop-row.row in
    let first : ℕ = low - get_or ts 0 0 in
    let h = number_end (length c.args.target.now) width inner (first + turn) es (omega arith) c.requires.target_length c.inner_len-target_inner.ensures (omega arith) in
    omega arith

pub overflow_mul-there : goal.overflow_mul-there
overflow_mul-there c =
    let ss = c.args.from.start.now in
    let us = c.args.from.shape.now in
    let width = c.args.width in
    let low = c.shared-low.result.0 in
    let source_inner = c.inner_len-source_inner.result in
    let turn = c.loop-row.row in
    let source_first : ℕ = low - get_or ss 0 0 in
    let h = number_end (length c.args.source.now) width source_inner (source_first + turn) us (omega arith) c.requires.source_length c.inner_len-source_inner.ensures (omega arith) in
    omega arith

pub overflow_add-to-in-loop-row : goal.overflow_add-to-in-loop-row
overflow_add-to-in-loop-row c =
    let ts = c.args.into.start.now in
    let es = c.args.into.shape.now in
    let width = c.args.width in
    let low = c.shared-low.result.0 in
    let inner = c.inner_len-target_inner.result in
    let turn = c.loop-row.row in
    let first : ℕ = low - get_or ts 0 0 in
    let h = number_end (length c.args.target.now) width inner (first + turn) es (omega arith) c.requires.target_length c.inner_len-target_inner.ensures (omega arith) in
    omega arith

pub slice_bounds-copy_stretch-end : goal.slice_bounds-copy_stretch-end
slice_bounds-copy_stretch-end c =
    let ts = c.args.into.start.now in
    let es = c.args.into.shape.now in
    let width = c.args.width in
    let low = c.shared-low.result.0 in
    let inner = c.inner_len-target_inner.result in
    let turn = c.loop-row.row in
    let first : ℕ = low - get_or ts 0 0 in
    let h = number_end (length c.args.target.now) width inner (first + turn) es (omega arith) c.requires.target_length c.inner_len-target_inner.ensures (omega arith) in
    search rules

pub overflow_add-there-in-loop-row : goal.overflow_add-there-in-loop-row
overflow_add-there-in-loop-row c =
    let ss = c.args.from.start.now in
    let us = c.args.from.shape.now in
    let width = c.args.width in
    let low = c.shared-low.result.0 in
    let source_inner = c.inner_len-source_inner.result in
    let turn = c.loop-row.row in
    let source_first : ℕ = low - get_or ss 0 0 in
    let h = number_end (length c.args.source.now) width source_inner (source_first + turn) us (omega arith) c.requires.source_length c.inner_len-source_inner.ensures (omega arith) in
    omega arith

pub slice_bounds-copy_stretch-end-in-loop-row : goal.slice_bounds-copy_stretch-end-in-loop-row
slice_bounds-copy_stretch-end-in-loop-row c =
    let ss = c.args.from.start.now in
    let us = c.args.from.shape.now in
    let width = c.args.width in
    let low = c.shared-low.result.0 in
    let source_inner = c.inner_len-source_inner.result in
    let turn = c.loop-row.row in
    let source_first : ℕ = low - get_or ss 0 0 in
    let h = number_end (length c.args.source.now) width source_inner (source_first + turn) us (omega arith) c.requires.source_length c.inner_len-source_inner.ensures (omega arith) in
    search rules

pub copy_stretch-requires-clause-target_end : goal.copy_stretch-requires-clause-target_end
copy_stretch-requires-clause-target_end c =
    let ts = c.args.into.start.now in
    let es = c.args.into.shape.now in
    let width = c.args.width in
    let low = c.shared-low.result.0 in
    let left = c.shared-left.result.0 in
    let right = c.shared-left.result.1 in
    let inner = c.inner_len-target_inner.result in
    let turn = c.loop-row.row in
    let first : ℕ = low - get_or ts 0 0 in
    let h = number_end (length c.args.target.now) width inner (first + turn) es (omega arith) c.requires.target_length c.inner_len-target_inner.ensures (omega arith) in
    line_end c.loop-row.target es (length c.args.target.now) width inner ((first + turn) * inner) ((first + turn) * inner + inner - (first + turn) * inner) (left - get_or ts 1 0) (right - left) (omega arith) h (omega arith) (omega arith) c.inner_len-target_inner.ensures (omega arith)

pub copy_stretch-requires-clause-source_end : goal.copy_stretch-requires-clause-source_end
copy_stretch-requires-clause-source_end c =
    let ss = c.args.from.start.now in
    let us = c.args.from.shape.now in
    let width = c.args.width in
    let low = c.shared-low.result.0 in
    let left = c.shared-left.result.0 in
    let right = c.shared-left.result.1 in
    let source_inner = c.inner_len-source_inner.result in
    let turn = c.loop-row.row in
    let source_first : ℕ = low - get_or ss 0 0 in
    let h = number_end (length c.args.source.now) width source_inner (source_first + turn) us (omega arith) c.requires.source_length c.inner_len-source_inner.ensures (omega arith) in
    line_end c.args.source.now us (length c.args.source.now) width source_inner ((source_first + turn) * source_inner) ((source_first + turn) * source_inner + source_inner - (source_first + turn) * source_inner) (left - get_or ss 1 0) (right - left) (omega arith) h (omega arith) (omega arith) c.inner_len-source_inner.ensures (omega arith)

pub loop-row-preserved : goal.loop-row-preserved
loop-row-preserved c =
    let ts = c.args.into.start.now in
    let es = c.args.into.shape.now in
    let ss = c.args.from.start.now in
    let us = c.args.from.shape.now in
    let width = c.args.width in
    let low = c.shared-low.result.0 in
    let left = c.shared-left.result.0 in
    let right = c.shared-left.result.1 in
    let inner = c.inner_len-target_inner.result in
    let source_inner = c.inner_len-source_inner.result in
    let turn = c.loop-row.row in
    let first : ℕ = low - get_or ts 0 0 in
    let source_first : ℕ = low - get_or ss 0 0 in
    λ old new wide_old wide_new x y. line ts es ss us width old new c.requires.two c.args.into.same c.requires.rank (c.args.from.same ∙ c.requires.rank) wide_old wide_new c.loop-row.target c.args.source.now c.copy_stretch.new.target _
    (first + turn) (get_or es 0 0 - (first + turn)) (first + (turn + 1)) (get_or es 0 0 - (first + (turn + 1)))
    ((first + turn) * inner) ((source_first + turn) * source_inner) inner source_inner ((first + turn) * inner + inner - (first + turn) * inner) ((source_first + turn) * source_inner + source_inner - (source_first + turn) * source_inner)
    left (right - left) ((left - get_or ts 1 0) * width) ((left - get_or ss 1 0) * width) ((right - left) * width)
    c.inner_len-target_inner.ensures c.inner_len-source_inner.ensures refl (ap (λ n. n * source_inner) (let k : source_first + turn ≡ get_or ts 0 0 + (first + turn) - get_or ss 0 0 = omega arith in k)) (omega arith) (omega arith) (omega arith) (omega arith) (omega arith)
    c.shared-left.ensures.low (omega arith) refl refl refl c.copy_stretch.ensures refl (omega arith) (omega arith) y (c.loop-row.invariant old new wide_old wide_new x y)

pub returns : goal.returns
returns c =
    let ts = c.args.into.start.now in
    let es = c.args.into.shape.now in
    let ss = c.args.from.start.now in
    let us = c.args.from.shape.now in
    let width = c.args.width in
    let low = c.shared-low.result.0 in
    let turn = c.loop-row.row in
    let first : ℕ = low - get_or ts 0 0 in
    λ old new wide_old wide_new x y. finished ts es ss us width old new (omega arith) c.args.into.same c.requires.rank (c.args.from.same ∙ c.requires.rank) wide_old wide_new c.loop-row.target (first + turn) (omega arith) (c.loop-row.invariant old new wide_old wide_new x y)
