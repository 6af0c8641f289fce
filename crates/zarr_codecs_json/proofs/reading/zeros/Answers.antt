use Rattle.std.proofs.Common.{◌≡◌, ◌∙◌, sym, ap, arith, rules, replicate}
use Rattle.serde_json.specs.View.{items_view}
use Rattle.zarr_codecs_meaning.specs.Types.{custom, byte_width}
use Rattle.zarr_codecs_types.specs.Views.{type_of}
use Rattle.zarr_codecs_arrays.proofs.Counts.{known_width}
use Rattle.zarr_codecs_json.specs.Inside.{cell_inside}
use Rattle.zarr_codecs_json.proofs.ReadLists.{fixed_begins, zero_read, zero_not_read, custom_width, fixed_ends}
use Rattle.zarr_codecs_json.proofs.reading.zeros.Goals as goal

pub loop-value-init : goal.loop-value-init
loop-value-init c parts h = fixed_begins (cell_inside (custom parts) c.args.levels) c.in-Some.width c.new-bytes.result.items (items_view c.args.values.now) c.new-bytes.ensures.items

pub loop-value-preserved : goal.loop-value-preserved
loop-value-preserved c parts h =
    let width = c.in-Some.width in
    let wide = custom_width (type_of c.args.data_type.now) parts width h (known_width (type_of c.args.data_type.now) width c.in-Some.ensures) in
    let zeros : c.in_ok-zero.zero.items ≡ replicate width 0 = search rules in
    zero_read parts c.args.levels width c.loop-value.bytes.items c.extend_from_slice.new.self.items c.as_slice.result.now c.args.values.now c.loop-value.value-index c.value-item.result (omega arith) wide (c.as_slice.ensures.value ∙ zeros)
    (sym c.if-not-is_absent.false ∙ c.is_absent.ensures) c.loop-value-test.true c.value-item.is c.in_ok-extend_from_slice.ensures.items (c.loop-value.invariant parts h)

pub returns-then-not-is_absent-clause-none : goal.returns-then-not-is_absent-clause-none
returns-then-not-is_absent-clause-none c parts h =
    zero_not_read parts c.args.levels c.in-Some.width c.loop-value.bytes.items c.args.values.now c.loop-value.value-index c.value-item.result (sym c.if-not-is_absent.true ∙ c.is_absent.ensures) c.loop-value-test.true c.value-item.is (c.loop-value.invariant parts h)

pub returns-clause-some : goal.returns-clause-some
returns-clause-some c parts h =
    let width = c.in-Some.width in
    fixed_ends (custom parts) c.args.levels width c.loop-value.bytes.items c.args.values.now c.loop-value.value-index (omega arith) (sym (ap (λ t. byte_width t) h) ∙ known_width (type_of c.args.data_type.now) width c.in-Some.ensures) (omega arith) (c.loop-value.invariant parts h)
