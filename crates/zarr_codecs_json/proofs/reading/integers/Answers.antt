use Rattle.std.proofs.Common.{◌≡◌, ◌+◌, ◌/◌, Some, take, length, ap, ◌∙◌, sym, arith, rules}
use Rattle.std.specs.Int.{to_le_bytes}
use Rattle.std.proofs.lemmas.Int.{to_z-of_z}
use mir.Val.{of_z, SFits}
use mir.Syntax.{w128}
use Rattle.serde_json.specs.View.{view}
use Rattle.zarr_codecs_meaning.specs.Types.{integer, of_bytes}
use Rattle.zarr_codecs_types.specs.Integers.{integer_bytes}
use Rattle.zarr_codecs_types.specs.Views.{sign_of}
use Rattle.zarr_codecs_types.proofs.Integers.{integer_taken}
use Rattle.zarr_codecs_json.specs.Inside.{cell_inside}
use Rattle.zarr_codecs_json.proofs.ReadLists.{fixed_read, fixed_ends, length-integer_bytes}
use Rattle.zarr_codecs_json.proofs.reading.integers.Goals as goal

pub loop-value-preserved : goal.loop-value-preserved
loop-value-preserved c =
    let width = c.args.width in
    let says = cell_inside (integer (sign_of c.args.sign) width) c.args.levels in
    let count = (width + 7) / 8 in
    let some = c.requires.some in
    let narrow = c.requires.narrow in
    let value = c.value-item.result in
    let z = c.in-Some-integer_inside.integer in
    let element = take count c.to_le_bytes-word.result in
    let fits : SFits w128 z = search rules in
    let passed = ap (λ z. take count (to_le_bytes w128 (of_z w128 z))) (to_z-of_z w128 z fits) in
    let read : element ≡ integer_bytes count z = ap (take count) c.to_le_bytes-word.ensures ∙ (passed ∙ integer_taken count z (omega arith) c.in-Some-integer_inside.ensures.reaches) in
    let said : says (view value) ≡ Some (of_bytes element) = sym c.in-Some-integer_inside.ensures.cell ∙ ap (λ ns. Some (of_bytes ns)) (sym read) in
    fixed_read says count c.loop-value.bytes.items c.extend_from_slice.new.self.items element c.args.values.now c.loop-value.value-index value (omega arith) (ap length read ∙ length-integer_bytes count z)
    said c.loop-value-test.true c.value-item.is c.in_ok-extend_from_slice.ensures.items c.loop-value.invariant

pub returns-clause-some : goal.returns-clause-some
returns-clause-some c =
    let some = c.requires.some in
    fixed_ends (integer (sign_of c.args.sign) c.args.width) c.args.levels ((c.args.width + 7) / 8) c.loop-value.bytes.items c.args.values.now c.loop-value.value-index (omega arith) (ap Some (omega arith)) (omega arith) c.loop-value.invariant
