use Rattle.std.proofs.Common.{◌∙◌, sym, ap, arith, ◌≡◌, ◌<◌, length, Some, ◌==◌, get_or, true, false}
use Rattle.std.specs.Prelude.{◌||◌}
use Rattle.zarr_codecs_meaning.specs.Types.{optional_of, is_value, absent}
use Rattle.zarr_codecs_meaning.specs.Payloads.{optional, variable, cells_in}
use Rattle.zarr_codecs_types.specs.Views.{type_of}
use Rattle.zarr_codecs_arrays.specs.Views.{payload_of, numbers_of}
use Rattle.zarr_codecs_arrays.proofs.ElementValues.{value_of_all}
use Rattle.zarr_codecs_arrays.proofs.Masks.{masked_parts, masked_value_at, masked_lengths}
use Rattle.zarr_codecs_arrays.proofs.values.+is_value_at.Goals as goal

pub returns-in-Variable : goal.returns-in-Variable
returns-in-Variable t c cells is below =
    let type = type_of c.args.data_type.now in
    let known = c.as_slice-in-Variable.ensures.value in
    let given : cells_in type (variable c.as_slice-in-Variable.result.now (numbers_of c.in-Variable.offsets)) ≡ Some cells =
    ap (λ ns. cells_in type (variable ns (numbers_of c.in-Variable.offsets))) known ∙ (sym (ap (λ a. cells_in type (payload_of a)) c.in-Variable.is) ∙ is) in
    value_of_all type cells c.args.index c.are_variable_values.result c.are_variable_values.ensures.yes (c.are_variable_values.ensures.values cells given) below

pub returns-then-is_absent_at : goal.returns-then-is_absent_at
returns-then-is_absent_at t c cells is below =
    let type = type_of c.in-Optional-data_type.of_type.value in
    let mask = c.as_slice-in-Optional-data_type.result.now in
    let m = masked_parts (type_of c.args.data_type.now) type (payload_of c.args.elements.now) (payload_of c.in-Optional.inner.value) mask cells (ap type_of c.in-Optional-data_type.is)
    (ap payload_of c.in-Optional.is ∙ ap (optional (payload_of c.in-Optional.inner.value)) (sym c.as_slice-in-Optional-data_type.ensures.value)) is in
    let zero : (get_or mask c.args.index 1 == 0) ≡ true = sym c.is_absent_at.ensures ∙ c.if-is_absent_at.true in
    c.if-is_absent_at.true
    ∙ sym (ap (λ x. is_value x (get_or cells c.args.index absent)) (ap type_of c.in-Optional-data_type.is)
    ∙ (masked_value_at type m.below mask cells c.args.index m.marked below ∙ ap (λ b. b || is_value type (get_or m.below c.args.index absent)) zero))

pub returns-else-is_absent_at : goal.returns-else-is_absent_at
returns-else-is_absent_at t c cells is below =
    let type = type_of c.deref-else-is_absent_at.result.now in
    let inner = payload_of c.deref.result.now in
    let mask = c.as_slice-in-Optional-data_type.result.now in
    let t-eq : type_of c.args.data_type.now ≡ optional_of type = ap type_of c.in-Optional-data_type.is ∙ ap (λ x. optional_of (type_of x)) (sym c.deref-else-is_absent_at.ensures) in
    let m = masked_parts (type_of c.args.data_type.now) type (payload_of c.args.elements.now) inner mask cells t-eq
    (ap payload_of c.in-Optional.is ∙ (ap (λ x. optional (payload_of x) c.in-Optional.mask.items) (sym c.deref.ensures) ∙ ap (optional inner) (sym c.as_slice-in-Optional-data_type.ensures.value))) is in
    let long = masked_lengths m.below mask cells m.marked in
    let less : c.args.index < length m.below = omega (arith, long.0, long.1, below) in
    let zero : (get_or mask c.args.index 1 == 0) ≡ false = sym c.is_absent_at.ensures ∙ c.if-is_absent_at.false in
    c.is_value_at.ensures m.below m.inside less
    ∙ sym (ap (λ x. is_value x (get_or cells c.args.index absent)) t-eq
    ∙ (masked_value_at type m.below mask cells c.args.index m.marked below ∙ ap (λ b. b || is_value type (get_or m.below c.args.index absent)) zero))
