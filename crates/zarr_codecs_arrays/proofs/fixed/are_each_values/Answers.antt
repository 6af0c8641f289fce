use Rattle.std.proofs.Common.{arith, ap, sym, ◌∙◌}
use Rattle.std.specs.List.{list_all}
use Rattle.zarr_codecs_meaning.specs.Types.{is_value, is_value_in_bytes}
use Rattle.zarr_codecs_meaning.specs.Payloads.{fixed_cells}
use Rattle.zarr_codecs_types.specs.Views.{type_of}
use Rattle.zarr_codecs_arrays.proofs.FixedValues.{first_no_value, first_is_value, no_values}
use Rattle.zarr_codecs_arrays.proofs.fixed.are_each_values.Goals as goal

pub returns-then-not-is_value_in_bytes : goal.returns-then-not-is_value_in_bytes
returns-then-not-is_value_in_bytes c =
    let type = type_of c.args.data_type.now in
    first_no_value type c.args.width c.loop-rest.rest.now c.is_value_in_bytes.result c.requires c.loop-rest-test.true (c.is_value_in_bytes.ensures ∙ ap (is_value_in_bytes type) c.split_at.ensures.front) c.if-not-is_value_in_bytes.true
    ∙ sym c.loop-rest.invariant

pub loop-rest-preserved : goal.loop-rest-preserved
loop-rest-preserved c =
    let type = type_of c.args.data_type.now in
    c.loop-rest.invariant
    ∙ (first_is_value type c.args.width c.loop-rest.rest.now c.is_value_in_bytes.result c.requires c.loop-rest-test.true (c.is_value_in_bytes.ensures ∙ ap (is_value_in_bytes type) c.split_at.ensures.front) c.if-not-is_value_in_bytes.false
    ∙ ap (λ ns. list_all (is_value type) (fixed_cells c.args.width ns)) (sym c.split_at.ensures.back))

pub returns : goal.returns
returns c = sym (c.loop-rest.invariant ∙ no_values (type_of c.args.data_type.now) c.args.width c.loop-rest.rest.now (omega arith))
