use Rattle.std.proofs.Common.{◌∙◌, sym, ap, arith}
use Rattle.zarr_codecs_meaning.specs.Types.{is_value_in_bytes}
use Rattle.zarr_codecs_types.specs.Views.{type_of}
use Rattle.zarr_codecs_arrays.proofs.ElementValues.{fixed_value_at, fixed_within, no_cells}
use Rattle.zarr_codecs_arrays.proofs.values.is_fixed_value_at.Goals as goal

pub returns-in_default : goal.returns-in_default
returns-in_default c cells is below = let none = no_cells (type_of c.args.data_type.now) c.args.bytes.now cells c.in_default.ensures (omega arith) is in absurd (omega (arith, none, below))

pub returns-in-Some-element_at : goal.returns-in-Some-element_at
returns-in-Some-element_at c cells is below =
    c.is_value_in_bytes.ensures
    ∙ (ap (is_value_in_bytes (type_of c.args.data_type.now)) c.in-Some-element_at.ensures
    ∙ sym (fixed_value_at (type_of c.args.data_type.now) c.in-Some.width c.args.index c.args.bytes.now cells c.in-Some.ensures is below))

pub returns-in-None : goal.returns-in-None
returns-in-None c cells is below = absurd (fixed_within (type_of c.args.data_type.now) c.in-Some.width c.args.index c.args.bytes.now cells c.in-Some.ensures is below c.in-None.ensures)
