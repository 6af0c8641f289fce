use Rattle.std.proofs.Common.{refl, ap, ◌∙◌, nat_lt, nat_le, ◌-◌}
use Rattle.std.specs.Prelude.{◌||◌}
use Rattle.zarr_codecs_meaning.specs.Types.{bool, integer, signed, unsigned}
use Rattle.zarr_codecs_types.specs.Views.{type_of}
use Rattle.zarr_codecs_arrays.proofs.FixedValues.{one_byte_values}
use Rattle.zarr_codecs_arrays.proofs.fixed.are_whole_values.Goals as goal

pub returns-in-Bool : goal.returns-in-Bool
returns-in-Bool c = c.are_below.ensures ∙ one_byte_values bool (type_of c.args.data_type.now) (λ b. nat_lt b 2) c.args.width c.args.bytes.now refl refl (ap type_of c.in-Bool.is) c.requires.width c.type_inv.bytes

pub returns-in-UInt2 : goal.returns-in-UInt2
returns-in-UInt2 c = c.are_below-in-UInt2.ensures ∙ one_byte_values (integer unsigned 2) (type_of c.args.data_type.now) (λ b. nat_lt b 4) c.args.width c.args.bytes.now refl refl (ap type_of c.in-UInt2.is) c.requires.width c.type_inv.bytes

pub returns-in-UInt4 : goal.returns-in-UInt4
returns-in-UInt4 c = c.are_below-in-UInt4.ensures ∙ one_byte_values (integer unsigned 4) (type_of c.args.data_type.now) (λ b. nat_lt b 16) c.args.width c.args.bytes.now refl refl (ap type_of c.in-UInt4.is) c.requires.width c.type_inv.bytes

pub returns-in-Int2 : goal.returns-in-Int2
returns-in-Int2 c = c.are_near_zero.ensures ∙ one_byte_values (integer signed 2) (type_of c.args.data_type.now) (λ b. nat_lt b 2 || nat_le (256 - 2) b) c.args.width c.args.bytes.now refl refl (ap type_of c.in-Int2.is) c.requires.width c.type_inv.bytes

pub returns-in-Int4 : goal.returns-in-Int4
returns-in-Int4 c = c.are_near_zero-in-Int4.ensures ∙ one_byte_values (integer signed 4) (type_of c.args.data_type.now) (λ b. nat_lt b 8 || nat_le (256 - 8) b) c.args.width c.args.bytes.now refl refl (ap type_of c.in-Int4.is) c.requires.width c.type_inv.bytes
