use Rattle.std.proofs.Common.{◌∙◌, sym, length}
use Rattle.std.proofs.lemmas.Bool.{eqb-false}
use Rattle.zarr_codecs_types.specs.Views.{type_of}
use Rattle.zarr_codecs_arrays.proofs.Fillings.{fixed_filled}
use Rattle.zarr_codecs_arrays.proofs.filling.filled_fixed.Goals as goal

pub returns-in-Ok : goal.returns-in-Ok
returns-in-Ok c = fixed_filled (type_of c.args.data_type.now) c.args.element.now c.in-Ok.bytes.items c.args.count c.requires.fixed c.requires.value (eqb-false (length c.args.element.now) 0 (sym c.is_empty.ensures ∙ c.if-is_empty.false)) c.in-Ok.ensures
