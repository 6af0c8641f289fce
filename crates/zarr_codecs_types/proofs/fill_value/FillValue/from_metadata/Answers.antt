use Rattle.std.proofs.Common.{◌≡◌, true, ap, subst}
use Rattle.std.specs.Option.{option_map, IfSome}
use Rattle.serde_json.specs.View.{view}
use Rattle.zarr_codecs_types.specs.Views.{type_of, cell_of}
use Rattle.zarr_codecs_types.specs.FillMetadata.{holds_bytes}
use Rattle.zarr_codecs_types.proofs.FillValues.{found_is_value}
use Rattle.zarr_codecs_types.proofs.fill_value.FillValue.from_metadata.Goals as goal

pub returns-in-Some-clause-value : goal.returns-in-Some-clause-value
returns-in-Some-clause-value c =
    found_is_value (type_of c.args.data_type.now) (view c.args.metadata.now) (option_map cell_of c.in_ok-cell.field-0) (cell_of c.in-Some.cell) (cell_of c.from.result.cell)
    c.in_ok-cell.ensures.cell (ap (option_map cell_of) c.in-Some.is) (subst (λ o. IfSome o (λ e. holds_bytes (cell_of e) ≡ true)) c.in-Some.is c.in_ok-cell.ensures.bytes) (ap cell_of c.from.ensures)
