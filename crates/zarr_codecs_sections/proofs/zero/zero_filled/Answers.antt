use Rattle.std.proofs.Common.{◌∙◌, ap, sym}
use Rattle.zarr_codecs_meaning.specs.Types.{is_value, zero_cell}
use Rattle.zarr_codecs_meaning.proofs.Zeros.{zero_is_value}
use Rattle.zarr_codecs_types.specs.Views.{type_of}
use Rattle.zarr_codecs_sections.proofs.CutElements.{false_true}
use Rattle.zarr_codecs_sections.proofs.zero.zero_filled.Goals as goal

pub unreachable-requires : goal.unreachable-requires
unreachable-requires c =
    let type = type_of c.args.data_type in
    false_true (is_value type (zero_cell type)) (zero_is_value type) (ap (is_value type) (sym c.in_ok-fill_value.ensures) ∙ c.in-None.ensures.none)
