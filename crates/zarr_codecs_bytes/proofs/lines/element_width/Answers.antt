use Rattle.std.proofs.Common.{◌∙◌, ap, option_and_then}
use Rattle.zarr_grids_boxes.specs.Subsets.{region_of}
use Rattle.zarr_codecs_meaning.specs.Types.{byte_width}
use Rattle.zarr_codecs_types.specs.Parts.{word_sized}
use Rattle.zarr_codecs_arrays.specs.Views.{elements_of}
use Rattle.zarr_codecs_bytes.proofs.PartDecoding.{no_width}
use Rattle.zarr_codecs_bytes.proofs.lines.element_width.Goals as goal

pub returns-in_default-clause-none : goal.returns-in_default-clause-none
returns-in_default-clause-none c =
    let part = c.args.part in
    let type = (elements_of part.elements.now).type in
    no_width type part.shape.now (region_of part.region.now) c.args.size c.requires.fixed (c.in_default.ensures ∙ ap (λ t. option_and_then word_sized (byte_width t)) c.data_type.ensures) c.requires.size c.requires.small part.region.now.same part.inside
