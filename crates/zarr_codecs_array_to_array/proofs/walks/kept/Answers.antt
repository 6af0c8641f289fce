use Rattle.std.proofs.Common.{◌∙◌, ap, sym, Some}
use Rattle.zarr_grids_boxes.specs.Boxes.{product}
use Rattle.zarr_codecs_arrays.specs.Views.{elements_of}
use Rattle.zarr_codecs_array_to_array.proofs.Routes.{gathered_all}
use Rattle.zarr_codecs_array_to_array.proofs.walks.kept.Goals as goal

pub returns-in-Ok : goal.returns-in-Ok
returns-in-Ok c all =
    let found = c.in-Ok.ensures in
    record {
      cells = found.0;
      valid = found.1;
      lists = found.1.is.lists ∙ ap Some (sym (gathered_all (elements_of c.args.elements.now).fill found.0 (product c.args.shape.now) found.1.is.many));
    }
