use Rattle.std.proofs.Common.{◌∙◌, ap}
use Rattle.zarr_codecs_arrays.specs.Views.{payload_of}
use Rattle.zarr_codecs_sections.specs.Marks.{both_marks, chosen}
use Rattle.zarr_codecs_sections.proofs.MaskCells.{chosen_split}
use Rattle.zarr_codecs_sections.proofs.splitting.split_chosen.Goals as goal

pub returns : goal.returns
returns c inner cells are values =
    let outer = c.args.marks.now in
    chosen_split inner (payload_of c.args.elements) (payload_of c.in-Optional.below.value) outer c.in-Optional.mask.items cells (record { mask = c.in_ok-found.found; marks = c.in_ok-both.both; below = c.into_inner.result }) (ap payload_of c.in-Optional.is) are values
    (c.in_ok-found.ensures ∙ ap (λ ns. chosen outer ns) c.as_slice.ensures.value) (c.in_ok-both.ensures ∙ ap (both_marks outer) c.as_slice-2.ensures.value) (ap payload_of c.into_inner.ensures)
