use Rattle.std.proofs.Common.{ap}
use Rattle.zarr_codecs_meaning.specs.Payloads.{optional}
use Rattle.zarr_codecs_arrays.specs.Views.{payload_of}
use Rattle.zarr_codecs_sections.proofs.MaskCells.{all_put_below, chosen_put}
use Rattle.zarr_codecs_sections.proofs.spreading.mask_elements.Goals as goal

pub returns-clause-all : goal.returns-clause-all
returns-clause-all c inner masks found are mask =
    let marks = c.args.marks.items in
    all_put_below inner (payload_of c.args.below) (optional (payload_of c.in_ok-new.field-0.value) marks) marks masks found (ap (λ a. optional (payload_of a) marks) c.in_ok-new.ensures.ok) are mask

pub returns-clause-chosen : goal.returns-clause-chosen
returns-clause-chosen c inner outer masks found are mask many =
    let marks = c.args.marks.items in
    chosen_put inner (payload_of c.args.below) (optional (payload_of c.in_ok-new.field-0.value) marks) marks outer masks found (ap (λ a. optional (payload_of a) marks) c.in_ok-new.ensures.ok) are mask many
