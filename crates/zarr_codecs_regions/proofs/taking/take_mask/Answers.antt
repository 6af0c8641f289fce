use Rattle.std.proofs.Common.{◌≡◌, ℕ, List, map, slice_index}
use Rattle.std.proofs.lemmas.Result.{IfOk-weaker}
use Rattle.zarr_grids_boxes.specs.Subsets.{region_of}
use Rattle.zarr_codecs_meaning.specs.Payloads.{fixed_cells}
use Rattle.zarr_codecs_meaning.specs.Places.{gather}
use Rattle.zarr_codecs_traits.specs.Indexers.{numbers_of}
use Rattle.zarr_codecs_regions.proofs.MaskNumbers.{as_cell, mask_taken}
use Rattle.zarr_codecs_regions.proofs.taking.take_mask.Goals as goal

pub returns-in-Some : goal.returns-in-Some
returns-in-Some c =
    let mask : List ℕ = c.args.mask.now in
    let numbers = numbers_of c.args.shape.now (region_of c.args.region.now) in
    IfOk-weaker c.extract_box.result (λ taken. fixed_cells 1 taken.items ≡ gather (as_cell 0) (fixed_cells 1 mask) numbers) (λ taken. taken.items ≡ map (slice_index mask) numbers)
    (λ taken e. mask_taken mask taken.items numbers e) (c.extract_box.ensures.elements (as_cell 0))
